use Rattle.std.proofs.Common.{◌≡◌, ◌∙◌, ◌<◌, ◌+◌, ◌++◌, ◌∷◌, [], ℕ, length, refl, sym, ap, arith}
use Rattle.hd_terms.specs.Settled.{reached_at}
use Rattle.hd_strength.specs.Found.{Findings, is_found}
use Rattle.hd_strength.proofs.FoundLemmas.{found-some, found-none}
use Rattle.hd_strength.proofs.Holding.{one_queued, not_queued, all_queued}
use Rattle.hd_strength.proofs.roots.queue_reached.Goals as goal
use Rattle.hd_strength.proofs.roots.queue_reached.Goals.{then-is_reached+in_ok-push, else-is_reached}

pub loop-place-preserved : goal.loop-place-preserved
loop-place-preserved c =
    let old = c.args.part.now in
    let p = c.loop-place.part in
    let n = c.loop-place.place in
    let h = c.loop-place.invariant in
    let lt : n < length old.found.list = omega (arith, c.len-place-end.ensures) in
    let found : c.is_reached.result ≡ is_found (reached_at old.found.list n) = c.is_reached.ensures
    ∙ ap (λ (f : Findings). is_found (reached_at f.list n)) h.same.found in
    elim c.if-is_reached.branch [
      | then-is_reached+in_ok-push w ↦
          let pushed = w.in_ok-push.ensures ∙ ap (λ (m : ℕ). p.queue ++ (m + n) ∷ []) h.same.first in
          rw w.part-is (record {
            same = record { first = h.same.first; found = h.same.found; buckets = h.same.buckets; handed = h.same.handed; count = h.same.count };
            queued = one_queued old p.queue w.push.new.self n h.queued lt (found-some (reached_at old.found.list n) (sym found ∙ w.if-is_reached.true)) pushed;
          })
      | else-is_reached w ↦ rw w.part-is
          (record {
            same = h.same;
            queued =
                not_queued old p.queue p.queue n h.queued lt (found-none (reached_at old.found.list n) (sym found ∙ w.if-is_reached.false)) refl;
          })
    ]

pub returns : goal.returns
returns c = all_queued c.args.part.now c.loop-place.part c.loop-place.place c.loop-place.invariant.same c.loop-place.invariant.queued
    (omega (arith, c.len-place-end.ensures))
