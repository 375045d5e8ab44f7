-- One item after another: its target is new in the set and comes last, or is there already.
-- So each target is there once, and only targets are.
use Rattle.std.proofs.Common.{◌≡◌, ◌∙◌, inl, inr, ◌<◌, ℕ, length, take, get_or, arith, sym, ap, true≢false, List, [], ◌∷◌, ◌++◌}
use Rattle.std.proofs.lemmas.List.{take_all, take_more}
use Rattle.std.proofs.lemmas.List.Elements.{Contains-get_or}
use Rattle.hd_terms.specs.declared.Support.TheVariants as supports
use Rattle.hd_terms.specs.Regions.{Holding}
use Rattle.hd_repair.proofs.MarkLemmas.{any_default}
use Rattle.hd_repair.proofs.GainLemmas.{add_target, keep_targets, inserted}
use Rattle.hd_repair.proofs.targets.targets_of.Goals as goal
use Rattle.hd_repair.proofs.targets.targets_of.Goals.{then-is_new+in_ok-push, else-is_new}

pub loop-item-preserved : goal.loop-item-preserved
loop-item-preserved c =
    let none : Holding = record { target = 0; holder = supports.Nothing } in
    let items = c.args.items.now in
    let i = c.loop-item.item-index in
    let ts = c.loop-item.targets.items in
    let lt : i < length items = omega arith in
    let x : Holding = get_or items i none in
    let item : c.item-item.result ≡ x = c.item-item.is ∙ any_default items i c.item-item.result none lt in
    let k : c.target-target.result ≡ x.target = c.target-target.ensures ∙ ap (λ (h : Holding). h.target) item in
    let how = inserted c.target-target.result c.loop-item.seen.keys c.insert_full.new.self.keys c.in_ok-is_new.is_new c.in_ok-is_new.ensures.added
    c.in_ok-is_new.ensures.keys in
    elim c.if-is_new.branch [
      | then-is_new+in_ok-push w ↦ elim how [
        | inl fresh ↦ rw w.targets-is (record {
          seen = fresh.2 ∙ ap (λ (ks : List ℕ). ks ++ c.target-target.result ∷ []) c.loop-item.invariant.seen ∙ sym w.in_ok-push.ensures.items;
          targets = rw (take_more items i none lt, w.in_ok-push.ensures.items, k)
              (add_target items (take i items) ts x c.loop-item.invariant.targets (Contains-get_or items i none lt)
              (λ is. fresh.1 (rw (c.loop-item.invariant.seen, k) is)));
        })
        | inr seen ↦ absurd (true≢false (sym w.if-is_new.true ∙ seen.0))
      ]
      | else-is_new w ↦ elim how [
        | inl fresh ↦ absurd (true≢false (sym fresh.0 ∙ w.if-is_new.false))
        | inr seen ↦ rw w.targets-is (record {
          seen = seen.2 ∙ c.loop-item.invariant.seen;
          targets = rw (take_more items i none lt)
              (keep_targets items (take i items) ts x c.loop-item.invariant.targets (rw (← c.loop-item.invariant.seen, ← k) seen.1));
        })
      ]
    ]

pub returns-clause-all : goal.returns-clause-all
returns-clause-all c = λ h is. c.loop-item.invariant.targets.all h (rw (take_all c.loop-item.item-index c.args.items.now c.loop-item-test.false) is)
