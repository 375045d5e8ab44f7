use Rattle.std.proofs.Common.{◌≡◌, ◌∙◌, ℕ, length, ap, sym, subst}
use Rattle.std.specs.Prelude.{count_by}
use Rattle.std.specs.List.{range_with_len}
use Rattle.hd_terms.specs.Kept.{AreKept}
use Rattle.hd_totals.specs.Fallen.{falls_from}
use Rattle.hd_queries.proofs.FallenLemmas.{fell-count}
use Rattle.hd_state.specs.Solution.{Solution}
use Rattle.hd_state.proofs.state.State.done.Goals as goal

pub returns : goal.returns
returns c =
    let gives = c.settled_supports_give_strengths.ensures.strengths in
    let one = c.one_strength.ensures in
    let dump = c.args.self.now.dump in
    let before = c.args.self.now.log in
    let after = c.args.front.now in
    let old = c.args.self.now.kept in
    let new = c.args.repair.now.supports in
    let kept = c.requires.kept in
    let was : AreKept dump before old = subst (λ (s : Solution). AreKept s.dump s.log s.kept) c.self.view_is c.self.invariant.kept in
    let lengths : length old ≡ length new = was.count ∙ sym kept.count in
    let fell : c.count_fallen.result ≡ count_by (falls_from old new) (range_with_len 0 (length new)) =
    c.count_fallen.ensures old new (rw c.deref.ensures.value c.requires.changes) lengths in
    let back : c.count_back.result ≡ count_by (falls_from new old) (range_with_len 0 (length old)) =
    c.count_back.ensures old new (rw c.deref-2.ensures.value c.requires.changes) lengths ∙ ap (λ (n : ℕ). count_by (falls_from new old) (range_with_len 0 n))
    (sym lengths) in
    record {
      event = c.len.ensures.len ∙ ap (λ (s : Solution). length s.log) c.self.view_is;
      fell = fell-count gives one dump before after old new was.settled kept.settled kept.count c.count_fallen.result fell;
      back = fell-count gives one dump after before new old kept.settled was.settled was.count c.count_back.result back;
    }
