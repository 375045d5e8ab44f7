use Rattle.std.proofs.Common.{◌∙◌, ◌<◌, List, ℕ, length, ap, sym, subst, arith, slice_index}
use Rattle.hd_slots.specs.Shared.{IsKept, found_item}
use Rattle.hd_slots.proofs.ResolvingLemmas.{as-it-was, mapped-next}
use Rattle.hd_slots.proofs.resolving.find_part.Goals as goal

pub find_item-requires-clause-kept : goal.find_item-requires-clause-kept
find_item-requires-clause-kept c =
    let lt : c.loop-i.i < length c.args.part.now = omega arith in
    subst (IsKept c.args.id_size (length c.args.bytes.now) (length c.args.shared.now))
    (sym (as-it-was (found_item c.args.ids.now c.args.bytes.now c.args.id_size c.args.shared.now) c.args.part.now c.loop-i.part c.loop-i.i
    c.loop-i.invariant.0))
    (c.requires.kept c.loop-i.i 0 lt)

pub loop-i-preserved : goal.loop-i-preserved
loop-i-preserved c = (
  mapped-next (found_item c.args.ids.now c.args.bytes.now c.args.id_size c.args.shared.now) c.args.part.now c.loop-i.part c.loop-i.i c.loop-i.invariant.0
      (omega arith) c.find_item.result
      (c.find_item.ensures.found
      ∙ ap (λ (ids : List ℕ). found_item ids c.args.bytes.now c.args.id_size c.args.shared.now (slice_index c.loop-i.part c.loop-i.i))
      c.loop-i.invariant.1),
  c.find_item.ensures.same ∙ c.loop-i.invariant.1,
)
