use Rattle.std.proofs.Common.{◌∙◌, map, ap, arith}
use Rattle.std.specs.List.{sum}
use Rattle.hd_slots.proofs.PartLemmas.{len_of_part, total}
use Rattle.hd_slots.proofs.slot_table.SlotTable.new.Goals as goal

pub of-requires-clause-few : goal.of-requires-clause-few
of-requires-clause-few c =
    let lens = ap sum (c.as_slice-2.ensures.value ∙ c.in_ok-lens.ensures ∙ ap (map len_of_part) c.as_slice.ensures.value) in
    omega (arith, c.requires.few_rows, lens, total c.args.parts.items)
