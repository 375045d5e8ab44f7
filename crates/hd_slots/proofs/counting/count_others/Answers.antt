use Rattle.std.proofs.Common.{◌≡◌, ◌∙◌, ◌<◌, ℕ, List, length, map, get_or, sym, ap, arith}
use Rattle.std.proofs.lemmas.List.{length-map, get_or-map}
use Rattle.std.proofs.lemmas.List.Sums.{count_by_more_yes, count_by_more_no}
use Rattle.hd_slots.specs.Table.{is_absent}
use Rattle.hd_slots.specs.Codes.{id_of_code}
use Rattle.hd_slots.proofs.counting.count_others.Goals as goal
use Rattle.hd_slots.proofs.counting.count_others.Goals.{then-is_other, else-is_other}

pub loop-i-preserved : goal.loop-i-preserved
loop-i-preserved c =
    let ids = c.args.ids.now in
    let absent = c.args.absent.now in
    let codes = c.args.codes.now in
    let i = c.loop-i.i in
    let xs : List ℕ = map (id_of_code ids absent) codes in
    let lt : i < length codes = omega arith in
    let within : i < length xs = omega (arith, length-map codes (id_of_code ids absent)) in
    let here : get_or xs i 0 ≡ id_of_code ids absent (get_or codes i 0) = get_or-map (id_of_code ids absent) codes i 0 0 lt in
    let other : is_absent ids (get_or xs i 0) ≡ c.is_other.result = ap (is_absent ids) here ∙ sym c.is_other.ensures in
    let h = c.loop-i.invariant in
    elim c.if-is_other.branch [
      | then-is_other w ↦ record {
        others = omega (arith, w.others-is, h.others, count_by_more_yes (is_absent ids) xs i 0 within (other ∙ w.if-is_other.true));
        few = omega (arith, w.others-is, h.few);
      }
      | else-is_other w ↦ record {
        others = omega (arith, w.others-is, h.others, count_by_more_no (is_absent ids) xs i 0 within (other ∙ w.if-is_other.false));
        few = omega (arith, w.others-is, h.few);
      }
    ]
