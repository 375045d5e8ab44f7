use Rattle.std.proofs.Common.{◌≡◌, ◌∙◌, ap, subst}
use Rattle.std.proofs.Math.ListN.{set}
use Rattle.hd_totals.specs.declared.total.StrengthTotals.{StrengthTotals}
use Rattle.hd_totals.specs.Running.{IsRowPut, plus_one}
use Rattle.hd_totals.specs.Totals.{Totals, row_at}
use Rattle.hd_totals.proofs.RowLemmas.{put-placed}
use Rattle.hd_totals.proofs.counting.count_object.Goals as goal

pub returns : goal.returns
returns c =
    let t : Totals = record { keys = c.args.keys.now; rows = c.args.rows.now.items } in
    let t' : Totals = record { keys = c.place_by_guess.new.keys; rows = c.place_by_guess.new.rows.items } in
    let p = put-placed t t' c.args.key c.in_ok-place.place c.index_mut.result.now c.add.new.self c.in_ok-place.ensures c.index_mut.ensures.value in
    let row : c.add.new.self ≡ plus_one (row_at t c.args.key) c.args.strength c.args.bytes = c.add.ensures
    ∙ ap (λ (x : StrengthTotals). plus_one x c.args.strength c.args.bytes) p.0 in
    subst (λ (x : StrengthTotals). IsRowPut t (record { keys = t'.keys; rows = set t'.rows c.in_ok-place.place c.add.new.self }) c.args.key x) row p.1
