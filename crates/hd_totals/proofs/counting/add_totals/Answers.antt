use Rattle.std.proofs.Common.{◌≡◌, ◌∙◌, ap, subst}
use Rattle.std.proofs.Math.ListN.{set}
use Rattle.hd_totals.specs.declared.total.StrengthTotals.{StrengthTotals}
use Rattle.hd_totals.specs.Running.{IsRowPut}
use Rattle.hd_totals.specs.Totals.{Totals, row_at, sums_of}
use Rattle.hd_totals.proofs.RowLemmas.{put-placed}
use Rattle.hd_totals.proofs.counting.add_totals.Goals as goal

pub returns : goal.returns
returns c =
    let t : Totals = record { keys = c.args.keys.now; rows = c.args.rows.now.items } in
    let t' : Totals = record { keys = c.place_for.new.keys; rows = c.place_for.new.rows.items } in
    let p = put-placed t t' c.args.key c.in_ok-place.place c.index.result.now c.sum.result c.in_ok-place.ensures c.index.ensures in
    let row : c.sum.result ≡ sums_of (row_at t c.args.key) c.args.totals = c.sum.ensures ∙ ap (λ (x : StrengthTotals). sums_of x c.args.totals) p.0 in
    subst (λ (x : StrengthTotals). IsRowPut t (record { keys = t'.keys; rows = set t'.rows c.in_ok-place.place c.sum.result }) c.args.key x) row p.1
