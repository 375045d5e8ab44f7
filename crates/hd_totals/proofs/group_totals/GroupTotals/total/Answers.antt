use Rattle.std.proofs.Common.{◌∙◌, ap}
use Rattle.hd_terms.specs.Listed.{group_key}
use Rattle.hd_totals.specs.declared.total.StrengthTotals.{StrengthTotals}
use Rattle.hd_totals.specs.Totals.{total_for}
use Rattle.hd_totals.proofs.RowLemmas.{read-row}
use Rattle.hd_totals.specs.contracts.group_totals.GroupTotals.{the_view}
use Rattle.hd_totals.proofs.group_totals.GroupTotals.total.Goals as goal

pub returns-in-Some-clause-total : goal.returns-in-Some-clause-total
returns-in-Some-clause-total c =
    c.of.ensures ∙ ap (λ (row : StrengthTotals). total_for row c.args.strength)
    (read-row (the_view c.self.inside) c.args.self.now
    (group_key c.args.group) c.in-Some.place c.get.result c.self.view_is c.in-Some.ensures.place.0 c.get.ensures)
