use Rattle.std.proofs.Common.{◌∙◌, ◌==◌}
use Rattle.hd_ids.proofs.RowLemmas.{none-past}
use Rattle.hd_ids.proofs.rows.row_of.Goals as goal

pub returns-in-None-clause-row : goal.returns-in-None-clause-row
returns-in-None-clause-row c = c.len-past.ensures.len ∙ none-past (λ k. c.args.page == k) c.args.pages.now.keys c.in-None.ensures.index
