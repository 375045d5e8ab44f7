use Rattle.std.proofs.Common.{◌∙◌, ◌==◌, Bool, List, ℕ, cond, ◌++◌, ◌∷◌, [], ap}
use Rattle.std.specs.List.{list_any}
use Rattle.hd_ids.proofs.RowLemmas.{row-absent}
use Rattle.hd_ids.proofs.rows.add_row.Goals as goal

pub returns-clause-pages : goal.returns-clause-pages
returns-clause-pages c =
    let pages : List ℕ = c.args.pages.now.keys in
    c.in_ok-insert.ensures.keys
    ∙ ap (λ (ks : List ℕ). cond (list_any (λ k. c.args.page == k) ks) ks (ks ++ c.args.page ∷ [])) c.in_ok-reserve.ensures.keys
    ∙ ap (λ (b : Bool). cond b pages (pages ++ c.args.page ∷ [])) (row-absent pages c.args.page c.requires.new)
