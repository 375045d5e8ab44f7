use Rattle.std.proofs.Common.{◌∙◌, ℕ, List, Ok, map, refl, ap}
use Rattle.hd_terms.specs.Dump.{Dump}
use Rattle.hd_lines.specs.Replies.{answered, id_line}
use Rattle.hd_terms.specs.Listed.{first_items}
use Rattle.hd_analyst.proofs.QueryLemmas.{first_of_first}
use Rattle.hd_analyst.proofs.texts.members_text.Goals as goal

pub returns : goal.returns
returns c =
    let dump = c.args.state.now.dump in
    let all = c.in_ok-ids.ensures.0 in
    let names = c.args.showing.names in
    let most = c.args.showing.most in (
      Ok (map (id_line dump names) all),
      (all, c.in_ok-ids.ensures.1, refl),
      c.in_ok-text.ensures.lines
          ∙ ap (λ (d : Dump). answered (first_items most (map (id_line d names) c.as_slice.result.now))) c.graph.ensures
          ∙ ap (λ (xs : List ℕ). answered (first_items most (map (id_line dump names) xs))) (c.as_slice.ensures.value ∙ c.in_ok-ids.ensures.2)
          ∙ ap answered (first_of_first most (id_line dump names) all),
    )
