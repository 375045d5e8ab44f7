use Rattle.std.proofs.Common.{◌∙◌, List, Ok, map, refl, ap}
use Rattle.hd_terms.specs.declared.ClassRow.{ClassRow}
use Rattle.hd_terms.specs.Dump.{Dump}
use Rattle.hd_lines.specs.Replies.{answered, class_line}
use Rattle.hd_terms.specs.Listed.{first_items}
use Rattle.hd_analyst.proofs.texts.top_text.Goals as goal

pub returns : goal.returns
returns c =
    let dump = c.args.state.now.dump in
    let rows = c.in_ok-rows.rows.items in
    let most = c.args.showing.most in (
      Ok (map (class_line dump) rows),
      (rows, c.in_ok-rows.ensures, refl),
      c.in_ok-text.ensures.lines
          ∙ ap (λ (d : Dump). answered (first_items most (map (class_line d) c.as_slice.result.now))) c.graph.ensures
          ∙ ap (λ (rs : List ClassRow). answered (first_items most (map (class_line dump) rs))) c.as_slice.ensures.value,
    )
