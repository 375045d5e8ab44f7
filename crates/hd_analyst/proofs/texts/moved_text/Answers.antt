use Rattle.std.proofs.Common.{◌∙◌, List, Ok, map, refl, ap}
use Rattle.hd_terms.specs.declared.MovedRow.{MovedRow}
use Rattle.hd_lines.specs.Replies.{answered, moved_line}
use Rattle.hd_terms.specs.Listed.{first_items}
use Rattle.hd_analyst.proofs.texts.moved_text.Goals as goal

pub returns : goal.returns
returns c =
    let rows = c.in_ok-rows.rows.items in (
      Ok (map moved_line rows),
      (rows, c.in_ok-rows.ensures, refl),
      c.in_ok-text.ensures.lines ∙ ap (λ (rs : List MovedRow). answered (first_items c.args.showing.most (map moved_line rs))) c.as_slice.ensures.value,
    )
