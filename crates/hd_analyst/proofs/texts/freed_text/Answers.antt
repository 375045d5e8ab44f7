use Rattle.std.proofs.Common.{◌∙◌, ℕ, List, ◌∷◌, Ok, map, refl, ap}
use Rattle.hd_terms.specs.declared.ClassRow.{ClassRow}
use Rattle.hd_terms.specs.Dump.{Dump}
use Rattle.hd_lines.specs.Replies.{answered, class_line, total_line}
use Rattle.hd_terms.specs.Listed.{first_items}
use Rattle.hd_analyst.proofs.texts.freed_text.Goals as goal

pub returns : goal.returns
returns c =
    let dump = c.args.state.now.dump in
    let freed = c.in_ok-freed.freed in
    let rows = freed.rows.items in
    let most = c.args.showing.most in
    let total = total_line freed.total.count freed.total.bytes in (
      Ok (total ∷ map (class_line dump) rows),
      record {
        count = freed.total.count;
        bytes = freed.total.bytes;
        rows = rows;
        total = c.in_ok-freed.ensures.total;
        groups = c.in_ok-freed.ensures.rows;
        lines = refl;
      },
      c.in_ok-text.ensures.lines
          ∙ ap (λ (start : List ℕ). answered (first_items most (start ∷ map (class_line c.graph.result.now) c.as_slice.result.now)))
          (c.as_str.ensures.value ∙ c.in_ok-start.ensures)
          ∙ ap (λ (d : Dump). answered (first_items most (total ∷ map (class_line d) c.as_slice.result.now))) c.graph.ensures
          ∙ ap (λ (rs : List ClassRow). answered (first_items most (total ∷ map (class_line dump) rs))) c.as_slice.ensures.value,
    )
