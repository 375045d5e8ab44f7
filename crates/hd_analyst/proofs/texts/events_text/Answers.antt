use Rattle.std.proofs.Common.{◌∙◌, ℕ, List, map, ap}
use Rattle.hd_lines.specs.Replies.{answered}
use Rattle.hd_terms.specs.Listed.{first_items}
use Rattle.hd_words.specs.EventLines.{event_line}
use Rattle.hd_words.specs.declared.event_lines.EventRow.{EventRow}
use Rattle.hd_analyst.specs.EventRows.{event_rows}
use Rattle.hd_analyst.proofs.EventRows.{lines_of_rows}
use Rattle.hd_analyst.proofs.texts.events_text.Goals as goal

pub returns : goal.returns
returns c =
    c.in_ok-text.ensures.lines
    ∙ ap (λ (rows : List EventRow). answered (first_items c.args.showing.most (map event_line rows))) (c.as_slice.ensures.value ∙ c.in_ok-rows.ensures
    ∙ ap event_rows c.front.ensures)
    ∙ ap (λ (lines : List (List ℕ)). answered (first_items c.args.showing.most lines)) (lines_of_rows c.args.state.now.log)
