use Rattle.std.proofs.Common.{◌≡◌, ◌∙◌, ◌++◌, [], ℕ, List, map, string_bytes, ap}
use Rattle.std.specs.List.{flat_map}
use Rattle.hd_lines.specs.Replies.{with_newline}
use Rattle.hd_words.specs.EventLines.{event_line}
use Rattle.hd_words.specs.declared.event_lines.EventRow.{EventRow}
use Rattle.hd_analyst.proofs.EventRows.{lines_of_rows}
use Rattle.hd_analyst.proofs.texts.log_text.Goals as goal

pub returns : goal.returns
returns c =
    let empty : string_bytes c.new-text.result ≡ [] = c.new-text.ensures.bytes in
    c.in_ok-put_lines.ensures.lines
    ∙ ap (λ (before : List ℕ). before ++ flat_map with_newline (map event_line c.as_slice.result.now)) empty
    ∙ ap (λ (rows : List EventRow). flat_map with_newline (map event_line rows)) (c.as_slice.ensures.value ∙ c.in_ok-rows.ensures)
    ∙ ap (flat_map with_newline) (lines_of_rows c.args.front.now)
