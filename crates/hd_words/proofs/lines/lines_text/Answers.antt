use Rattle.std.proofs.Common.{◌∙◌, ℕ, List, ◌++◌, length, map, take, ap}
use Rattle.std.specs.Prelude.{codes, decimal}
use Rattle.std.specs.List.{flat_map}
use Rattle.hd_lines.specs.Replies.{with_newline}
use Rattle.hd_terms.specs.Listed.{first_items}
use Rattle.hd_words.specs.FirstLines.{first_count}
use Rattle.hd_words.proofs.FirstLineLemmas.{count-of-first, lines-of-first}
use Rattle.hd_words.proofs.lines.lines_text.Goals as goal

pub returns-clause-lines : goal.returns-clause-lines
returns-clause-lines g c =
    let line = g.F.LineFormat.line c.args.format.now in
    let rows = c.args.rows.now in
    let most = c.args.most in
    c.in_ok-put_lines.ensures.lines
    ∙ ap (λ (text : List ℕ). text ++ flat_map with_newline (map line (take c.count_of-count.result rows))) c.in_ok-put_count.ensures
    ∙ ap (λ (text : List ℕ). (text ++ with_newline (codes "ok " ++ decimal c.count_of-count.result))
    ++ flat_map with_newline (map line (take c.count_of-count.result rows))) c.new-text.ensures.bytes
    ∙ ap (λ (n : ℕ). with_newline (codes "ok " ++ decimal n) ++ flat_map with_newline (map line (take n rows))) c.count_of-count.ensures
    ∙ ap (λ (n : ℕ). with_newline (codes "ok " ++ decimal n) ++ flat_map with_newline (map line (take (first_count (length rows) most) rows)))
    (count-of-first line most rows)
    ∙ ap (λ (lines : List (List ℕ)). with_newline (codes "ok " ++ decimal (length (first_items most (map line rows)))) ++ flat_map with_newline lines)
    (lines-of-first line most rows)
