use Rattle.std.proofs.Common.{◌≡◌, ◌∙◌, ℕ, List, [], ◌∷◌, ◌++◌, ◌+◌, ◌-◌, length, map, take, string_bytes, ap, arith, lit<}
use Rattle.std.specs.List.{flat_map}
use Rattle.hd_lines.specs.Replies.{with_newline}
use Rattle.hd_words.specs.FirstLines.{first_count}
use Rattle.hd_words.proofs.FirstLineLemmas.{head, written-with-start, written-without-line}
use Rattle.hd_words.proofs.lines.lines_text_from.Goals as goal
use Rattle.hd_words.proofs.lines.lines_text_from.Goals.{then-count-gt0+in_ok-push_str+in_ok-push+in_ok-put_lines, else-count-gt0}

pub returns-clause-lines : goal.returns-clause-lines
returns-clause-lines g c =
    let line = g.F.LineFormat.line c.args.format.now in
    let rows = c.args.rows.now in
    let most = c.args.most in
    let start = c.args.start.now in
    let count = c.count_of-count.result in
    let counted : count ≡ first_count (length rows + 1) most = c.count_of-count.ensures ∙ ap (λ (n : ℕ). first_count n most) c.in-Some.ensures.1 in
    let begun : string_bytes c.put_count.new.text ≡ head count =
    c.in_ok-put_count.ensures ∙ ap (λ (text : List ℕ). text ++ head count) c.new-text.ensures.bytes in
    elim c.if-count-gt0.branch [
      | then-count-gt0+in_ok-push_str+in_ok-push+in_ok-put_lines w ↦
          written-with-start line start rows most count counted (string_bytes c.if-count-gt0.text) w.if-count-gt0.true
          (ap string_bytes w.text-is
          ∙ w.in_ok-put_lines.ensures.lines
          ∙ ap (λ (text : List ℕ). text ++ flat_map with_newline (map line (take (count - 1) rows)))
          (w.in_ok-push.ensures.bytes ∙ ap (λ (newline : List ℕ). string_bytes w.push_str.new.self ++ newline) (w.in_ok-push.ensures.ascii (lit< tt))
          ∙ ap (λ (text : List ℕ). text ++ 10 ∷ []) w.in_ok-push_str.ensures.bytes ∙ ap (λ (text : List ℕ). (text ++ start) ++ 10 ∷ []) begun))
      | else-count-gt0 w ↦
          written-without-line line start rows most count counted (string_bytes c.if-count-gt0.text) (omega (arith, w.if-count-gt0.false))
          (ap string_bytes w.text-is ∙ begun)
    ]
