use Rattle.std.proofs.Common.{◌≡◌, ◌++◌, take, string_bytes}
use Rattle.std.specs.List.{flat_map}
use Rattle.hd_lines.specs.Replies.{with_newline}
use Rattle.hd_words.proofs.lines.put_lines.Given as goal

-- the lines so far are put, and the format is the same
abbrev pub invariant-loop-row : goal.invariant-loop-row
invariant-loop-row g l = record {
  lines : string_bytes l.text ≡ string_bytes l.fn.text ++ flat_map (λ row. with_newline (g.F.LineFormat.line l.fn.format row)) (take l.row-index l.rows);
  same : l.format ≡ l.fn.format;
}
