use Rattle.std.proofs.Common.{◌∙◌, ◌++◌, string_bytes, ap, sym, arith}
use Rattle.std.proofs.lemmas.List.Folds.{flat_map-map}
use Rattle.hd_lines.specs.Replies.{with_newline}
use Rattle.hd_words.proofs.FlatMaps.{flat_all}
use Rattle.hd_words.proofs.lines.put_lines.Goals as goal

pub returns-clause-lines : goal.returns-clause-lines
returns-clause-lines g c =
    let line = g.F.LineFormat.line c.args.format.now in
    c.loop-row.invariant.lines
    ∙ flat_all (λ row. with_newline (line row)) (string_bytes c.args.text.now) c.args.rows.now c.loop-row.row-index (omega arith)
    ∙ ap (λ l. string_bytes c.args.text.now ++ l) (sym (flat_map-map with_newline line c.args.rows.now))
