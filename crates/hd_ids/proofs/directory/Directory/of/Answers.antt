use Rattle.std.proofs.Common.{get_or, refl, arith}
use Rattle.hd_ids.proofs.DirectoryLemmas.{row-told}
use Rattle.hd_ids.proofs.directory.Directory.of.Goals as goal

pub loop-row-preserved : goal.loop-row-preserved
loop-row-preserved c =
    let row = c.loop-row.row in
    row-told c.args.pages.now c.loop-row.directory c.note.new.self (get_or c.args.pages.now row 0) row c.requires.distinct
    (omega arith) refl c.note.ensures c.loop-row.invariant
