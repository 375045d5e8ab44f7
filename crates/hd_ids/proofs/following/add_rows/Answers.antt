use Rattle.std.proofs.Common.{◌<◌, ◌^◌, get_or, refl, arith}
use Rattle.hd_ids.proofs.GotLemmas.{one-more}
use Rattle.hd_ids.proofs.following.add_rows.Goals as goal

pub loop-i-preserved : goal.loop-i-preserved
loop-i-preserved c =
    let i = c.loop-i.i in
    let more = c.args.more.now in
    let low : get_or more i 0 < 2 ^ 55 = c.requires.low i 0 (omega arith) in
    rw c.in_ok-push.ensures.items
    (one-more c.args.pages.now.keys c.args.numbers.now c.loop-i.pages.keys c.loop-i.numbers c.loop-i.rows.items more i c.loop-i.invariant
    (get_or more i 0) c.in_ok-row.row refl c.row_for.new.pages.keys c.row_for.new.numbers low c.in_ok-row.ensures)
