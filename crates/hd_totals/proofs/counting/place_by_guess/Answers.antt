use Rattle.std.proofs.Common.{◌≡◌, ◌<◌, ℕ, List, get_or, length, arith}
use Rattle.std.proofs.lemmas.Option.{get_or_from_slice_get}
use Rattle.hd_totals.proofs.RowLemmas.{is-placed-at}
use Rattle.hd_totals.proofs.counting.place_by_guess.Goals as goal

pub returns-then-get-key : goal.returns-then-get-key
returns-then-get-key c =
    let keys : List ℕ = c.args.keys.now in
    let within : c.args.guess < length keys = omega (arith, c.len.ensures.len, c.if-guess-len.true) in
    let there : get_or keys c.args.guess 0 ≡ c.args.key =
    omega (arith, get_or_from_slice_get keys c.args.guess c.get.result 0 c.get.ensures.key, c.if-get-key.true) in
    is-placed-at keys c.args.rows.now.items c.requires.whole c.len.ensures.keys.distinct c.args.key c.args.guess within there
