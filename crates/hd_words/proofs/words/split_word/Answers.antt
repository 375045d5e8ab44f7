use Rattle.std.proofs.Common.{◌<◌, ◌-◌, List, ℕ, length, take, drop, refl, arith}
use Rattle.hd_words.proofs.WordLemmas.{words_split}
use Rattle.hd_words.proofs.words.split_word.Goals as goal

pub returns : goal.returns
returns c =
    let bs = c.args.bytes.now in
    let rest : List ℕ = take (length bs - c.spaces.result) (drop c.spaces.result bs) in
    let some : 0 < length rest = grind arith in
    words_split bs rest c.spaces.result c.until_space-end.result c.spaces.ensures.words c.spaces.ensures.stops refl some
    c.until_space-end.ensures.within c.until_space-end.ensures.before c.until_space-end.ensures.stops
