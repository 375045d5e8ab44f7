use Rattle.std.proofs.Common.{◌≡◌, drop}
use Rattle.hd_words.specs.Words.{words_between}
use Rattle.hd_words.proofs.words.spaces.Given as goal

-- what is left has the words
abbrev pub invariant-loop-i : goal.invariant-loop-i
invariant-loop-i l = words_between (drop l.i l.bytes) ≡ words_between l.bytes
