use Rattle.std.proofs.Common.{◌≡◌, [], length}
use Rattle.hd_lines.specs.Lines.{last_of}
use Rattle.hd_words.specs.Words.{words_between}
use Rattle.hd_words.proofs.words.last_of.Given as goal

-- the last of the words that are left, or else the last that was passed, is the last of all
abbrev pub invariant-loop-word : goal.invariant-loop-word
invariant-loop-word l = last_of l.last (words_between l.rest) ≡ last_of [] (words_between l.words)

abbrev pub decreases-loop-word : goal.decreases-loop-word
decreases-loop-word l = length (words_between l.rest)
