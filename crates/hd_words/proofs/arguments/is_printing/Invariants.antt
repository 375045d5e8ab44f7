use Rattle.std.proofs.Common.{◌≡◌, true, take}
use Rattle.std.specs.List.{list_all}
use Rattle.hd_lines.specs.Lines.{is_printing}
use Rattle.hd_words.proofs.arguments.is_printing.Given as goal

-- the bytes that were passed print
abbrev pub invariant-loop-byte : goal.invariant-loop-byte
invariant-loop-byte l = list_all is_printing (take l.byte-index l.word) ≡ true
