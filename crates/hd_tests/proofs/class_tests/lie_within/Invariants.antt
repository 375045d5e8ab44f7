use Rattle.std.proofs.Common.{take, All}
use Rattle.hd_classes.specs.Known.{IsTextWithin}
use Rattle.hd_tests.proofs.class_tests.lie_within.Given as goal

-- the texts so far lie within
abbrev pub invariant-loop-text : goal.invariant-loop-text
invariant-loop-text l = All (IsTextWithin l.len) (take l.text-index l.text-items)
