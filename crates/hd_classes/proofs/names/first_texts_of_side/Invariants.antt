use Rattle.std.proofs.Common.{take}
use Rattle.hd_classes.specs.Sources.{AreFirstOfSide}
use Rattle.hd_classes.proofs.names.first_texts_of_side.Given as goal

-- the texts of the side so far
abbrev pub invariant-loop-text : goal.invariant-loop-text
invariant-loop-text l = AreFirstOfSide l.odd (take l.text-index l.text-items) l.texts.entries l.repeated
