use Rattle.std.proofs.Common.{take}
use Rattle.hd_classes.specs.Names.{HasNames}
use Rattle.hd_classes.proofs.class_names.names_of.Given as goal

-- the names of the classes loaded so far
abbrev pub invariant-loop-load : goal.invariant-loop-load
invariant-loop-load l = HasNames l.bytes l.classes (take l.load-index l.load-items) l.copied
