use Rattle.std.proofs.Common.{◌≡◌, take}
use Rattle.hd_shapes.specs.JoinedShapes.{part_lens}
use Rattle.hd_shapes.proofs.joined_shapes.lens_of.Given as goal

abbrev pub invariant-loop-part : goal.invariant-loop-part
invariant-loop-part l = l.lens.items ≡ part_lens (take l.part-index l.parts)
