use Rattle.std.proofs.Common.{refl}
use Rattle.hd_shapes.proofs.JoinLemmas.{part-seen}
use Rattle.hd_shapes.proofs.joined_shapes.JoinedShapes.as_list.Goals as goal

pub invariant_of-result : goal.invariant_of-result
invariant_of-result c =
    part-seen c.self.inside.parts.items c.self.inside.index c.self.inside.count c.args.self.now 0 0 c.index.result.now c.self.invariant c.self.view_is
    c.self.invariant.some c.index.ensures refl
