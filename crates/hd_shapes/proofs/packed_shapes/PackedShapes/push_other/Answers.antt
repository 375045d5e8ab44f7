use Rattle.std.proofs.Common.{arith}
use Rattle.hd_shapes.proofs.CodeLemmas.{other-push}
use Rattle.hd_shapes.proofs.packed_shapes.PackedShapes.push_other.Goals as goal

pub returns-clause-added : goal.returns-clause-added
returns-clause-added c =
    rw (c.push_reserved.ensures.items, c.in_ok-push.ensures.items, c.in_ok-reserve.ensures.items, ← c.self.view_is)
    (other-push c.self.inside.others.items c.args.shape c.self.inside.codes.items _ c.self.invariant
    (omega (arith, c.len-index.ensures, c.self.inside.others.ok.0)))
