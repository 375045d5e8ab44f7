use Rattle.std.proofs.Common.{◌<◌, length, arith}
use Rattle.std.proofs.lemmas.List.{length-map}
use Rattle.hd_shapes.specs.PackedShapes.{numbered_layout}
use Rattle.hd_shapes.proofs.PackedLemmas.{bytes-made}
use Rattle.hd_shapes.proofs.shape.Shapes.instance_bytes.Goals as goal

pub returns-in_default : goal.returns-in_default
returns-in_default c =
    let there = rw (← c.self.view_is) at c.requires in
    let lt : c.args.class < length c.self.inside.numbers.items =
    omega (arith, there, length-map c.self.inside.numbers.items (numbered_layout c.self.inside.layouts.items)) in
    let some : 0 < c.index.result.now = omega arith in
    rw (← c.self.view_is) (bytes-made c.self.inside.layouts.items c.self.inside.numbers.items c.args.class c.index.result.now c.index-in_default.result.now lt
    c.self.invariant.numbered c.index.ensures some c.index-in_default.ensures)
