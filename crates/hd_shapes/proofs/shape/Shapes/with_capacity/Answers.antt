use Rattle.std.proofs.Common.{◌≡◌, List, [], Option, replicate, ap}
use Rattle.hd_shapes.specs.Shapes.{ObjectShape}
use Rattle.hd_shapes.specs.PackedShapes.{ShapeLists}
use Rattle.hd_shapes.proofs.PackedLemmas.{zeros-none, resized}
use Rattle.hd_shapes.proofs.shape.Shapes.with_capacity.Goals as goal

pub returns : goal.returns
returns c =
    let zeros : c.resize.new.self.items ≡ replicate c.args.known 0 =
    resized c.args.known _ c.in_ok-numbers.numbers.items _ c.in_ok-numbers.ensures.items c.in_ok-numbers.ensures.len c.in_ok-resize.ensures.items in
    rw (c.in_ok-kept.ensures, zeros)
    (ap (λ (os : List (Option ObjectShape)). let s : ShapeLists = record { objects = []; layouts = os } in s) (zeros-none c.new-2.result.items c.args.known))
