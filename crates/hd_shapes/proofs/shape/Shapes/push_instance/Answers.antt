use Rattle.std.proofs.Common.{List, ap}
use Rattle.hd_shapes.specs.Shapes.{ObjectShape}
use Rattle.hd_shapes.specs.PackedShapes.{ShapeLists, numbered_layout}
use Rattle.std.proofs.Common.{map}
use Rattle.hd_shapes.proofs.PackedLemmas.{instance-again, packed-again}
use Rattle.hd_shapes.proofs.shape.Shapes.push_instance.Goals as goal

pub returns : goal.returns
returns c = λ shape is.
    rw (c.in_ok-push.ensures.added, ← c.self.view_is)
    (ap (λ (ss : List ObjectShape). let s : ShapeLists =
    record { objects = ss; layouts = map (numbered_layout c.self.inside.layouts.items) c.self.inside.numbers.items } in s)
    (instance-again c.self.inside.classes.items c.self.inside.layouts.items c.self.inside.kept c.self.inside.numbers.items c.args.class _ shape
    (rw (← c.self.view_is) at is) c.index.ensures))

pub invariant_of-self-2 : goal.invariant_of-self-2
invariant_of-self-2 c =
    rw c.in_ok-push.ensures.added
    (packed-again c.self.inside.kept _ c.self.inside.layouts.items c.self.inside.numbers.items c.args.class _ c.self.invariant
    (rw (← c.self.view_is) at c.requires) c.index.ensures)
