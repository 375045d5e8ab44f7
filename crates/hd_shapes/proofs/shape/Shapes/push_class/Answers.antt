use Rattle.std.proofs.Common.{◌∙◌, List, map, ap}
use Rattle.hd_shapes.specs.Shapes.{ObjectShape}
use Rattle.hd_shapes.specs.PackedShapes.{ShapeLists, numbered_layout}
use Rattle.hd_shapes.proofs.PackedLemmas.{class-push}
use Rattle.hd_shapes.proofs.shape.Shapes.push_class.Goals as goal

pub returns : goal.returns
returns c =
    rw (c.in_ok-push.ensures.added, c.push_reserved.ensures.items, c.in_ok-reserve.ensures.items, ← c.self.view_is)
    (ap (λ (ss : List ObjectShape). let s : ShapeLists =
    record { objects = ss; layouts = map (numbered_layout c.self.inside.layouts.items) c.self.inside.numbers.items } in s)
    (class-push c.self.inside.layouts.items c.self.inside.classes.items c.args.class c.self.inside.kept _ c.self.invariant.over
    (c.len-index.ensures ∙ c.self.inside.classes.ok.0)))
