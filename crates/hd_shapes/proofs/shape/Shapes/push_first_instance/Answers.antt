use Rattle.std.proofs.Common.{◌∙◌}
use Rattle.hd_shapes.proofs.PackedLemmas.{first-push}
use Rattle.hd_shapes.proofs.shape.Shapes.push_first_instance.Goals as goal

pub returns : goal.returns
returns c =
    rw (c.in_ok-push.ensures.added, c.push_reserved.ensures.items, c.in_ok-reserve.ensures.items, ← c.self.view_is)
    (first-push c.self.inside.classes.items c.self.inside.layouts.items c.args.shape c.self.inside.kept c.self.inside.numbers.items c.args.class _
    c.self.invariant (c.len-index.ensures ∙ c.self.inside.layouts.ok.0))
