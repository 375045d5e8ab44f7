use Rattle.std.proofs.Common.{◌∙◌, List, Option, [], ◌∷◌, ◌++◌, ap, sym, subst}
use Rattle.std.specs.Prelude.{not}
use Rattle.hd_shapes.specs.Shapes.{ObjectShape}
use Rattle.hd_shapes.specs.PackedShapes.{ShapeLists, made_layout}
use Rattle.hd_graph.specs.Building.{AreLayouts}
use Rattle.hd_graph.proofs.MadeLemmas.{some-made, made-more, some-bytes}
use Rattle.hd_graph.proofs.instance_shapes.push_shape.Goals as goal

pub push_instance-requires : goal.push_instance-requires
push_instance-requires c = some-bytes (made_layout c.args.shapes.now.layouts c.args.class) c.instance_bytes.result c.instance_bytes.ensures
    (c.is_none.ensures ∙ ap not c.if-is_none.false)

pub returns-in_ok-push_instance : goal.returns-in_ok-push_instance
returns-in_ok-push_instance c =
    let pushed = c.in_ok-push_instance.ensures _
    (some-made c.args.layouts.now.size c.args.layouts.now.classes c.args.shapes.now.layouts c.args.class c.requires.classes
    (some-bytes (made_layout c.args.shapes.now.layouts c.args.class) c.instance_bytes.result c.instance_bytes.ensures
    (c.is_none.ensures ∙ ap not c.if-is_none.false))) in
    record {
      added = ap (λ (s : ShapeLists). s.objects) pushed;
      classes = subst (λ (ls : List (Option ObjectShape)). AreLayouts c.args.layouts.now.size c.args.layouts.now.classes ls)
          (sym (ap (λ (s : ShapeLists). s.layouts) pushed)) c.requires.classes;
    }

pub returns-in_ok-push_first_instance : goal.returns-in_ok-push_first_instance
returns-in_ok-push_first_instance c =
    let pushed = c.in_ok-push_first_instance.ensures in
    let is = c.in_ok-shape.ensures in
    record {
      added = ap (λ (s : ShapeLists). s.objects) pushed ∙ ap (λ (s : ObjectShape). c.args.shapes.now.objects ++ s ∷ []) is;
      classes = subst (λ (ls : List (Option ObjectShape)). AreLayouts c.args.layouts.now.size c.args.layouts.now.classes ls)
          (sym (ap (λ (s : ShapeLists). s.layouts) pushed))
          (made-more c.args.layouts.now.size c.args.layouts.now.classes c.args.shapes.now.layouts c.args.class _ c.requires.classes is);
    }
