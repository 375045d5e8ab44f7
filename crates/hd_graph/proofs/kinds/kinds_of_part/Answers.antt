-- One object of the part after another: its reference, if it goes through a referent to an object, joins the list of
-- its kind. At the end the lists are those of the part.
use Rattle.std.proofs.Common.{◌≡◌, ◌∙◌, ◌+◌, ◌<◌, ℕ, length, subst, arith}
use Rattle.hd_shapes.specs.JoinedShapes.{ObjectShapes}
use Rattle.hd_graph.specs.Shapes.{row_objects}
use Rattle.hd_graph.specs.Kinds.{IsReferentEdge, AreKindsBetween, part_start}
use Rattle.hd_graph.proofs.ArrayLemmas.{length-row_objects}
use Rattle.hd_graph.proofs.KindLemmas.{part-order, part-within, none-from_not, keeps-none, keeps-one, kinds-none, kinds-next}
use Rattle.hd_graph.proofs.kinds.kinds_of_part.Goals as goal
use Rattle.hd_graph.proofs.kinds.kinds_of_part.Goals.{in-Some+in_ok-push, in_default}

pub loop-o-init : goal.loop-o-init
loop-o-init c = (
  kinds-none (row_objects c.args.shapes.now.objects c.args.slot_table.now.ids c.args.slot_table.now.rows)
      (part_start c.objects-objects.result c.args.part) c.none-lists.result c.none-lists.ensures,
  c.as_list-list.ensures,
)

pub loop-o-preserved : goal.loop-o-preserved
loop-o-preserved c =
    let ids = c.args.slot_table.now.ids in
    let rows = c.args.slot_table.now.rows in
    let objects = row_objects c.args.shapes.now.objects ids rows in
    let n : ℕ = c.objects-objects.result in
    let many : n ≡ length ids = c.objects-objects.ensures in
    let all = length-row_objects c.args.shapes.now.objects ids rows c.requires.columns in
    let lt : c.loop-o.o < length objects = omega (arith, c.loop-o-test.true, part-within n (c.args.part + 1) (omega (arith, c.requires.part)), many, all) in
    let edge : IsReferentEdge objects c.loop-o.o c.referent_edge.result =
    subst (λ (s : ObjectShapes). IsReferentEdge (row_objects s.objects ids rows) c.loop-o.o c.referent_edge.result) c.loop-o.invariant.1
    c.referent_edge.ensures.edge in (
      elim c.match-referent_edge.branch [
        | in-Some+in_ok-push w ↦
            rw w.lists-is
            (kinds-next objects (part_start n c.args.part) c.loop-o.o c.loop-o.lists w.push.new.self lt c.loop-o.invariant.0
            (keeps-one objects c.loop-o.o w.in-Some.index w.in-Some.kind c.loop-o.lists w.push.new.self
            (subst (IsReferentEdge objects c.loop-o.o) w.in-Some.is edge) w.in_ok-push.ensures))
        | in_default w ↦
            rw w.lists-is
            (kinds-next objects (part_start n c.args.part) c.loop-o.o c.loop-o.lists c.loop-o.lists lt c.loop-o.invariant.0
            (keeps-none objects c.loop-o.o c.loop-o.lists
            (subst (IsReferentEdge objects c.loop-o.o) (none-from_not c.referent_edge.result w.in_default.not-Some) edge)))
      ],
      c.referent_edge.ensures.same ∙ c.loop-o.invariant.1,
    )

pub returns : goal.returns
returns c =
    let objects = row_objects c.args.shapes.now.objects c.args.slot_table.now.ids c.args.slot_table.now.rows in
    let n : ℕ = c.objects-objects.result in
    let many : n ≡ length c.args.slot_table.now.ids = c.objects-objects.ensures in
    let all : n ≡ length objects =
    omega (arith, many, length-row_objects c.args.shapes.now.objects c.args.slot_table.now.ids c.args.slot_table.now.rows c.requires.columns) in
    let end : c.loop-o.o ≡ part_start n (c.args.part + 1) = omega (arith, c.loop-o-test.false, part-order n c.args.part) in
    subst (λ (m : ℕ). AreKindsBetween objects (part_start m c.args.part) (part_start m (c.args.part + 1)) c.loop-o.lists) all
    (subst (λ (o : ℕ). AreKindsBetween objects (part_start n c.args.part) o c.loop-o.lists) end c.loop-o.invariant.0)
