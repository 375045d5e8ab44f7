use Rattle.std.proofs.Common.{◌<◌, ◌∙◌, length, refl, arith}
use Rattle.hd_repair.proofs.OutLemmas.{entry_within, step_some, step_none}
use Rattle.hd_edges.specs.Marks.{marked_edge}
use Rattle.hd_repair.proofs.offering.offer_out_of.Goals as goal
use Rattle.hd_repair.proofs.offering.offer_out_of.Goals.{in-Some+in_ok-push, in_default}

pub offer_of-requires : goal.offer_of-requires
offer_of-requires g c =
    let rows = g.E.Edges.rows in
    let lt : c.loop-i.i < length ((rows c.args.edges.now).out c.args.o) = omega arith in
    entry_within (rows c.args.edges.now) (rows c.loop-i.edges) c.loop-i.invariant.same (g.met.E.Edges.lawful c.loop-i.edges) c.args.kept.now c.args.o c.loop-i.i
    (marked_edge c.out-edge.result) lt c.out-edge.ensures.value
    (length c.args.kept.now) c.requires.count c.requires.object

pub loop-i-preserved : goal.loop-i-preserved
loop-i-preserved g c =
    let rows = g.E.Edges.rows in
    let lt : c.loop-i.i < length ((rows c.args.edges.now).out c.args.o) = omega arith in
    record {
      same = c.out-edge.ensures.same ∙ c.loop-i.invariant.same;
      looks = omega (arith, c.out-edge.ensures.counted, c.loop-i.invariant.looks);
      adds = elim c.match-offer_of.branch [
        | in-Some+in_ok-push w ↦
            rw w.offers-is (step_some (rows c.args.edges.now) (rows c.loop-i.edges) c.loop-i.invariant.same
            (g.met.E.Edges.lawful c.loop-i.edges) c.args.kept.now c.args.o c.loop-i.i (marked_edge c.out-edge.result) lt c.out-edge.ensures.value
            c.args.offers.now c.loop-i.offers w.push.new.self c.loop-i.invariant.adds w.in-Some.offer w.in-Some.ensures.some w.in_ok-push.ensures)
        | in_default w ↦ rw w.offers-is
            (step_none (rows c.args.edges.now) (rows c.loop-i.edges) c.loop-i.invariant.same
            (g.met.E.Edges.lawful c.loop-i.edges) c.args.kept.now c.args.o c.loop-i.i (marked_edge c.out-edge.result) lt c.out-edge.ensures.value
            c.args.offers.now c.loop-i.offers c.loop-i.offers c.loop-i.invariant.adds w.in_default.ensures.none refl)
      ];
    }
