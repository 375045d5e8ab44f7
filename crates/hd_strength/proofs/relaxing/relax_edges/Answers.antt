use Rattle.std.proofs.Common.{◌≡◌, ◌∙◌, length, ap, arith}
use Rattle.std.proofs.lemmas.List.{length-map}
use Rattle.hd_terms.specs.Dump.{SlotEntry, object_at}
use Rattle.hd_terms.specs.Edges.{index_of}
use Rattle.hd_strength.specs.Rows.{width}
use Rattle.hd_strength.specs.Parts.{IsAny, IsBelow}
use Rattle.hd_strength.proofs.Going.{looked, begun, gone_on_after, row_done}
use Rattle.hd_strength.proofs.relaxing.relax_edges.Goals as goal

pub loop-index-init : goal.loop-index-init
loop-index-init c = begun c.args.edited.graph.now c.args.edited.front.now c.args.strength c.args.part.now c.args.o c.requires.fit c.requires.own
    c.requires.source

pub relax_edge-requires-clause-object : goal.relax_edge-requires-clause-object
relax_edge-requires-clause-object c = omega (arith, c.requires.own.last, c.requires.fit.within)

pub relax_edge-requires-clause-target : goal.relax_edge-requires-clause-target
relax_edge-requires-clause-target c = λ s at. c.get.ensures ∙ c.targets-targets.ensures.each c.loop-index.index s at

pub relax_edge-requires-clause-room : goal.relax_edge-requires-clause-room
relax_edge-requires-clause-room c = let f = c.loop-index.invariant.gone_on.fit in omega (arith, f.room, f.few)

pub loop-index-preserved : goal.loop-index-preserved
loop-index-preserved c =
    looked c.args.edited.graph.now c.args.edited.front.now c.args.strength c.args.part.now c.loop-index.part c.relax_edge.new.part c.args.o c.loop-index.index
    c.loop-index.invariant c.requires.passes_on c.in_ok-relax_edge.ensures

pub returns : goal.returns
returns c =
    let dump = c.args.edited.graph.now in
    let log = c.args.edited.front.now in
    let h = c.loop-index.invariant in
    let many : length c.targets-targets.result ≡ width dump c.args.o = ap length c.targets-targets.ensures.all
    ∙ length-map (object_at dump c.args.o).slots (λ (s : SlotEntry). index_of dump.objects s.id) in
    gone_on_after dump log c.args.strength (IsBelow c.args.o 0)
    (IsBelow c.args.o c.loop-index.index) IsAny c.args.part.now c.loop-index.part c.loop-index.part h.gone_on
    (row_done dump log c.args.strength c.args.o c.loop-index.index c.loop-index.part h.gone_on.fit (omega (arith, many)))
