use Rattle.std.proofs.Common.{◌∙◌, ap}
use Rattle.hd_terms.specs.Settled.{Reached}
use Rattle.hd_strength.proofs.Going.{quiet, passed_on, taken_out, own_same_back, found_same}
use Rattle.hd_strength.proofs.relaxing.relax_next.Goals as goal

pub returns-in_default : goal.returns-in_default
returns-in_default c = quiet c.args.edited.graph.now c.args.edited.front.now c.args.strength c.args.part.now c.take_next.new.part c.requires.fit
    c.in_default.ensures.none

pub relax_edges-requires-clause-own : goal.relax_edges-requires-clause-own
relax_edges-requires-clause-own c =
    let t = c.in-Some.ensures.some in
    own_same_back c.args.part.now c.take_next.new.part t.same.first t.same.found c.in-Some.o (c.requires.fit.queued c.in-Some.o t.taken.was).0

pub relax_edges-requires-clause-source : goal.relax_edges-requires-clause-source
relax_edges-requires-clause-source c =
    let t = c.in-Some.ensures.some in
    ap (λ (k : Reached). k.strength) (found_same c.args.part.now c.take_next.new.part t.same.first t.same.found c.in-Some.o)
    ∙ (c.requires.fit.queued c.in-Some.o t.taken.was).1

pub relax_edges-requires-clause-passes_on : goal.relax_edges-requires-clause-passes_on
relax_edges-requires-clause-passes_on c = (c.requires.fit.queued c.in-Some.o c.in-Some.ensures.some.taken.was).2

pub relax_edges-requires-clause-fit : goal.relax_edges-requires-clause-fit
relax_edges-requires-clause-fit c =
    (taken_out c.args.edited.graph.now c.args.edited.front.now c.args.strength c.args.part.now c.take_next.new.part c.in-Some.o c.requires.fit
    c.in-Some.ensures.some).fit

pub returns : goal.returns
returns c =
    passed_on c.args.edited.graph.now c.args.edited.front.now c.args.strength c.args.part.now c.take_next.new.part c.relax_edges.new.part c.in-Some.o
    c.requires.fit c.in-Some.ensures.some c.in_ok-relax_edges.ensures
