use Rattle.std.proofs.Common.{◌∙◌, ◌<◌, Bool, Some, length, slice_get, sym, ap, arith}
use Rattle.hd_terms.specs.EdgeRows.{MarkedRoot, roots_on}
use Rattle.hd_view.specs.Viewed.{Viewed}
use Rattle.hd_view.proofs.RootLemmas.{length_roots, root_there}
use Rattle.hd_view.proofs.view.ViewEdges.root.Goals as goal

pub root_number-number-requires : goal.root_number-number-requires
root_number-number-requires c =
    let dump = c.self.inside.edited.graph.now in
    let log = c.self.inside.edited.front.now in
    let lt : c.args.i < length (roots_on dump log c.args.o) = rw (← c.self.view_is) at c.requires.index in
    omega (
      arith,
      lt,
      length_roots dump log c.args.o c.self.inside.reverse.now c.self.inside.added.now (c.self.invariant.reverse.roots c.args.o)
          (c.self.invariant.added.events c.args.o),
    )

pub returns-clause-value : goal.returns-clause-value
returns-clause-value c =
    let dump = c.self.inside.edited.graph.now in
    let log = c.self.inside.edited.front.now in
    let number = c.root_number-number.result in
    ap (λ (v : Viewed). slice_get (roots_on v.dump v.log c.args.o) c.args.i) (sym c.self.view_is)
    ∙ root_there dump log c.args.o c.self.inside.reverse.now c.self.inside.added.now (c.self.invariant.reverse.roots c.args.o)
    (c.self.invariant.added.events c.args.o) c.args.i number c.root_number-number.ensures
    ∙ ap (λ (b : Bool). let m : MarkedRoot = record { root = record { number = number; target = c.args.o }; stands = b } in Some m)
    (sym c.root_stands-stands.ensures)
