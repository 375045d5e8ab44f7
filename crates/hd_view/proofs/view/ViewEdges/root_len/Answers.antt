use Rattle.std.proofs.Common.{◌≡◌, ◌∙◌, ◌+◌, ℕ, List, length, map, ap, arith}
use Rattle.std.proofs.lemmas.List.{length-append, length-map}
use Rattle.hd_terms.specs.EdgeRows.{roots_on}
use Rattle.hd_reverse.specs.Numbers.{numbers_on}
use Rattle.hd_reverse.specs.Reverse.{roots_in}
use Rattle.hd_view.specs.Viewed.{Viewed}
use Rattle.hd_view.proofs.RootLemmas.{length_roots, roots_few}
use Rattle.hd_view.proofs.view.ViewEdges.root_len.Goals as goal

pub overflow_add-result : goal.overflow_add-result
overflow_add-result c =
    let dump = c.self.inside.edited.graph.now in
    let log = c.self.inside.edited.front.now in
    let own = c.roots_len.ensures ∙ ap (λ (ns : List ℕ). length ns) (c.self.invariant.reverse.roots c.args.o) in
    let added = c.len.ensures ∙ ap (λ (ns : List ℕ). length ns) (c.self.invariant.added.events c.args.o) in
    omega (arith, own, added, roots_few dump log c.args.o, c.self.invariant.added.few)

pub returns : goal.returns
returns c =
    let dump = c.self.inside.edited.graph.now in
    let log = c.self.inside.edited.front.now in
    let reverse = c.self.inside.reverse.now in
    let added = c.self.inside.added.now in
    let own : List ℕ = roots_in reverse c.args.o in
    let later : List ℕ = map (λ (k : ℕ). length dump.roots + k) (numbers_on added c.args.o) in
    let sum : c.roots_len.result + c.len.result ≡ length (roots_on dump log c.args.o) =
    omega (
      arith,
      c.roots_len.ensures,
      c.len.ensures,
      length_roots dump log c.args.o reverse added (c.self.invariant.reverse.roots c.args.o) (c.self.invariant.added.events c.args.o),
      length-append own later,
      length-map (numbers_on added c.args.o) (λ (k : ℕ). length dump.roots + k),
    ) in
    sum ∙ ap (λ (v : Viewed). length (roots_on v.dump v.log c.args.o)) c.self.view_is
