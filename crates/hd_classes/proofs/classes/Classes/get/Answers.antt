use Rattle.std.proofs.Common.{◌∙◌, ℕ, List, [], length, Option, Some, sym, ap, subst, arith}
use Rattle.std.specs.Option.{option_map}
use Rattle.hd_terms.specs.Classes.{LayoutField, ResolvedClass}
use Rattle.hd_classes.specs.Known.{Known, known_by_number}
use Rattle.hd_classes.specs.Links.{View, numbered, class_under, views, Declares}
use Rattle.hd_classes.proofs.LinkLemmas.{views-length, row-at, view-here, class-here, first-layout, first-declares}
use Rattle.hd_classes.proofs.classes.Classes.get.Goals as goal

pub returns : goal.returns
returns c =
    let rows = c.self.inside.known.entries in
    let found = row-at rows c.args.i c.index-class.result.now c.index-class.ensures in
    let of : List ℕ → List LayoutField → Option ResolvedClass =
    λ (ids : List ℕ) (fs : List LayoutField). Some
    (record { chain = ids; layout = fs; referent = c.index-class.result.now.referent; kind = c.index-class.result.now.kind }) in
    let above : ResolvedClass = class_under (found.0, c.index-class.result.now) (numbered (views rows) c.index-class.result.now.super_number) in
    let here = class-here rows c.self.invariant c.args.i _ found.1 in
    ap (λ (k : Known). known_by_number k c.args.i) (sym c.self.view_is)
    ∙ ap (option_map (λ (p : View). p.1)) (view-here rows c.self.invariant c.args.i _ found.1)
    ∙ ap (λ (ids : List ℕ). of ids above.layout) (sym (c.new.ensures ∙ ap (λ (k : ResolvedClass). k.chain) here))
    ∙ ap (λ (fs : List LayoutField). of c.new.result fs)
    (sym (c.new-2.ensures ∙ ap (λ (n : Option ℕ). (numbered (views rows) n).layout) c.first_declaring.ensures
    ∙ first-layout rows c.self.invariant c.args.i _ found.1 ∙ ap (λ (k : ResolvedClass). k.layout) here))

pub index-class-requires : goal.index-class-requires
index-class-requires c = omega (arith, c.requires, views-length c.self.inside.known.entries [], ap (λ (k : Known). length k.classes) c.self.view_is)

pub new-requires-2-clause-declares : goal.new-requires-2-clause-declares
new-requires-2-clause-declares c =
    let rows = c.self.inside.known.entries in
    subst (λ (n : Option ℕ). Declares rows n) (sym c.first_declaring.ensures)
    (first-declares rows c.self.invariant c.args.i _ (row-at rows c.args.i c.index-class.result.now c.index-class.ensures).1)
