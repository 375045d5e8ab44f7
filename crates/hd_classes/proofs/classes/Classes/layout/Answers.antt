use Rattle.std.proofs.Common.{◌∙◌, ℕ, Option, Some, sym, ap, subst}
use Rattle.std.specs.Option.{option_map}
use Rattle.std.proofs.lemmas.Option.{slice_get_within}
use Rattle.hd_terms.specs.Classes.{ResolvedClass}
use Rattle.hd_classes.specs.Known.{Known, layout_at}
use Rattle.hd_classes.specs.Links.{numbered, views, Declares}
use Rattle.hd_classes.proofs.LinkLemmas.{first-layout, first-declares}
use Rattle.hd_classes.proofs.LookLemmas.{known-number, none-known}
use Rattle.hd_classes.proofs.classes.Classes.layout.Goals as goal

pub returns-in-Some : goal.returns-in-Some
returns-in-Some c =
    let rows = c.self.inside.known.entries in
    let at = c.in-Some.ensures.entry in
    ap (λ (k : Known). layout_at k c.args.id) (sym c.self.view_is)
    ∙ ap (option_map (λ (x : ResolvedClass). x.layout))
    (known-number rows c.args.id c.in-Some.i c.in-Some.ensures.index (slice_get_within rows c.in-Some.i _ at))
    ∙ ap Some (sym (c.new.ensures ∙ ap (λ (n : Option ℕ). (numbered (views rows) n).layout) c.first_declaring.ensures
    ∙ first-layout rows c.self.invariant c.in-Some.i _ at))

pub returns-in-None : goal.returns-in-None
returns-in-None c =
    ap (λ (k : Known). layout_at k c.args.id) (sym c.self.view_is)
    ∙ ap (option_map (λ (x : ResolvedClass). x.layout)) (none-known c.self.inside.known.entries c.args.id c.in-None.ensures.value)

pub new-requires-clause-declares : goal.new-requires-clause-declares
new-requires-clause-declares c =
    let rows = c.self.inside.known.entries in
    subst (λ (n : Option ℕ). Declares rows n) (sym c.first_declaring.ensures) (first-declares rows c.self.invariant c.in-Some.i _ c.in-Some.ensures.entry)
