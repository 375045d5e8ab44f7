use Rattle.std.proofs.Common.{◌∙◌, ℕ, Option, refl, sym, ap, subst}
use Rattle.std.specs.Prelude.{unwrap_or}
use Rattle.std.proofs.lemmas.Option.{slice_get_within}
use Rattle.hd_terms.specs.Classes.{ResolvedClass}
use Rattle.hd_classes.specs.Links.{nothing, numbered, views, Declares}
use Rattle.hd_classes.proofs.LinkLemmas.{class-here, first-layout, first-declares, layout-counted}
use Rattle.hd_classes.proofs.LookLemmas.{known-number, none-known}
use Rattle.hd_classes.proofs.linking.inherited_from.Goals as goal

pub returns-in-Some : goal.returns-in-Some
returns-in-Some c =
    let rows = c.args.known.now.entries in
    let i = c.in-Some.number in
    let class = c.in-Some.class.now in
    let at = c.in-Some.ensures.entry in
    let lt = slice_get_within rows i _ at in
    let here = class-here rows c.requires i _ at in
    record {
      is = sym (ap (λ (o : Option ResolvedClass). unwrap_or o nothing) (known-number rows c.args.id i c.in-Some.ensures.index lt));
      earlier = lt;
      declares = subst (λ (n : Option ℕ). Declares rows n) (sym c.first_declaring.ensures) (first-declares rows c.requires i _ at);
      skips = ap (λ (n : Option ℕ). (numbered (views rows) n).layout) c.first_declaring.ensures ∙ first-layout rows c.requires i _ at;
      counted = layout-counted rows c.requires i _ at;
      referent = ap (λ (k : ResolvedClass). k.referent) here;
      kind = ap (λ (k : ResolvedClass). k.kind) here;
    }

pub returns-in-None : goal.returns-in-None
returns-in-None c = record {
  is = sym (ap (λ (o : Option ResolvedClass). unwrap_or o nothing) (none-known c.args.known.now.entries c.args.id c.in-None.ensures.value));
  earlier = tt;
  declares = tt;
  skips = refl;
  counted = refl;
  referent = refl;
  kind = refl;
}
