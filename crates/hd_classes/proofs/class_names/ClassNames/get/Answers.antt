use Rattle.std.proofs.Common.{◌∙◌, ℕ, List, length, ◌+◌, ◌≤◌, Some, eqb, sym, ap, subst}
use Rattle.std.specs.Option.{option_map}
use Rattle.std.specs.Map.{lookup}
use Rattle.hd_terms.specs.Classes.{bytes_of_span}
use Rattle.hd_classes.proofs.ClassNameLemmas.{part-within, lookup-names}
use Rattle.hd_classes.proofs.class_names.ClassNames.get.Goals as goal

pub bytes_of-requires : goal.bytes_of-requires
bytes_of-requires c =
    let part = c.in-Some.part.now in
    subst (λ (xs : List ℕ). part.start + part.len ≤ length xs) (sym c.as_slice.ensures.value)
    (part-within c.self.inside.text.items c.self.inside.parts.entries c.args.class part c.self.invariant (sym c.in-Some.ensures.value))

pub returns-in-Some : goal.returns-in-Some
returns-in-Some c =
    let a = c.self.inside in
    sym (ap (λ (names : List (ℕ × List ℕ)). lookup (λ (x : ℕ). eqb c.args.class x) names) c.self.view_is)
    ∙ lookup-names a.text.items a.parts.entries c.args.class
    ∙ ap (option_map (bytes_of_span a.text.items)) (sym c.in-Some.ensures.value)
    ∙ ap (λ (xs : List ℕ). Some (bytes_of_span xs c.in-Some.part.now)) (sym c.as_slice.ensures.value)
    ∙ ap (λ (xs : List ℕ). Some xs) (sym c.bytes_of.ensures)

pub returns-in-None : goal.returns-in-None
returns-in-None c =
    let a = c.self.inside in
    sym (ap (λ (names : List (ℕ × List ℕ)). lookup (λ (x : ℕ). eqb c.args.class x) names) c.self.view_is)
    ∙ lookup-names a.text.items a.parts.entries c.args.class
    ∙ ap (option_map (bytes_of_span a.text.items)) (sym c.in-None.ensures.value)
