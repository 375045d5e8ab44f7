use Rattle.std.proofs.Common.{◌∙◌, ℕ, eqb, ap}
use Rattle.std.specs.Map.{lookup}
use Rattle.hd_classes.proofs.SideLemmas.{in-first, in-second}
use Rattle.hd_classes.proofs.texts.TextsById.get.Goals as goal

pub returns-in-Some : goal.returns-in-Some
returns-in-Some c =
    let test = λ (x : ℕ). eqb c.args.id x in
    in-first test c.self.inside.even.entries c.self.inside.odd.entries _ c.in-Some.ensures.value ∙ ap (lookup test) c.self.view_is

pub returns-in-Some-get : goal.returns-in-Some-get
returns-in-Some-get c =
    let test = λ (x : ℕ). eqb c.args.id x in
    in-second test c.self.inside.even.entries c.self.inside.odd.entries _ c.in-None.ensures.value c.in-Some-get.ensures.value ∙ ap (lookup test) c.self.view_is

pub returns-in-None-get : goal.returns-in-None-get
returns-in-None-get c =
    let test = λ (x : ℕ). eqb c.args.id x in
    in-second test c.self.inside.even.entries c.self.inside.odd.entries _ c.in-None.ensures.value c.in-None-get.ensures.value ∙ ap (lookup test) c.self.view_is
