use Rattle.std.proofs.Common.{◌≡◌, ◌∙◌, false, List, map, set, ap, sym}
use Rattle.std.proofs.lemmas.List.{map-set}
use Rattle.hd_terms.specs.declared.Strength.{Strength}
use Rattle.hd_terms.specs.Settled.{Reached}
use Rattle.hd_strength.specs.Found.{only_strength, strength_of}
use Rattle.hd_strength.proofs.found.Found.put.Goals as goal

pub invariant_of-self : goal.invariant_of-self
invariant_of-self c = λ is.
    ap (λ (ss : List Strength). set ss c.args.o c.strength.result) (c.self.invariant is)
    ∙ ap (set (map strength_of c.self.inside.kept.items) c.args.o) c.strength.ensures
    ∙ sym (map-set strength_of c.self.inside.kept.items c.args.o c.args.reached)

pub returns-else-self : goal.returns-else-self
returns-else-self c =
    let ss = c.self.inside.strengths.items in
    let one : map only_strength (set ss c.args.o c.strength.result) ≡ set (map only_strength ss) c.args.o (only_strength c.args.reached.strength) =
    map-set only_strength ss c.args.o c.strength.result ∙ ap (λ (s : Strength). set (map only_strength ss) c.args.o (only_strength s)) c.strength.ensures in
    rw (sym c.self.view_is, c.if-self.false) (ap (λ (ks : List Reached). record { whole = false; list = ks }) one)
