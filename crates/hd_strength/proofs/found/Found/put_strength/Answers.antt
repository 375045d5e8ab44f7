use Rattle.std.proofs.Common.{◌≡◌, ◌∙◌, false, List, ap, sym}
use Rattle.std.proofs.lemmas.List.{map-set}
use Rattle.hd_terms.specs.Settled.{Reached}
use Rattle.hd_strength.specs.Found.{Findings, only_strength}
use Rattle.hd_strength.proofs.found.Found.put_strength.Goals as goal

pub returns : goal.returns
returns c =
    let ss = c.self.inside.strengths.items in
    let whole : c.self.inside.whole ≡ false = ap (λ (f : Findings). f.whole) c.self.view_is ∙ c.requires.alone in
    rw (sym c.self.view_is, whole) (ap (λ (ks : List Reached). record { whole = false; list = ks }) (map-set only_strength ss c.args.o c.args.strength))
