-- A private part is open.
use Rattle.std.proofs.Common.{◌≡◌, inr, true, List, Option, None, Some, subst, refl}
use Rattle.std.specs.Option.{is_some}
use Rattle.hd_terms.specs.declared.Event.{Event}
use Rattle.hd_analyst.specs.declared.analyst.PrivatePart.{PrivatePart}
use Rattle.hd_analyst.specs.AnalystInside.{home_of}
use Rattle.hd_analyst.specs.Work.{Work}
use Rattle.hd_analyst.proofs.analyst.Analyst.go_private.Goals as goal

-- a private part has a home
has_home : (private : Option PrivatePart) → true ≡ is_some private → (home : List Event) × (home_of private ≡ Some home)
has_home None h = absurd cc
has_home (Some part) h = (part.home.seen, refl)

pub returns-then-is_some : goal.returns-then-is_some
returns-then-is_some c =
    let h = subst (λ (w : Work). (home : List Event) × (w.memory.home ≡ Some home)) c.self.view_is (has_home c.self.inside.private c.if-is_some.ensures) in
    (record { same_analyst = refl; memory_is = refl }, inr (refl, h.0, h.1))
