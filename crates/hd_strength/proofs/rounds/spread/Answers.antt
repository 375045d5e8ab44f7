use Rattle.std.proofs.Common.{◌∙◌, Bool, refl, subst}
use Rattle.hd_terms.specs.declared.Strength.TheVariants as strengths
use Rattle.hd_strength.specs.Parts.{HaveComeTo}
use Rattle.hd_strength.proofs.Ending.{ends}
use Rattle.hd_strength.proofs.rounds.spread.Goals as goal

pub spread_strength-requires-2-clause-searching : goal.spread_strength-requires-2-clause-searching
spread_strength-requires-2-clause-searching g c = λ κs within. c.in_ok-spread_strength.ensures.searching strengths.Soft refl

pub spread_strength-requires-3-clause-searching : goal.spread_strength-requires-3-clause-searching
spread_strength-requires-3-clause-searching g c = λ κs within. c.in_ok-spread_strength-2.ensures.searching strengths.Weak refl

pub spread_strength-requires-4-clause-searching : goal.spread_strength-requires-4-clause-searching
spread_strength-requires-4-clause-searching g c = λ κs within. c.in_ok-spread_strength-3.ensures.searching strengths.Final refl

pub spread_strength-requires-5-clause-searching : goal.spread_strength-requires-5-clause-searching
spread_strength-requires-5-clause-searching g c = λ κs within. c.in_ok-spread_strength-4.ensures.searching strengths.Phantom refl

pub returns : goal.returns
returns g c =
    let dump = c.args.edited.graph.now in
    let log = c.args.edited.front.now in
    let parts = c.spread_strength-5.new.search.parts.items in
    let whole =
    c.in_ok-spread_strength-5.ensures.whole
    ∙ c.in_ok-spread_strength-4.ensures.whole
    ∙ c.in_ok-spread_strength-3.ensures.whole
    ∙ c.in_ok-spread_strength-2.ensures.whole
    ∙ c.in_ok-spread_strength.ensures.whole in
    ends dump log c.args.search.whole parts
    (subst (λ (w : Bool). HaveComeTo dump log w strengths.Unreachable parts) whole (c.in_ok-spread_strength-5.ensures.searching strengths.Unreachable refl))
