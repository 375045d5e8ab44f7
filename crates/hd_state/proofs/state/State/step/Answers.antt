use Rattle.std.proofs.Common.{◌≡◌, ◌∙◌, List, [], ◌∷◌, ◌++◌, ap, subst}
use Rattle.hd_terms.specs.declared.Event.{Event}
use Rattle.hd_terms.specs.Lost.{InEventRegion}
use Rattle.hd_state.specs.Solution.{Solution}
use Rattle.hd_state.proofs.state.State.step.Goals as goal

pub returns-clause-outside : goal.returns-clause-outside
returns-clause-outside g c o out =
    let now = c.args.self.now in
    let event = c.args.event in
    let kept = c.in_ok-followed.followed.0.kept in
    let is : c.in-Ok.front ≡ now.log ++ event ∷ [] = c.in-Ok.ensures.ok.1 ∙ ap (λ (s : Solution). s.log ++ event ∷ []) c.self.view_is in
    c.in_ok-followed.ensures.outside o (λ r. out (subst (λ (log : List Event). InEventRegion now.dump now.log log now.kept kept o) is r))
