use Rattle.std.proofs.Common.{◌≡◌, ◌∙◌, ◌+◌, List, [], ◌∷◌, ◌++◌, length, ap, sym, subst}
use Rattle.std.specs.Arc.{arc_value}
use Rattle.std.proofs.lemmas.List.{length_push}
use Rattle.hd_terms.specs.declared.Event.{Event}
use Rattle.hd_terms.specs.EditedDump.{standing}
use Rattle.hd_terms.specs.Settled.{Settled}
use Rattle.hd_totals.specs.LastChanges.{AreChangedBy, AreLastChanges}
use Rattle.hd_totals.proofs.LastChangeLemmas.{stepped}
use Rattle.hd_state.specs.Solution.{Solution}
use Rattle.hd_state.proofs.state.State.moved_changes.Goals as goal

pub returns : goal.returns
returns c =
    let now = c.args.self.now in
    let was = arc_value c.self.inside.last_changes in
    let new = c.args.repair.now.supports in
    let changes = c.args.repair.now.changes.items in
    let event = c.requires.next.event in
    let next : c.args.front.now ≡ now.log ++ event ∷ [] = c.requires.next.is in
    let before : AreLastChanges now.dump now.log now.kept was =
    subst (λ (s : Solution). AreLastChanges s.dump s.log s.kept was) c.self.view_is c.self.invariant.changes in
    let count : c.len.result ≡ length now.log + 1 = c.len.ensures.len ∙ ap length next ∙ length_push now.log event in
    let by : AreChangedBy was changes (length now.log + 1) c.apply.new.self =
    rw (sym count, sym (c.in_ok-last_changes.ensures ∙ c.deref.ensures)) (rw c.deref-2.ensures.value at c.in_ok-apply.ensures) in
    let settled : Settled (standing now.dump (now.log ++ event ∷ [])) new =
    subst (λ (log : List Event). Settled (standing now.dump log) new) next c.requires.kept.settled in
    subst (λ (log : List Event). AreLastChanges now.dump log new c.apply.new.self) (sym next)
    (stepped c.settled_supports_give_strengths.ensures.strengths now.dump now.log event now.kept new changes was c.apply.new.self before c.requires.changes by
    settled)
