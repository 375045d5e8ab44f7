use Rattle.std.proofs.Common.{◌≡◌, ◌∙◌, List, [], ◌∷◌, ◌++◌, ap, sym}
use Rattle.hd_terms.specs.declared.Event.{Event}
use Rattle.hd_state.specs.Solution.{Solution}
use Rattle.hd_board.specs.Replicas.{Replica}
use Rattle.hd_board.specs.Opening.{desk_at, opened_desk, opened_desks}
use Rattle.hd_board.proofs.Opened.{one_more_desk}
use Rattle.hd_board.proofs.board.opened_desks.Goals as goal

pub loop-who-preserved : goal.loop-who-preserved
loop-who-preserved c =
    let dump = c.args.state.now.dump in
    let who = c.loop-who.who in
    let desk : Replica = c.in_ok-begin.field-0 in
    let begun : desk ≡ opened_desk dump who =
    c.in_ok-begin.ensures
    ∙ (ap (λ (s : Solution). desk_at s.dump s.log who) c.in_ok-share.ensures ∙ ap (λ (log : List Event). desk_at dump log who) c.requires) in
    c.in_ok-push.ensures.items
    ∙ (ap (λ (ds : List Replica). ds ++ desk ∷ []) c.loop-who.invariant
    ∙ (ap (λ (d : Replica). opened_desks dump who ++ d ∷ []) begun ∙ sym (one_more_desk dump who)))
