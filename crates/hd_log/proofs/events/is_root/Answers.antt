use Rattle.std.proofs.Common.{◌∙◌, ◌-◌, ◌≤◌, Bool, List, length, Option, sym, ap, arith}
use Rattle.std.specs.Prelude.{◌||◌}
use Rattle.std.specs.Option.{option_and_then}
use Rattle.std.proofs.lemmas.Bool.{le-ltb}
use Rattle.std.proofs.lemmas.Option.{slice_get_past}
use Rattle.hd_terms.specs.declared.Event.{Event}
use Rattle.hd_terms.specs.EditedDump.{adds_root, live_edit_at}
use Rattle.hd_terms.specs.Log.{live_edit}
use Rattle.hd_log.proofs.events.is_root.Goals as goal

pub returns-else-k-events : goal.returns-else-k-events
returns-else-k-events c =
    let log : List Event = c.args.events.now in
    let k = c.args.r - c.args.roots in
    let past : length log ≤ k = omega arith in
    le-ltb k (length log) past
    ∙ sym (ap (λ (b : Bool). b || adds_root (live_edit_at log k)) (le-ltb c.args.r c.args.roots (omega arith))
    ∙ ap (λ (e : Option Event). adds_root (option_and_then (λ (x : Event). live_edit log (k, x)) e)) (slice_get_past log k past))
