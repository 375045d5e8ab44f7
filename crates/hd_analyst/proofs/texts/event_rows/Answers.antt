use Rattle.std.proofs.Common.{◌≡◌, ◌∙◌, ◌<◌, ◌++◌, ◌∷◌, [], ℕ, Bool, false, List, length, get_or, ap, arith}
use Rattle.std.proofs.lemmas.Option.{get_or_from_slice_get}
use Rattle.hd_terms.specs.declared.Event.{Event}
use Rattle.hd_terms.specs.Log.{is_live, live_flags}
use Rattle.hd_words.specs.declared.event_lines.EventRow.{EventRow}
use Rattle.hd_analyst.proofs.EventRows.{flag_at, length-flags, row_push, rows_all}
use Rattle.hd_analyst.proofs.texts.event_rows.Goals as goal

pub bounds-flags-number : goal.bounds-flags-number
bounds-flags-number c =
    omega (arith, ap length c.flags-flags.ensures, length-flags c.args.front.now, c.len-number-end.ensures.len, c.loop-number-test.true)

pub loop-number-preserved : goal.loop-number-preserved
loop-number-preserved c =
    let log : List Event = c.args.front.now in
    let k : ℕ = c.loop-number.number in
    let e : Event = c.event.result in
    let flags : c.flags-flags.result.now ≡ live_flags log = c.flags-flags.ensures in
    let live : Bool = get_or c.flags-flags.result.now k false in
    let lt : k < length log = omega (arith, c.len-number-end.ensures.len, c.loop-number-test.true) in
    let at : get_or log k e ≡ e = get_or_from_slice_get log k e e c.event.ensures in
    let flag : live ≡ is_live log (k, e) = ap (λ (bs : List Bool). get_or bs k false) flags ∙ flag_at log k e false lt at in
    c.in_ok-push.ensures.items
    ∙ ap (λ (rows : List EventRow). rows ++ (record { number = k; event = e; live = live }) ∷ []) c.loop-number.invariant
    ∙ row_push log k e live lt at flag

pub returns : goal.returns
returns c = c.loop-number.invariant ∙ rows_all c.args.front.now c.loop-number.number (omega (arith, c.len-number-end.ensures.len, c.loop-number-test.false))
