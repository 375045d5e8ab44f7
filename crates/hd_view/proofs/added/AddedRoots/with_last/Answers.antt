use Rattle.std.proofs.Common.{◌≡◌, ◌∙◌, ℕ, ◌+◌, ◌-◌, ◌<◌, ◌^◌, ◌==◌, cond, List, [], ◌∷◌, ◌++◌, length, sym, subst, arith}
use Rattle.std.specs.Arc.{arc_value}
use Rattle.hd_reverse.specs.declared.numbers.NumberOn.{NumberOn}
use Rattle.hd_reverse.specs.Numbers.{numbers_on}
use Rattle.hd_view.specs.Added.{IsAddedBy}
use Rattle.hd_view.proofs.AddedLemmas.{none_added, one_added}
use Rattle.hd_view.proofs.added.AddedRoots.with_last.Goals as goal

pub returns-in_default : goal.returns-in_default
returns-in_default c before event is are =
    let dump = c.args.graph.now in
    let log = c.args.front.now in
    let number = c.len-number.result - 1 in
    let place : number + 1 ≡ length log = omega (arith, c.requires, c.len-number.ensures.len) in
    let few : length dump.roots + length log < 2 ^ 32 = omega (arith, c.len.ensures.len, c.roots_len.ensures, c.if-len-roots_len.false) in
    subst (IsAddedBy dump log) (sym c.in_ok-try_clone.ensures)
    (none_added dump before event log is number place c.event.result c.event.ensures (arc_value c.args.added.now) few (sym c.in_default.ensures) are)

pub returns : goal.returns
returns c before event is are =
    let dump = c.args.graph.now in
    let log = c.args.front.now in
    let number = c.len-number.result - 1 in
    let object = c.in-Some.object in
    let old : List NumberOn = arc_value c.args.added.now in
    let new : List NumberOn = c.in_ok-events.events in
    let place : number + 1 ≡ length log = omega (arith, c.requires, c.len-number.ensures.len) in
    let few : length dump.roots + length log < 2 ^ 32 = omega (arith, c.len.ensures.len, c.roots_len.ensures, c.if-len-roots_len.false) in
    let more : (o : ℕ) → numbers_on new o ≡ numbers_on old o ++ (cond (object == o) (number ∷ []) []) =
    subst (λ (ns : List NumberOn). (o : ℕ) → numbers_on new o ≡ numbers_on ns o ++ (cond (object == o) (number ∷ []) []))
    (c.behind-added.view_is ∙ c.deref.ensures) c.in_ok-events.ensures in
    subst (IsAddedBy dump log) (sym c.in_ok-new.ensures.ok)
    (one_added dump before event log is number place c.event.result c.event.ensures object old new few (sym c.in-Some.ensures) more are)
