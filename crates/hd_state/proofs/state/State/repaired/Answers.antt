use Rattle.std.proofs.Common.{◌≡◌, ◌∙◌, ℕ, ◌+◌, ◌*◌, ◌≤◌, List, length, ap, subst, arith}
use Rattle.hd_terms.specs.declared.Event.{Event}
use Rattle.hd_terms.specs.Dump.{Dump}
use Rattle.hd_terms.specs.Lost.{InEventRegion}
use Rattle.hd_terms.specs.Settled.{Reached, reached_at}
use Rattle.hd_state.specs.Solution.{Solution}
use Rattle.hd_state.proofs.RepairLemmas.{one_more}
use Rattle.hd_state.proofs.state.State.repaired.Goals as goal

pub returns-clause-stamps : goal.returns-clause-stamps
returns-clause-stamps g c o =
    let dump = c.args.self.now.dump in
    let log = c.args.self.now.log in
    let most : ℕ = (length log + 1) * length dump.objects in
    let dump_is : c.deref-2.result.now ≡ dump = c.deref-2.ensures ∙ ap (λ (s : Solution). s.dump) c.self.view_is in
    let before : (x : ℕ) → (reached_at c.deref-6.result.now x).stamp ≤ most =
    λ x. subst (λ (s : Solution). (reached_at c.deref-6.result.now x).stamp ≤ (length s.log + 1) * length s.dump.objects) c.self.view_is
    (rw c.deref-6.ensures (c.self.invariant.stamps x)) in
    omega (arith, c.in_ok-repaired.ensures.stamps most before o, ap (λ (d : Dump). length d.objects) dump_is, one_more (length log) (length dump.objects))

pub returns-clause-outside : goal.returns-clause-outside
returns-clause-outside g c o out =
    let dump = c.args.self.now.dump in
    let log = c.args.self.now.log in
    let after = c.args.front.now in
    let new = c.in_ok-repaired.repaired.supports in
    let dump_is : c.deref-2.result.now ≡ dump = c.deref-2.ensures ∙ ap (λ (s : Solution). s.dump) c.self.view_is in
    let kept_is : c.deref-6.result.now ≡ c.args.self.now.kept = c.deref-6.ensures ∙ ap (λ (s : Solution). s.kept) c.self.view_is in
    let within : InEventRegion c.deref-2.result.now c.edited.result.front.now after c.deref-6.result.now new o
    → InEventRegion dump log after c.args.self.now.kept new o = λ r.
    subst (λ (ks : List Reached). InEventRegion dump log after ks new o) kept_is
    (subst (λ (l : List Event). InEventRegion dump l after c.deref-6.result.now new o) c.edited.ensures.log
    (subst (λ (d : Dump). InEventRegion d c.edited.result.front.now after c.deref-6.result.now new o) dump_is r)) in
    subst (λ (ks : List Reached). reached_at new o ≡ reached_at ks o) kept_is (c.in_ok-repaired.ensures.outside o (λ r. out (within r)))
