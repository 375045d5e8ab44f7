-- One lost item after another: what it holds waits, without a support.
-- In the end no lost item holds its target.
use Rattle.std.proofs.Common.{◌≡◌, ◌≢◌, ◌∙◌, ◌<◌, List, [], length, take, get_or, ap, subst, sym, refl, arith}
use Rattle.std.proofs.lemmas.List.{take_all, take_more}
use Rattle.std.proofs.lemmas.List.Elements.{Contains-get_or, All-contains}
use Rattle.hd_terms.specs.declared.Support.TheVariants as supports
use Rattle.hd_terms.specs.Regions.{Holding}
use Rattle.hd_repair.specs.Losing.{HoldNone, IsLost}
use Rattle.hd_repair.proofs.MarkLemmas.{any_default, in_take}
use Rattle.hd_repair.proofs.WaitLemmas.{none_loosened, loosen_step, hold_more}
use Rattle.hd_repair.proofs.waiting.loosen_lost.Goals as goal

pub loop-held-init : goal.loop-held-init
loop-held-init c = record {
  count = refl;
  loosened = rw c.new-waiting.ensures.items (none_loosened c.args.kept.now [] (IsLost c.args.lost.now));
  none = λ h (k, lt, is). absurd (omega arith);
}

pub loop-held-preserved : goal.loop-held-preserved
loop-held-preserved c =
    let lost = c.args.lost.now in
    let i = c.loop-held.held-index in
    let none : Holding = record { target = 0; holder = supports.Nothing } in
    let lt : i < length lost = omega arith in
    let x : Holding = get_or lost i none in
    let item : c.held-item.result ≡ x = c.held-item.is ∙ any_default lost i c.held-item.result none lt in
    let there : c.target.result ≡ x.target = c.target.ensures ∙ ap (λ (h : Holding). h.target) item in
    let by : c.holder.result ≡ x.holder = c.holder.ensures ∙ ap (λ (h : Holding). h.holder) item in
    let d = rw (there, by) at c.in_ok-wait_if_held.ensures.ok in
    let some : x.holder ≢ supports.Nothing = c.requires.holders i none lt in
    record {
      count = c.wait_if_held.ensures.count ∙ c.loop-held.invariant.count;
      loosened = loosen_step c.args.kept.now c.loop-held.kept c.wait_if_held.new.kept [] c.loop-held.waiting.items c.wait_if_held.new.waiting.items
          (IsLost lost) x.target x.holder some c.loop-held.invariant.loosened (Contains-get_or lost i none lt) d;
      none = subst (λ (items : List Holding). HoldNone c.wait_if_held.new.kept items) (sym (take_more lost i none lt))
          (hold_more c.loop-held.kept c.wait_if_held.new.kept c.loop-held.waiting.items c.wait_if_held.new.waiting.items x.target x.holder some d
          (take i lost)
          (λ h is. All-contains (λ (h : Holding). h.holder ≢ supports.Nothing) lost h c.requires.holders (in_take lost i h is)) x refl refl
          c.loop-held.invariant.none);
    }

pub returns-clause-none : goal.returns-clause-none
returns-clause-none c = subst (λ (items : List Holding). HoldNone c.loop-held.kept items)
    (take_all c.loop-held.held-index c.args.lost.now c.loop-held-test.false) c.loop-held.invariant.none
