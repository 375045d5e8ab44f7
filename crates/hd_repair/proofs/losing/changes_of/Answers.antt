-- One object of the region after another: where its rank differs it is a change.
-- So the changes are those of the objects so far (`AreChangesAmong`).
use Rattle.std.proofs.Common.{◌≡◌, ◌∙◌, ℕ, ◌<◌, List, length, take, get_or, ap, subst, sym, arith}
use Rattle.std.proofs.lemmas.List.{take_all, get_or-map}
use Rattle.hd_terms.specs.declared.Strength.{Strength}
use Rattle.hd_terms.specs.Ranks.{rank}
use Rattle.hd_terms.specs.Regions.{StrengthChange}
use Rattle.hd_terms.specs.Settled.{reached_at}
use Rattle.hd_repair.specs.Changing.{AreChangesAmong}
use Rattle.hd_terms.proofs.RankLemmas.{same_rank}
use Rattle.hd_repair.proofs.LossLemmas.{none_compared, differs, agrees}
use Rattle.hd_repair.proofs.losing.changes_of.Goals as goal
use Rattle.hd_repair.proofs.losing.changes_of.Goals.{then-rank+in_ok-push, else-rank}

pub loop-i-init : goal.loop-i-init
loop-i-init c before same once = rw c.new-changes.ensures.items (none_compared before c.args.kept.now)

pub loop-i-preserved : goal.loop-i-preserved
loop-i-preserved c before same once =
    let xs = c.args.region.now.objects.items in
    let i = c.loop-i.i in
    let d = c.index-o.result.now in
    let lt : i < length xs = omega (arith, c.loop-i-test.true, c.len-i-end.ensures, c.args.region.now.objects.ok) in
    let h : AreChangesAmong before c.args.kept.now (take i xs) c.loop-i.changes.items = c.loop-i.invariant before same once in
    let o : d ≡ get_or xs i d = c.index-o.ensures in
    let was : (reached_at before (get_or xs i d)).strength ≡ c.index-before.result.now =
    sym (c.index-before.ensures ∙ ap (λ (ys : List Strength). get_or ys i c.index-before.result.now) same ∙
    get_or-map (λ (x : ℕ). (reached_at before x).strength) xs i d c.index-before.result.now lt) in
    let now : (reached_at c.args.kept.now (get_or xs i d)).strength ≡ c.strength-after.result =
    sym (c.strength-after.ensures ∙ ap (λ (x : ℕ). (reached_at c.args.kept.now x).strength) o) in
    elim c.if-rank.branch [
      | then-rank+in_ok-push w ↦ rw (w.changes-is, w.in_ok-push.ensures.items)
          (differs before c.args.kept.now xs i d c.loop-i.changes.items once lt h w.new.result
          (ap (λ (x : StrengthChange). x.object) w.new.ensures ∙ o) (was ∙ ap (λ (x : StrengthChange). x.before) (sym w.new.ensures))
          (now ∙ ap (λ (x : StrengthChange). x.after) (sym w.new.ensures))
          (λ e. let one : rank c.index-before.result.now ≡ rank c.strength-after.result =
          ap rank (ap (λ (x : StrengthChange). x.before) (sym w.new.ensures) ∙ e ∙ ap (λ (x : StrengthChange). x.after) w.new.ensures)
          in omega (arith, w.if-rank.true, c.rank.ensures, c.rank-in-loop-i.ensures)))
      | else-rank w ↦ rw w.changes-is (agrees before c.args.kept.now xs i d c.loop-i.changes.items once lt h
          (was ∙ same_rank c.index-before.result.now c.strength-after.result (omega (arith, w.if-rank.false, c.rank.ensures, c.rank-in-loop-i.ensures)) ∙
          sym now))
    ]

pub returns : goal.returns
returns c before same once =
    let all = take_all c.loop-i.i c.args.region.now.objects.items (omega (arith, c.loop-i-test.false, c.len-i-end.ensures, c.args.region.now.objects.ok)) in
    subst (λ (xs : List ℕ). AreChangesAmong before c.args.kept.now xs c.loop-i.changes.items) all (c.loop-i.invariant before same once)
