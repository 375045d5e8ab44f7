use Rattle.std.proofs.Common.{◌≡◌, ◌∙◌, ◌<◌, List, length, take, get_or, ap, subst, sym, arith}
use Rattle.std.proofs.lemmas.List.{take_all, take_more}
use Rattle.std.proofs.lemmas.List.Elements.{Contains-get_or}
use Rattle.hd_terms.specs.declared.Support.TheVariants as supports
use Rattle.hd_terms.specs.Regions.{Holding}
use Rattle.hd_repair.proofs.MarkLemmas.{any_default}
use Rattle.hd_repair.proofs.MarkingLemmas.{AreMarkedFor, are_known, marks_target, leaves_target}
use Rattle.hd_repair.proofs.marking.mark_lost.Goals as goal
use Rattle.hd_repair.proofs.marking.mark_lost.Goals.{then-is_held_by, else-is_held_by}

pub loop-held-preserved : goal.loop-held-preserved
loop-held-preserved c =
    let ks = c.args.kept.now in
    let lost = c.args.lost.now in
    let i = c.loop-held.held-index in
    let none : Holding = record { target = 0; holder = supports.Nothing } in
    let lt : i < length lost = omega arith in
    let x : Holding = get_or lost i none in
    let item : c.held-item.result ≡ x = c.held-item.is ∙ any_default lost i c.held-item.result none lt in
    let there : c.target-target.result ≡ x.target = c.target-target.ensures ∙ ap (λ (h : Holding). h.target) item in
    let by : c.holder.result ≡ x.holder = c.holder.ensures ∙ ap (λ (h : Holding). h.holder) item in
    let front = sym (take_more lost i none lt) in
    elim c.if-is_held_by.branch [
      | then-is_held_by w ↦ record {
        count = rw w.known-is (w.mark.ensures.count ∙ c.loop-held.invariant.count);
        marked = rw w.known-is (subst (λ (items : List Holding). AreMarkedFor ks lost items c.args.known.now w.mark.new.known) front
            (marks_target ks lost (take i lost) c.args.known.now c.loop-held.known c.loop-held.invariant.marked x w.mark.new.known
            (Contains-get_or lost i none lt) (rw (there, by) at c.is_held_by.ensures.yes w.if-is_held_by.true)
            (rw there at w.mark.ensures.here) (rw there at w.mark.ensures.others)));
      }
      | else-is_held_by w ↦ record {
        count = rw w.known-is c.loop-held.invariant.count;
        marked = rw w.known-is (subst (λ (items : List Holding). AreMarkedFor ks lost items c.args.known.now c.loop-held.known) front
            (leaves_target ks lost (take i lost) c.args.known.now c.loop-held.known c.loop-held.invariant.marked x
            (rw (there, by) at c.is_held_by.ensures.no w.if-is_held_by.false)));
      }
    ]

pub returns-clause-known : goal.returns-clause-known
returns-clause-known c =
    let lost = c.args.lost.now in
    are_known c.args.kept.now lost c.args.known.now c.loop-held.known
    (subst (λ (items : List Holding). AreMarkedFor c.args.kept.now lost items c.args.known.now c.loop-held.known)
    (take_all c.loop-held.held-index lost c.loop-held-test.false) c.loop-held.invariant.marked) c.requires.holders c.requires.count c.requires.unknown
