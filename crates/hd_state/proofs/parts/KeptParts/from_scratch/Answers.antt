use Rattle.std.proofs.Common.{◌≡◌, List, [], sym, subst, arith}
use Rattle.hd_terms.specs.declared.Event.{Event}
use Rattle.hd_terms.specs.EditedDump.{standing}
use Rattle.hd_terms.specs.Settled.{Settled}
use Rattle.hd_totals.specs.LastChanges.{AreLastChanges}
use Rattle.hd_totals.proofs.LastChangeLemmas.{opened}
use Rattle.hd_state.proofs.parts.KeptParts.from_scratch.Goals as goal

pub returns : goal.returns
returns g c =
    let dump = c.args.graph.now in
    let log = c.args.log.now.front in
    let ks = c.in_ok-supports.supports in
    let last = c.in_ok-last_changes.last_changes in
    let empty : log ≡ [] = c.requires.empty in
    let settled : Settled (standing dump log) ks = c.in_ok-supports.ensures.settled in
    let changes : AreLastChanges dump log ks last = subst (λ (xs : List Event). AreLastChanges dump xs ks last) (sym empty)
    (opened c.settled_supports_give_strengths.ensures.strengths dump ks last (subst (λ (xs : List Event). Settled (standing dump xs) ks) empty settled)) in
    record {
      kept = rw c.in_ok-new.ensures.ok record { count = c.in_ok-supports.ensures.count; settled = settled };
      stamps = rw (c.in_ok-new.ensures.ok, empty) (λ o. omega (arith, c.in_ok-supports.ensures.stamps o));
      changes = rw (c.in_ok-new.ensures.ok, c.in_ok-new-2.ensures.ok) changes;
      totals = rw (c.in_ok-new.ensures.ok, c.in_ok-new-3.ensures.ok) c.in_ok-totals.ensures.totals;
      pages = rw c.in_ok-new-4.ensures.ok c.in_ok-totals.ensures.pages;
      moved = λ region all. omega arith;
    }
