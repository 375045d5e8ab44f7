-- One key of the other part after another: its row is added to that of the same key in the first, or becomes a new one.
-- The sums fit, since those of both parts together do (`count-fits`, `bytes-fit-in`).
use Rattle.std.proofs.Common.{◌≡◌, ◌∙◌, ◌≤◌, ℕ, length, get_or, ap, subst, sym, arith}
use Rattle.std.proofs.lemmas.List.{get_or_default}
use Rattle.std.proofs.lemmas.Option.{get_or_from_slice_get}
use Rattle.hd_totals.specs.declared.total.StrengthTotals.{StrengthTotals}
use Rattle.hd_totals.specs.Counting.{totals_of}
use Rattle.hd_totals.specs.Running.{IsRowPut}
use Rattle.hd_totals.specs.Totals.{Totals, no_totals, row_at, sums_of, total_for}
use Rattle.hd_totals.proofs.Joining.{AreJoining}
use Rattle.hd_totals.proofs.CountingLemmas.{count-fits, bytes-fit-in, joined-more, joined-all}
use Rattle.hd_totals.proofs.counting.join_parts.Goals as goal

pub add_totals-requires-clause-counts : goal.add_totals-requires-clause-counts
add_totals-requires-clause-counts c s =
    let one : Totals = totals_of c.args.one in
    let other : Totals = totals_of c.args.other in
    let both : Totals = record { keys = c.loop-i.keys; rows = c.loop-i.rows.items } in
    let key_is : get_or other.keys c.loop-i.i 0 ≡ c.get-key.result = get_or_from_slice_get other.keys c.loop-i.i c.get-key.result 0 c.get-key.ensures.key in
    let row_is : c.index.result.now ≡ get_or other.rows c.loop-i.i no_totals = c.index.ensures
    ∙ get_or_default other.rows c.loop-i.i c.index.result.now no_totals (omega arith) in
    let small : get_or other.keys c.loop-i.i 0 ≤ 18446744073709551872 = subst (λ (k : ℕ). k ≤ 18446744073709551872) (sym key_is) c.get-key.ensures.small in
    let fits = count-fits one other c.loop-i.i both c.loop-i.invariant c.get-key.ensures.keys.distinct c.requires.whole.1
    (omega arith) small s c.requires.counts in
    omega (arith, fits, ap (λ (k : ℕ). (total_for (row_at both k) s).count) key_is, ap (λ (x : StrengthTotals). (total_for x s).count) row_is)

pub add_totals-requires-clause-bytes : goal.add_totals-requires-clause-bytes
add_totals-requires-clause-bytes c s =
    let one : Totals = totals_of c.args.one in
    let other : Totals = totals_of c.args.other in
    let both : Totals = record { keys = c.loop-i.keys; rows = c.loop-i.rows.items } in
    let key_is : get_or other.keys c.loop-i.i 0 ≡ c.get-key.result = get_or_from_slice_get other.keys c.loop-i.i c.get-key.result 0 c.get-key.ensures.key in
    let row_is : c.index.result.now ≡ get_or other.rows c.loop-i.i no_totals = c.index.ensures
    ∙ get_or_default other.rows c.loop-i.i c.index.result.now no_totals (omega arith) in
    let small : get_or other.keys c.loop-i.i 0 ≤ 18446744073709551872 = subst (λ (k : ℕ). k ≤ 18446744073709551872) (sym key_is) c.get-key.ensures.small in
    let fits = bytes-fit-in one other c.loop-i.i both c.loop-i.invariant c.get-key.ensures.keys.distinct c.requires.whole.1
    (omega arith) small s c.requires.bytes in
    omega (arith, fits, ap (λ (k : ℕ). (total_for (row_at both k) s).bytes) key_is, ap (λ (x : StrengthTotals). (total_for x s).bytes) row_is)

pub loop-i-preserved : goal.loop-i-preserved
loop-i-preserved c =
    let one : Totals = totals_of c.args.one in
    let other : Totals = totals_of c.args.other in
    let i = c.loop-i.i in
    let both : Totals = record { keys = c.loop-i.keys; rows = c.loop-i.rows.items } in
    let both' : Totals = record { keys = c.add_totals.new.keys; rows = c.add_totals.new.rows.items } in
    let key_is : get_or other.keys i 0 ≡ c.get-key.result = get_or_from_slice_get other.keys i c.get-key.result 0 c.get-key.ensures.key in
    let row_is : c.index.result.now ≡ get_or other.rows i no_totals = c.index.ensures ∙ get_or_default other.rows i c.index.result.now no_totals
    (omega arith) in
    let put : IsRowPut both both' (get_or other.keys i 0) (sums_of (row_at both (get_or other.keys i 0)) (get_or other.rows i no_totals)) =
    subst (λ (k : ℕ). IsRowPut both both' k (sums_of (row_at both k) (get_or other.rows i no_totals))) (sym key_is)
    (subst (λ (x : StrengthTotals). IsRowPut both both' c.get-key.result (sums_of (row_at both c.get-key.result) x)) row_is c.in_ok-add_totals.ensures) in
    joined-more one other i both c.loop-i.invariant c.get-key.ensures.keys.distinct c.requires.whole.1 (omega arith) both' put

pub returns : goal.returns
returns c =
    let one : Totals = totals_of c.args.one in
    let other : Totals = totals_of c.args.other in
    let both : Totals = record { keys = c.loop-i.keys; rows = c.loop-i.rows.items } in
    let whole : length other.rows ≡ length other.keys = c.requires.whole.1 in
    let end : c.loop-i.i ≡ length other.keys = omega arith in
    joined-all one other both whole (subst (λ (n : ℕ). AreJoining one other n both) end c.loop-i.invariant)
