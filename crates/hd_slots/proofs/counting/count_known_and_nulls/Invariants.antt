use Rattle.std.proofs.Common.{◌≡◌, ◌≤◌, take, ltb, eqb}
use Rattle.std.specs.Prelude.{count_by}
use Rattle.hd_slots.specs.Table.{null_code}
use Rattle.hd_slots.proofs.counting.count_known_and_nulls.Given as goal

-- the counts of the first numbers
abbrev pub invariant-loop-i : goal.invariant-loop-i
invariant-loop-i l = record {
  known : l.known ≡ count_by (λ code. ltb code l.objects) (take l.i l.codes);
  nulls : l.nulls ≡ count_by (λ code. eqb code null_code) (take l.i l.codes);
  few_known : l.known ≤ l.i;
  few_nulls : l.nulls ≤ l.i;
}
