use Rattle.std.proofs.Common.{◌≡◌, ◌+◌, ◌*◌, ◌≤◌}
use Rattle.hd_terms.specs.Classes.{layout_len}
use Rattle.hd_classes.proofs.FieldLemmas.{first_fields}
use Rattle.hd_classes.proofs.fit.sum_fields.Given as goal

-- what is left of the limit, and the bytes of the fields so far, each of which has eight at most
abbrev pub invariant-loop-i : goal.invariant-loop-i
invariant-loop-i l = record {
  sum : l.left + layout_len l.id_size (first_fields l.fields l.i) ≡ l.fn.limit;
  few : l.fn.limit ≤ l.left + 8 * l.i;
}
