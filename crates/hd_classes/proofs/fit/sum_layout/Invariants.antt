use Rattle.std.proofs.Common.{◌≡◌, ◌+◌, ◌*◌, ◌≤◌, length}
use Rattle.hd_terms.specs.Classes.{layout_len}
use Rattle.hd_classes.proofs.fit.sum_layout.Given as goal

-- as many bytes are left of the limit, before those of the rest, as there are before those of the layout; with eight at most
-- for each field
abbrev pub invariant-loop-own : goal.invariant-loop-own
invariant-loop-own l = record {
  sum : l.left + layout_len l.id_size l.fn.layout ≡ l.fn.limit + layout_len l.id_size l.rest;
  few : l.fn.limit + 8 * length l.rest ≤ l.left + 8 * length l.fn.layout;
  within : l.left ≤ l.fn.limit;
}

abbrev pub decreases-loop-own : goal.decreases-loop-own
decreases-loop-own l = length l.rest
