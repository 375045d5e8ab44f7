use Rattle.std.proofs.Common.{◌≡◌, ◌+◌, ◌++◌}
use Rattle.hd_terms.specs.Classes.{layout_len}
use Rattle.hd_classes.specs.Places.{reference_places}
use Rattle.hd_classes.proofs.FieldLemmas.{first_fields}
use Rattle.hd_classes.proofs.places.push_places.Given as goal

-- the places of the fields so far were added, and the next field lies behind them
abbrev pub invariant-loop-i : goal.invariant-loop-i
invariant-loop-i l = record {
  added : l.places.items ≡ l.initial.places.items ++ reference_places l.id_size l.start (first_fields l.fields l.i);
  at_is : l.at ≡ l.start + layout_len l.id_size (first_fields l.fields l.i);
}
