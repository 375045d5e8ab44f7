use Rattle.std.proofs.Common.{◌≡◌, ◌+◌, ◌*◌, ◌≤◌, ◌++◌, length}
use Rattle.hd_terms.specs.Classes.{layout_len}
use Rattle.hd_classes.specs.Places.{reference_places}
use Rattle.hd_classes.proofs.places.places_of_layout.Given as goal

-- the places so far, before those of the rest; the rest ends where the layout does
abbrev pub invariant-loop-own : goal.invariant-loop-own
invariant-loop-own l = record {
  places : l.places.items ++ reference_places l.id_size l.at l.rest ≡ reference_places l.id_size 0 l.fn.layout;
  end : l.at + layout_len l.id_size l.rest ≡ layout_len l.id_size l.fn.layout;
}

abbrev pub decreases-loop-own : goal.decreases-loop-own
decreases-loop-own l = length l.rest
