-- Where the totals of a group are.
-- Source: this project.
use Rattle.std.specs.Prelude.{◌≡◌, ◌<◌, length, Option, IfSome}
use Rattle.hd_terms.specs.Listed.{group_key}
use Rattle.hd_totals.specs.declared.group_totals.Placed.{Placed}
use Rattle.hd_totals.specs.Totals.{Totals, place_of}

-- each key has its totals; and where a group is known with a place, its totals are there
pub record HavePlaces (t : Totals) (last : Option Placed) : Type 0 where
  pub whole : length t.rows ≡ length t.keys
  pub known : IfSome last (λ p. (p.place ≡ place_of t (group_key p.group)) × (p.place < length t.rows))
