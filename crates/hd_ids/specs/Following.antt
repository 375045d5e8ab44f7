-- IDs behind others, by pages.
-- Source: this project.
use Rattle.std.specs.Prelude.{◌≡◌, ℕ, List, ◌++◌, true, false}
use Rattle.hd_ids.specs.declared.paged.Following.{Following}
use Rattle.hd_ids.specs.declared.paged.Following.TheVariants.{Ids, Repeated, Unserved}
use Rattle.hd_ids.specs.Noted.{are_apart}

-- the IDs of both, if none is in both; or those in front alone, where rows don't serve for all
abbrev pub Follows : List ℕ → List ℕ → Following → Type 0
Follows front back (Ids ids) = (are_apart front back ≡ true) × (ids ≡ front ++ back)
Follows front back Repeated = are_apart front back ≡ false
Follows front back (Unserved ids) = ids ≡ front
