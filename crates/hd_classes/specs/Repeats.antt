-- Noting IDs one after another, and counting those that were noted before.
use Rattle.std.specs.Prelude.{◌≡◌, ℕ, ◌+◌, ◌==◌, if◌then◌else◌, List}
use Rattle.std.specs.List.{list_any}
use Rattle.hd_terms.specs.FirstRecords.{repeats}
use Rattle.hd_ids.specs.Noted.{is_noted}
use Rattle.hd_ids.specs.Noted as ids_noted

-- an ID is noted, and counted if it was noted before
pub record NotesId (id : ℕ) (ids : List ℕ) (repeated : ℕ) (ids' : List ℕ) (repeated' : ℕ) : Type 0 where
  pub noted : ids' ≡ ids_noted.noted ids id
  pub counted : repeated' ≡ repeated + (if is_noted ids id then 1 else 0)

-- the keys of elements are noted, and it's counted how many of them were noted before
pub record AreNoted {X : Type 0} (key : X → ℕ) (xs : List X) (ids : List ℕ) (repeated : ℕ) : Type 0 where
  pub known : (id : ℕ) → is_noted ids id ≡ list_any (λ x. id == key x) xs
  pub count : repeated ≡ repeats key xs
