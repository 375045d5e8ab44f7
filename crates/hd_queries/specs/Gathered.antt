-- IDs that are gathered for a list: all, or the least of them.
-- Source: this project.
use Rattle.std.specs.Prelude.{◌≡◌, ℕ, ◌↔◌, List, [], take, Contains, Option, Some, None}
use Rattle.std.specs.List.{fold}
use Rattle.std.specs.List.Sorted.{IsStrictlyIncreasing}
use Rattle.hd_terms.specs.Listed.{first_items}
use Rattle.hd_queries.specs.LeastIds.{Least, with_id}
use Rattle.hd_queries.specs.declared.gathered.Gathered.{Gathered}
use Rattle.hd_queries.specs.declared.gathered.Gathered.TheVariants as gathered

-- IDs, each once and ascending
abbrev pub in_order : List ℕ → List ℕ
in_order ids = fold with_id [] ids

-- all IDs that were put in are kept, since all are wanted
abbrev pub AreAll : Option ℕ → (all kept : List ℕ) → Type 0
AreAll None all kept = kept ≡ all
AreAll (Some n) all kept = ⊥

-- the least of all IDs that were put in are kept: the first `n`
abbrev pub AreLeast : Option ℕ → List ℕ → Least → Type 0
AreLeast None all kept = ⊥
AreLeast (Some n) all kept = kept ≡ record { most = n; ids = take n (in_order all) }

-- of all IDs that were put in, those that are wanted are kept
abbrev pub AreGathered : Option ℕ → List ℕ → Gathered → Type 0
AreGathered most all (gathered.All ids) = AreAll most all ids.items
AreGathered most all (gathered.Least kept) = AreLeast most all kept

-- IDs are the first of such a list, or all
abbrev pub AreFirst : Option ℕ → (List ℕ → Type 0) → List ℕ → Type 0
AreFirst most AreAll ids = (all : List ℕ) × AreAll all × (ids ≡ first_items most all)

-- a list rises and has the same IDs as another
pub record HaveSameIds (others ids : List ℕ) : Type 0 where
  pub rises : IsStrictlyIncreasing ids
  pub same : (id : ℕ) → Contains ids id ↔ Contains others id
