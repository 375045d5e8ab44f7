-- The objects that a list is of, by what is kept of them.
-- Source: this project.
use Rattle.std.specs.Prelude.{◌≡◌, ℕ, ◌<◌, ◌≤◌, Bool, true, false, List, length, Contains, Option}
use Rattle.std.specs.List.Sorted.{IsStrictlyIncreasing}
use Rattle.hd_terms.specs.Dump.{Dump, object_at}
use Rattle.hd_queries.specs.Compared.{AreBothKept, IsQuietPage}
use Rattle.hd_queries.specs.Gathered.{AreGathered}
use Rattle.hd_queries.specs.declared.gathered.Gathered.{Gathered}
use Rattle.hd_queries.specs.declared.listing.Listed.{Listed}
use Rattle.hd_queries.specs.declared.listing.Listed.TheVariants as listed
use Rattle.hd_totals.specs.Fallen.{falls_from}
use Rattle.hd_totals.specs.GroupPages.{least_at, IsMarked}
use Rattle.hd_totals.specs.LastChanges.{page_of}
use Rattle.hd_totals.specs.Members.{is_member}

-- the object of a number is one of those that a list is of
abbrev pub is_listed : Dump → Listed → ℕ → Bool
is_listed dump (listed.Fallen compared) o = falls_from compared.earlier.strengths.now compared.later.strengths.now o
is_listed dump (listed.Members strengths members) o = is_member dump strengths.now members.group members.strength o

-- the same for the logs that a list is of
abbrev pub AreAllKept : ℕ → Listed → Type 0
AreAllKept n (listed.Fallen compared) = AreBothKept n compared
AreAllKept n (listed.Members strengths members) = length strengths.now ≡ n

-- a page has not changed since the events that both logs begin with, or a group is not marked at it
abbrev pub IsQuiet : Listed → ℕ → Type 0
IsQuiet (listed.Fallen compared) page = IsQuietPage compared page
IsQuiet (listed.Members strengths members) page = IsMarked members.pages.now page members.group → ⊥

-- an ID that no object of a page is below, of those that a list is of
abbrev pub least_of : Listed → ℕ → ℕ
least_of (listed.Fallen compared) page = 0
least_of (listed.Members strengths members) page = least_at members.pages.now page

-- a list is of no object of a quiet page, and of none below the least ID of a page
pub record IsNoneOnQuiet (dump : Dump) (list : Listed) : Type 0 where
  pub none : (o : ℕ) → o < length dump.objects → IsQuiet list (page_of o) → is_listed dump list o ≡ false
  pub above : (o : ℕ) → o < length dump.objects → least_of list (page_of o) ≤ (object_at dump o).id

-- the IDs of those among the first `k` objects that pass a test, in any order
pub record AreIdsBefore (dump : Dump) (test : ℕ → Bool) (k : ℕ) (ids : List ℕ) : Type 0 where
  pub passes : (id : ℕ) → Contains ids id → (o : ℕ) × (o < k) × (test o ≡ true) × ((object_at dump o).id ≡ id)
  pub all : (o : ℕ) → o < k → test o ≡ true → Contains ids (object_at dump o).id

-- of the IDs of those among the first `k` objects that pass a test, the first `most` are kept, or all
abbrev pub AreGatheredBefore : Dump → (ℕ → Bool) → Option ℕ → ℕ → Gathered → Type 0
AreGatheredBefore dump test most k kept = (all : List ℕ) × AreIdsBefore dump test k all × AreGathered most all kept

-- the IDs of the objects that pass a test, ascending
abbrev pub AreAllOf : Dump → (ℕ → Bool) → List ℕ → Type 0
AreAllOf dump test ids = AreIdsBefore dump test (length dump.objects) ids × IsStrictlyIncreasing ids
