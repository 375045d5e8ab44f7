-- The rows of a reverse index: of each object the slots that refer to it, and the roots on it; and beside them of each kind the
-- edges through referents.
-- Source: this project.
use Rattle.std.specs.Prelude.{◌≡◌, ℕ, ◌+◌, ◌-◌, ◌<◌, List, length, take, drop, slice_index}
use Rattle.hd_terms.specs.Dump.{Dump}
use Rattle.hd_graph.specs.declared.kinds.KindLists.{KindLists}
use Rattle.hd_graph.specs.Kinds.{AreKinds}
use Rattle.hd_reverse.specs.declared.referrer.Referrer.{Referrer}
use Rattle.hd_reverse.specs.declared.numbers.NumberOn.{NumberOn}
use Rattle.hd_reverse.specs.Numbers.{numbers_on}
use Rattle.hd_reverse.specs.Referrers.{referrers_to, roots_on}

-- where the row of each object starts, and where the last one ends; the rows, one after another; the roots by object; and the
-- edges through referents by kind
pub record Reverse : Type 0 where
  pub starts : List ℕ
  pub referrers : List Referrer
  pub roots : List NumberOn
  pub kinds : KindLists

-- the slots that refer to an object
abbrev pub referrers_in : Reverse → ℕ → List Referrer
referrers_in r o = take (slice_index r.starts (o + 1) - slice_index r.starts o) (drop (slice_index r.starts o) r.referrers)

-- the roots on an object
abbrev pub roots_in : Reverse → ℕ → List ℕ
roots_in r o = numbers_on r.roots o

-- this is so of a dump: of each object all slots of the dump that refer to it, in the order of their objects and indexes, and
-- all the dump's roots on it, in their order; and of each kind all edges of the dump through referents
pub record IsReverseOf (dump : Dump) (r : Reverse) : Type 0 where
  pub objects : length r.starts ≡ length dump.objects + 1
  pub referrers : (o : ℕ) → o < length dump.objects → referrers_in r o ≡ referrers_to dump o
  pub roots : (o : ℕ) → roots_in r o ≡ roots_on dump o
  pub kinds : AreKinds dump.objects r.kinds
