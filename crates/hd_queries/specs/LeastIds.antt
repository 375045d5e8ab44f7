-- The least of many IDs.
-- Source: this project.
use Rattle.std.specs.Prelude.{ℕ, List}
use Rattle.std.specs.Ordering.{nat_cmp}
use Rattle.std.specs.BTreeSet.{insert_key}

-- at most `most` IDs, ascending
pub record Least : Type 0 where
  pub most : ℕ
  pub ids : List ℕ

-- ascending IDs with one more, unless it is there
abbrev pub with_id : List ℕ → ℕ → List ℕ
with_id ids id = insert_key nat_cmp ids id
