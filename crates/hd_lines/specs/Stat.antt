-- The text of `stat`: counts of a dump, and totals of each strength with no edit.
-- Source: this project (docs/PROTOCOL.md).
use Rattle.std.specs.Prelude.{◌≡◌, ℕ, List, [], ◌∷◌, ◌++◌, codes, decimal}
use Rattle.std.specs.List.{flat_map}
use Rattle.hd_terms.specs.declared.Strength.{Strength}
use Rattle.hd_terms.specs.declared.Strength.TheVariants as strengths
use Rattle.hd_terms.specs.declared.Counts.{Counts}
use Rattle.hd_terms.specs.Dump.{Dump}
use Rattle.hd_terms.specs.Counts.{counts_of}
use Rattle.hd_terms.specs.Totals.{IsTotal}
use Rattle.hd_lines.specs.Replies.{with_newline, strength_name}

-- `repeated OBJECTS STRINGS LOADS`
abbrev pub repeated_line : Counts → List ℕ
repeated_line c = codes "repeated " ++ decimal c.repeated_objects ++ 32 ∷ decimal c.repeated_strings ++ 32 ∷ decimal c.repeated_loads

-- the lines of the counts
abbrev pub count_lines : Counts → List (List ℕ)
count_lines c =
    (codes "objects " ++ decimal c.objects)
    ∷ (codes "roots " ++ decimal c.roots)
    ∷ (codes "edges " ++ decimal c.edges)
    ∷ (codes "unresolved " ++ decimal c.unresolved)
    ∷ repeated_line c
    ∷ (codes "opaque " ++ decimal c.opaque)
    ∷ []

-- how many objects have a strength, and how many recorded bytes
pub record Total : Type 0 where
  pub count : ℕ
  pub bytes : ℕ

-- `STRENGTH COUNT BYTES`
abbrev pub total_line : Strength → Total → List ℕ
total_line s t = strength_name s ++ 32 ∷ decimal t.count ++ 32 ∷ decimal t.bytes

-- a line for each strength, from the best
abbrev pub total_lines : (Strength → Total) → List (List ℕ)
total_lines totals =
    total_line strengths.Strong (totals strengths.Strong)
    ∷ total_line strengths.Soft (totals strengths.Soft)
    ∷ total_line strengths.Weak (totals strengths.Weak)
    ∷ total_line strengths.Final (totals strengths.Final)
    ∷ total_line strengths.Phantom (totals strengths.Phantom)
    ∷ total_line strengths.Unreachable (totals strengths.Unreachable)
    ∷ []

-- the text of `stat`
pub record IsStat (dump : Dump) (text : List ℕ) : Type 0 where
  pub totals : Strength → Total
  pub are : (s : Strength) → IsTotal dump [] s (totals s).count (totals s).bytes
  pub text_is : text ≡ flat_map with_newline (count_lines (counts_of dump) ++ total_lines totals)
