-- What the last event of a log moved, and what an undo of it restores.
-- Source: this project.
use Rattle.std.specs.Prelude.{◌≡◌, ◌≢◌, ℕ, ◌+◌, ◌-◌, ◌≤◌, List, length, take, Contains, Some, sum_by}
use Rattle.hd_terms.specs.declared.Edit.{Edit}
use Rattle.hd_terms.specs.declared.Event.{Event}
use Rattle.hd_terms.specs.declared.Strength.{Strength}
use Rattle.hd_terms.specs.Dump.{Dump}
use Rattle.hd_terms.specs.EditedDump.{live_edit_at, standing}
use Rattle.hd_terms.specs.Strengths.{HasStrength}
use Rattle.hd_reverse.specs.Referrers.{referrers_to}
use Rattle.hd_view.specs.Finding.{edge_count}

-- how many edges are from an object, or lead to it, standing or not
abbrev pub edges_at : Dump → ℕ → ℕ
edges_at dump o = edge_count dump o + length (referrers_to dump o)

-- a log without its last event
abbrev pub earlier : List Event → List Event
earlier log = take (length log - 1) log

-- some objects are all whose strength the last event of a log changes
abbrev pub HaveMoved : Dump → List Event → List ℕ → Type 0
HaveMoved dump log region =
    (o : ℕ) (s t : Strength) → HasStrength (standing dump (earlier log)) o s → HasStrength (standing dump log) o t → s ≢ t → Contains region o

-- the objects whose strength the last event of a log changes have at least `edges` edges together
abbrev pub IsLastMove : Dump → List Event → ℕ → Type 0
IsLastMove dump log edges = (region : List ℕ) → HaveMoved dump log region → edges ≤ sum_by (edges_at dump) region

-- two logs have the same live edits at the same places
pub record HaveSameLive (log other : List Event) : Type 0 where
  pub there : (j : ℕ) (x : Edit) → live_edit_at log j ≡ Some x → live_edit_at other j ≡ Some x
  pub back : (j : ℕ) (x : Edit) → live_edit_at other j ≡ Some x → live_edit_at log j ≡ Some x

-- an undo of the last event restores what was live before that
abbrev pub Restores : (before after : List Event) → ℕ → Type 0
Restores before after k = k + 1 ≡ length before → HaveSameLive (earlier before) after
