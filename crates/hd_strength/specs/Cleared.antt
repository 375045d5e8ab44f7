-- Kinds of references that are cleared everywhere.
-- Source: this project.
use Rattle.std.specs.Prelude.{ℕ, Bool, false, nat_lt}
use Rattle.hd_terms.specs.declared.EdgeKind.{EdgeKind}
use Rattle.hd_terms.specs.declared.EdgeKind.TheVariants as kinds
use Rattle.hd_terms.specs.declared.Edit.{Edit}
use Rattle.hd_terms.specs.declared.Edit.TheVariants as edits
use Rattle.hd_terms.specs.Ranks.{kind_of_references, same_kind}
use Rattle.hd_strength.specs.declared.cleared.Cleared.{Cleared}

-- an edit clears all references of a kind
abbrev pub clears : EdgeKind → Edit → Bool
clears kind (edits.Cut id slot) = false
clears kind (edits.Clear id) = false
clears kind (edits.Drop r) = false
clears kind (edits.Add id) = false
clears kind (edits.ClearAll references) = same_kind kind (kind_of_references references)
clears kind (edits.CutAll id i) = false

-- how many edits clear all references of a kind
abbrev pub clear_count : Cleared → EdgeKind → ℕ
clear_count cleared kinds.Strong = 0
clear_count cleared kinds.Soft = cleared.soft
clear_count cleared kinds.Weak = cleared.weak
clear_count cleared kinds.Final = cleared.finals
clear_count cleared kinds.Phantom = cleared.phantom

-- all references of a kind are cleared
abbrev pub is_cleared : Cleared → EdgeKind → Bool
is_cleared cleared kind = nat_lt 0 (clear_count cleared kind)
