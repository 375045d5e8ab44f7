-- The words of the kinds of slots.
-- Source: this project's protocol (docs/PROTOCOL.md).
use Rattle.std.specs.Prelude.{ℕ, Bool, true, false, List, codes}
use Rattle.hd_terms.specs.declared.slots.SlotKind.{SlotKind}
use Rattle.hd_terms.specs.declared.slots.SlotKind.TheVariants as slot_kinds

-- the word of a kind, before the number where it has one
abbrev pub kind_word : SlotKind → List ℕ
kind_word slot_kinds.Field = codes "f"
kind_word slot_kinds.Element = codes "e"
kind_word slot_kinds.Static = codes "s"
kind_word slot_kinds.Const = codes "k"
kind_word slot_kinds.OfClass = codes "class"
kind_word slot_kinds.Super = codes "super"
kind_word slot_kinds.Loader = codes "loader"
kind_word slot_kinds.Signers = codes "signers"
kind_word slot_kinds.Domain = codes "domain"

-- a number follows the word of a kind
abbrev pub has_number : SlotKind → Bool
has_number slot_kinds.Field = true
has_number slot_kinds.Element = true
has_number slot_kinds.Static = true
has_number slot_kinds.Const = true
has_number slot_kinds.OfClass = false
has_number slot_kinds.Super = false
has_number slot_kinds.Loader = false
has_number slot_kinds.Signers = false
has_number slot_kinds.Domain = false
