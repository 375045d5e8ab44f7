-- The sub-record at the front of some bytes.
use Rattle.std.specs.Prelude.{◌≡◌, ◌≢◌, ◌⊎◌, ℕ, ◌≤◌, List, ◌∷◌, ◌++◌, length, take, drop}
use Rattle.hd_terms.specs.declared.IdSize.{IdSize}
use Rattle.hd_terms.specs.SubRecords.{SubRecord, IsSubRecord, sub_record_text, Sub, item_at}
use Rattle.hd_terms.specs.declared.errors.Cause.{Cause}
use Rattle.hd_terms.specs.declared.errors.ReadFault.{ReadFault}
use Rattle.hd_terms.specs.ReadFaults.{IsStuck}
use Rattle.hd_subs.specs.Packed.{packed_sub}
use Rattle.hd_subs.specs.declared.reading.NoRow.{NoRow}
use Rattle.hd_subs.specs.declared.reading.NoRow.TheVariants as no_rows

-- the bytes at an offset begin with this sub-record, and these bytes come after it
pub record BeginsWithSub (size : IdSize) (at : ℕ) (rest : List ℕ) (sub : Sub) (after : List ℕ) : Type 0 where
  pub s : SubRecord
  pub is : IsSubRecord size s
  pub whole : rest ≡ sub_record_text s ++ after
  pub sub_is : sub ≡ record { offset = at; item = item_at size at s }

-- `text` lies at an offset of a file
abbrev pub LiesAt : List ℕ → ℕ → List ℕ → Type 0
LiesAt bytes at text = text ≡ take (length text) (drop at bytes)

-- `fields` has at least `len` bytes, and `after` is what follows them
pub record IsBehind (len : ℕ) (fields after : List ℕ) : Type 0 where
  pub within : len ≤ length fields
  pub after_is : after ≡ drop len fields

-- wherever `text` lies in a file, it begins with the sub-record that is read there, and `after` follows
abbrev pub IsPackedFrom : IdSize → List ℕ → List ℕ → Type 0
IsPackedFrom size text after = (bytes : List ℕ) (at : ℕ) → LiesAt bytes at text → BeginsWithSub size at text (packed_sub size bytes at) after

-- a tag and the bytes behind it are no instance and no array, or one that can't be read
abbrev pub IsUnpacked : IdSize → ℕ → List ℕ → Type 0
IsUnpacked size tag fields = ((tag ≢ 0x21) × (tag ≢ 0x22) × (tag ≢ 0x23)) ⊎ ((cause : Cause) × IsStuck size (tag ∷ fields) cause)

-- no sub-record can be read from the bytes at an offset
pub record IsFaultAt (size : IdSize) (at : ℕ) (rest : List ℕ) (f : ReadFault) : Type 0 where
  pub stuck : IsStuck size rest f.cause
  pub place : f.offset ≡ at

-- why no row can be read from a tag and the bytes behind it
abbrev pub IsNoRow : IdSize → ℕ → List ℕ → NoRow → Type 0
IsNoRow size tag fields no_rows.IsClass = tag ≡ 0x20
IsNoRow size tag fields (no_rows.Fault cause) = IsStuck size (tag ∷ fields) cause
