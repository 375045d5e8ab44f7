-- How the values of an instance fit the layout of its class.
-- Source: HPROF binary format, INSTANCE DUMP: the number of bytes that follow, and the values of the class's instance fields,
-- followed by those of its super class's.
use Rattle.std.specs.Prelude.{◌≡◌, ◌≢◌, ℕ, Option, Some, None}
use Rattle.std.specs.Option.{option_map_or}
use Rattle.hd_terms.specs.declared.IdSize.{IdSize}
use Rattle.hd_terms.specs.Classes.{ResolvedClass, layout_len}
use Rattle.hd_classes.specs.Known.{Known, known_at, known_by_number}
use Rattle.hd_classes.specs.declared.fit.Fit.{Fit}
use Rattle.hd_classes.specs.declared.fit.Fit.TheVariants as fits

-- the classes of a file, and the size of its identifiers
pub record SizedClasses : Type 0 where
  pub classes : Known
  pub size : IdSize

-- how many bytes the values of a class's instances have
abbrev pub length_of : IdSize → ResolvedClass → ℕ
length_of size k = layout_len size k.layout

-- so of the class of a number
abbrev pub length_by_number : IdSize → Known → ℕ → ℕ
length_by_number size classes i = option_map_or (length_of size) (known_by_number classes i) 0

-- a class of an ID is known whose instances have values of other bytes
pub record IsMisfit (size : IdSize) (len : ℕ) (known : Option ResolvedClass) : Type 0 where
  pub k : ResolvedClass
  pub is : known ≡ Some k
  pub other : len ≢ length_of size k

-- a class of an ID is known by a number, and its instances have values of `len` bytes
pub record FitsClass (size : IdSize) (len : ℕ) (known by_number : Option ResolvedClass) : Type 0 where
  pub k : ResolvedClass
  pub is : known ≡ Some k
  pub numbered : by_number ≡ Some k
  pub same : len ≡ length_of size k

-- how `len` bytes of values fit the class of an ID
abbrev pub IsFit : IdSize → ℕ → Known → ℕ → Fit → Type 0
IsFit size len classes id fits.Unknown = known_at classes id ≡ None
IsFit size len classes id fits.Misfit = IsMisfit size len (known_at classes id)
IsFit size len classes id (fits.Class number) = FitsClass size len (known_at classes id) (known_by_number classes number)
