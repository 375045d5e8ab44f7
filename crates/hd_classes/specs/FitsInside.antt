-- How the bytes of layouts are kept once they were summed.
use Rattle.std.specs.Prelude.{◌≡◌, ℕ, suc, ◌<◌, ◌^◌, List, length, All, Option, Some, None, Vec}
use Rattle.std.specs.List.{slice_index_or}
use Rattle.std.specs.declared.alloc.Global.{Global}
use Rattle.hd_terms.specs.declared.IdSize.{IdSize}
use Rattle.hd_terms.specs.Classes.{ResolvedClass}
use Rattle.hd_classes.specs.Known.{Known}
use Rattle.hd_classes.specs.Fits.{SizedClasses, length_by_number}
use Rattle.hd_classes.specs.Places.{places_by_number}
use Rattle.hd_classes.specs.declared.fit.LayoutBytes.TheInside.{Inside}

abbrev pub sized_classes : Inside → SizedClasses
sized_classes a = record { classes = a.classes.now; size = a.id_size }

-- a number for each class: 0, or its bytes plus one; and numbers of four bytes count them
pub record AreSums (size : IdSize) (classes : Known) (sums : List ℕ) : Type 0 where
  pub count : length sums ≡ length classes.classes
  pub short : All (λ (p : ℕ × ResolvedClass). length p.1.layout < 2 ^ 29) classes.classes
  pub are : (i n : ℕ) → slice_index_or sums i 0 ≡ suc n → n ≡ length_by_number size classes i

-- for each class its places, or none that were noted
pub record ArePlaces (size : IdSize) (classes : Known) (places : List (Option (Vec ℕ Global))) : Type 0 where
  pub count : length places ≡ length classes.classes
  pub are : (i : ℕ) (noted : Vec ℕ Global) → slice_index_or places i None ≡ Some noted → noted.items ≡ places_by_number size classes i

-- both are so
pub record AreKept (a : Inside) : Type 0 where
  pub sums : AreSums a.id_size a.classes.now a.sums.items
  pub places : ArePlaces a.id_size a.classes.now a.places.items
