-- How the names of classes are kept: their texts in one list of bytes, and which part of it is the name of which class.
use Rattle.std.specs.Prelude.{ℕ, List}
use Rattle.hd_classes.specs.declared.class_names.ClassNames.TheInside.{Inside}
use Rattle.hd_classes.specs.Names.{names_by, ArePartsOf}

abbrev pub names_in : Inside → List (ℕ × List ℕ)
names_in a = names_by a.text.items a.parts.entries

abbrev pub AreNames : Inside → Type 0
AreNames a = ArePartsOf a.text.items a.parts.entries
