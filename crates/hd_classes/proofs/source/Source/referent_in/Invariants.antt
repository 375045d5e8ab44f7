use Rattle.std.proofs.Common.{◌≡◌, ℕ, ◌<◌, false, Some}
use Rattle.std.specs.List.{slice_get}
use Rattle.hd_terms.specs.Classes.{is_referent}
use Rattle.hd_classes.specs.declared.known.LayoutField.{LayoutField}
use Rattle.hd_classes.specs.Known.{field_view}
use Rattle.hd_classes.specs.Sources.{table_of}
use Rattle.hd_classes.proofs.source.Source.referent_in.Given as goal

-- none of the fields so far is that of a referent
abbrev pub invariant-loop-i : goal.invariant-loop-i
invariant-loop-i l = (k : ℕ) (f : LayoutField) → k < l.i → slice_get l.layout k ≡ Some f → is_referent (table_of l.self) (field_view f) ≡ false
