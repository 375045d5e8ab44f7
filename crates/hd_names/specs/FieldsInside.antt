-- How the fields of a layout are kept while they are read.
use Rattle.std.specs.Prelude.{◌≡◌, List, drop}
use Rattle.hd_terms.specs.Dump.{NamedField}
use Rattle.hd_names.specs.declared.field_names.FieldNames.TheInside.{Inside}
use Rattle.hd_names.specs.Tables.{AreEarlier, layout_in}

abbrev pub fields_in : Inside → List NamedField
fields_in a = layout_in a.table.now a.first

-- from the row where it stands the layout goes on behind the fields that were passed
pub record StandsThere (a : Inside) : Type 0 where
  pub earlier : AreEarlier a.table.now.rows.items
  pub here : drop a.passed (layout_in a.table.now a.first) ≡ layout_in a.table.now a.row
