-- How the names that go with class objects are kept.
use Rattle.std.specs.Prelude.{◌≡◌, List, length}
use Rattle.hd_terms.specs.Dump.{NamedClass}
use Rattle.hd_names.specs.declared.named_classes.NamedClasses.TheInside.{Inside}
use Rattle.hd_names.specs.Tables.{AreEarlier, named_of}

abbrev pub named_in : Inside → List NamedClass
named_in a = named_of a.firsts.entries a.statics a.table

-- the numbers of statics are known of each class, the fields of each row, and the rows above a row stand before it
pub record AreNamed (a : Inside) : Type 0 where
  pub statics : length a.statics ≡ length a.firsts.entries
  pub rows : length a.table.fields ≡ length a.table.rows.items
  pub earlier : AreEarlier a.table.rows.items
