-- A field as it is read by its name.
use Rattle.std.specs.Option.{option_copied}
use Rattle.hd_terms.specs.Dump.{NamedField}
use Rattle.hd_names.specs.declared.field_names.FieldName.{FieldName}

abbrev pub field_view : FieldName → NamedField
field_view f = record { owner = f.owner; name = option_copied f.name }
