-- Fields of layouts, as the definitions say them.
use Rattle.hd_terms.specs.Classes.{LayoutField}
use Rattle.hd_classes.specs.declared.known.LayoutField as declared_field

abbrev pub field_view : declared_field.LayoutField → LayoutField
field_view f = record { owner = f.owner; name = f.name; code = f.code }
