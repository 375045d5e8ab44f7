-- What callers read as one sub-record.
use Rattle.std.specs.Prelude.{map}
use Rattle.hd_terms.specs.SubRecords.{Item, ConstantItem, StaticItem, FieldItem, ClassItem}
use Rattle.hd_subs.specs.declared.class.Constant.{Constant}
use Rattle.hd_subs.specs.declared.class.Static.{Static}
use Rattle.hd_subs.specs.declared.class.Field.{Field}
use Rattle.hd_subs.specs.declared.class.ClassDump.{ClassDump}
use Rattle.hd_terms.specs.SubRecords as subs
use Rattle.hd_subs.specs.declared.sub.Item.TheVariants as items
use Rattle.hd_subs.specs.declared.sub.Item as declared_item
use Rattle.hd_subs.specs.declared.sub.Sub as declared_sub

-- a constant, a static, a field and a class, as the definitions of the file format say them
abbrev pub constant_view : Constant → ConstantItem
constant_view c = record { code = c.code; value = c.value }

abbrev pub static_view : Static → StaticItem
static_view s = record { name = s.name; code = s.code; value = s.value }

abbrev pub field_view : Field → FieldItem
field_view f = record { name = f.name; code = f.code }

abbrev pub class_view : ClassDump → ClassItem
class_view c = record {
  id = c.id;
  super = c.super_id;
  loader = c.loader;
  signers = c.signers;
  domain = c.domain;
  constants = map constant_view c.constants.items;
  statics = map static_view c.statics.items;
  fields = map field_view c.fields.items;
}

-- what a sub-record holds, as the definitions of the file format say it
abbrev pub item_view : declared_item.Item → Item
item_view (items.Root kind id) = subs.Root kind id
item_view (items.Class class) = subs.Class (class_view class.now)
item_view (items.Instance id class values) = subs.Instance id class values
item_view (items.ObjArray id class elements) = subs.ObjArray id class elements
item_view (items.PrimArray id element count) = subs.PrimArray id element count

-- a sub-record and the offset of its tag
abbrev pub sub_view : declared_sub.Sub → subs.Sub
sub_view s = record { offset = s.offset; item = item_view s.item }
