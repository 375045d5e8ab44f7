-- Classes: names, chains, layouts, referent fields and reference kinds.
-- Source: HPROF binary format, UTF8, LOAD CLASS, CLASS DUMP and INSTANCE DUMP; java.lang.ref package specification (Java SE
-- 17) for soft, weak and phantom references. That FinalReference is one more kind, and that all four are told by their names,
-- is this project's choice.
use Rattle.std.specs.Prelude.{◌≡◌, ◌≢◌, ℕ, zero, suc, ◌==◌, Bool, false, ◌&&◌, if◌then◌else◌, List, [], ◌∷◌, length, take, drop, map, position, slice_get}
use Rattle.std.specs.Prelude.{sum_by, unwrap_or, is_some, codes, Option, Some, None}
use Rattle.std.specs.Option.{option_map, option_map_or, option_and_then}
use Rattle.std.specs.List.{flat_map, filter_map, find}
use Rattle.std.specs.Str.{bytes_eq}
use Rattle.hd_terms.specs.declared.IdSize.{IdSize}
use Rattle.hd_terms.specs.declared.Span.{Span}
use Rattle.hd_terms.specs.declared.Text.{Text}
use Rattle.hd_terms.specs.declared.Load.{Load}
use Rattle.hd_terms.specs.declared.EdgeKind.{EdgeKind}
use Rattle.hd_terms.specs.declared.EdgeKind.TheVariants as kinds
use Rattle.hd_terms.specs.Types.{is_id_type, value_len}
use Rattle.hd_terms.specs.SubRecords.{ClassItem, FieldItem, Item, Instance, ObjArray, PrimArray, Sub}
use Rattle.hd_terms.specs.SubRecords as subs
use Rattle.hd_terms.specs.FirstRecords.{first_subs}

-- what says all of classes: the bytes of a file, its texts, its loaded classes, and its class objects
pub record ClassTable : Type 0 where
  pub bytes : List ℕ
  pub texts : List Text
  pub loads : List Load
  pub classes : List ClassItem

-- the class of a sub-record, if it is a class's
abbrev pub class_of_item : Item → Option ClassItem
class_of_item (subs.Root kind id) = None
class_of_item (subs.Class c) = Some c
class_of_item (Instance id class values) = None
class_of_item (ObjArray id class elements) = None
class_of_item (PrimArray id element count) = None

-- the class objects of sub-records
abbrev pub first_classes : List Sub → List ClassItem
first_classes list = filter_map (λ (p : ℕ × Sub). class_of_item p.1.item) (first_subs list)

abbrev pub class_table : List ℕ → List Text → List Load → List Sub → ClassTable
class_table bytes texts loads list = record { bytes = bytes; texts = texts; loads = loads; classes = first_classes list }

-- names

-- where the text of an ID lies, if there is one: the first UTF8 of the ID has it
abbrev pub text_of_id : ClassTable → ℕ → Option Span
text_of_id t id = option_map (λ (x : Text). x.text) (find (λ (x : Text). id == x.id) t.texts)

-- where the name of a class lies, if it has one: the first LOAD CLASS of its ID names the text
abbrev pub name_of : ClassTable → ℕ → Option Span
name_of t id = option_and_then (λ (l : Load). text_of_id t l.name) (find (λ (l : Load). id == l.class) t.loads)

-- the bytes of a span
abbrev pub bytes_of_span : List ℕ → Span → List ℕ
bytes_of_span bytes span = take span.len (drop span.start bytes)

-- a dot turned into a slash
abbrev pub slashed : ℕ → ℕ
slashed b = if b == 0x2e then 0x2f else b

-- the text of an ID is this one
abbrev pub is_text : ClassTable → List ℕ → ℕ → Bool
is_text t text id = option_map_or (λ (span : Span). bytes_eq (bytes_of_span t.bytes span) text) (text_of_id t id) false

-- the class of an ID has this name, which is written with slashes
abbrev pub is_called : ClassTable → List ℕ → ℕ → Bool
is_called t name id = option_map_or (λ (span : Span). bytes_eq (map slashed (bytes_of_span t.bytes span)) name) (name_of t id) false

-- chains

-- the class of an ID, if there is one; none has the ID 0
abbrev pub class_at : List ClassItem → ℕ → Option ClassItem
class_at classes id = if id == 0 then None else find (λ (c : ClassItem). id == c.id) classes

-- classes, each the super class of the one before, lead from an ID to an ID
abbrev pub LeadUp : List ClassItem → ℕ → List ClassItem → ℕ → Type 0
LeadUp classes id [] end = id ≡ end
LeadUp classes id (c ∷ cs) end = (class_at classes id ≡ Some c) × LeadUp classes c.super cs end

-- the chain of a class: the class, its super class and so on, up to ID 0
pub record IsClassChain (classes : List ClassItem) (id : ℕ) (chain : List ClassItem) : Type 0 where
  pub some : id ≢ 0
  pub whole : LeadUp classes id chain 0

-- a chain that never ends: it leads up over any number of classes
abbrev pub NeverEnds : List ClassItem → ℕ → Type 0
NeverEnds classes id = (n : ℕ) → (up : List ClassItem) × (end : ℕ) × (length up ≡ n) × LeadUp classes id up end

-- the first classes of a chain, and the ID at which they end
pub record ChainPrefix : Type 0 where
  pub classes : List ClassItem
  pub end : ℕ

-- the first classes of a chain that ends at an ID, unless this is a class's; then it goes on
abbrev pub prefix_on : ℕ → Option ClassItem → (ClassItem → ChainPrefix) → ChainPrefix
prefix_on id None more = record { classes = []; end = id }
prefix_on id (Some c) more = record { classes = c ∷ (more c).classes; end = (more c).end }

-- the first `n` classes of the chain of an ID, or all where it has fewer
abbrev pub chain_prefix : ℕ → List ClassItem → ℕ → ChainPrefix
chain_prefix zero classes id = record { classes = []; end = id }
chain_prefix (suc n) classes id = prefix_on id (class_at classes id) (λ (c : ClassItem). chain_prefix n classes c.super)

-- no chain that ends has more classes than there are
abbrev pub longest_prefix : List ClassItem → ℕ → ChainPrefix
longest_prefix classes id = chain_prefix (length classes) classes id

-- the chain of an ID, if it has one: `class_chains` proves that this is the list that `IsClassChain` speaks of
abbrev pub chain_of : List ClassItem → ℕ → Option (List ClassItem)
chain_of classes id = if id == 0 then None else if (longest_prefix classes id).end == 0 then Some (longest_prefix classes id).classes else None

-- whether a chain never ends: `class_chains` proves that it is so where `NeverEnds` says it
abbrev pub never_ends : List ClassItem → ℕ → Bool
never_ends classes id = is_some (class_at classes (longest_prefix classes id).end)

-- layouts

-- an instance field in a layout: the ID of the class that declares it, the ID of its name, and its type
pub record LayoutField : Type 0 where
  pub owner : ℕ
  pub name : ℕ
  pub code : ℕ

-- the instance fields that a class declares
abbrev pub fields_of : ClassItem → List LayoutField
fields_of c = map (λ (f : FieldItem). record { owner = c.id; name = f.name; code = f.code }) c.fields

-- the layout of a chain: the fields of each of its classes, a class's own before its super class's
abbrev pub layout_of : List ClassItem → List LayoutField
layout_of chain = flat_map fields_of chain

-- the bytes of the values of a layout
abbrev pub layout_len : IdSize → List LayoutField → ℕ
layout_len size layout = sum_by (λ (f : LayoutField). value_len size f.code) layout

-- reference objects

-- a field is that of a referent: it holds an ID, is named so, and the class Reference declares it
abbrev pub is_referent : ClassTable → LayoutField → Bool
is_referent t f = is_id_type f.code && (is_text t (codes "referent") f.name && is_called t (codes "java/lang/ref/Reference") f.owner)

-- the number of the referent field of a layout, if it has one: the first such
abbrev pub referent_in : ClassTable → List LayoutField → Option ℕ
referent_in t layout = position (is_referent t) layout

-- the kind of a class of this name, if it is one of the four
abbrev pub kind_called : List ℕ → Option EdgeKind
kind_called name =
    if bytes_eq (map slashed name) (codes "java/lang/ref/SoftReference") then Some kinds.Soft
    else if bytes_eq (map slashed name) (codes "java/lang/ref/WeakReference") then Some kinds.Weak
    else if bytes_eq (map slashed name) (codes "java/lang/ref/FinalReference") then Some kinds.Final
    else if bytes_eq (map slashed name) (codes "java/lang/ref/PhantomReference") then Some kinds.Phantom
    else None

-- the kind of the class of an ID, if it is one of the four
abbrev pub reference_kind : ClassTable → ℕ → Option EdgeKind
reference_kind t id = option_and_then (λ (span : Span). kind_called (bytes_of_span t.bytes span)) (name_of t id)

-- the kind of a chain: that of its first class that is one of the four, strong where none is
abbrev pub kind_in : ClassTable → List ClassItem → EdgeKind
kind_in t chain = unwrap_or (slice_get (filter_map (λ (c : ClassItem). reference_kind t c.id) chain) 0) kinds.Strong

-- what is known of a class whose chain is whole: the IDs of its chain, its layout, the number of the referent field, and the
-- kind of the reference in it
pub record ResolvedClass : Type 0 where
  pub chain : List ℕ
  pub layout : List LayoutField
  pub referent : Option ℕ
  pub kind : EdgeKind

abbrev pub resolved_by : ClassTable → List ClassItem → ResolvedClass
resolved_by t chain = record {
  chain = map (λ (c : ClassItem). c.id) chain;
  layout = layout_of chain;
  referent = referent_in t (layout_of chain);
  kind = kind_in t chain;
}

-- what is known of the class of each ID, if anything is
abbrev pub KnownClasses : Type 0
KnownClasses = ℕ → Option ResolvedClass

-- what is known of the class of an ID; of ID 0, of an ID that is no class's, and where the chain meets one, nothing
abbrev pub resolved_class : ClassTable → ℕ → Option ResolvedClass
resolved_class t id = option_map (resolved_by t) (chain_of t.classes id)

-- the class by whose layout `len` bytes of values are read: the one of the ID, if it is known and they fit its layout. An
-- instance whose values don't fit is a fault where it stands; where it repeats an ID, it is no object
abbrev pub fitting_class : ClassTable → IdSize → ℕ → ℕ → Option ResolvedClass
fitting_class t size len class = option_and_then (λ (k : ResolvedClass). if len == layout_len size k.layout then Some k else None) (resolved_class t class)
