-- What is kept of classes: their names, what is known of those whose chains are whole, and how many records are repeated.
use Rattle.std.specs.Prelude.{◌≡◌, ◌⊎◌, ℕ, ◌==◌, ◌+◌, ◌<◌, ◌≤◌, ◌^◌, List, length, position, slice_get, Option, Some, All}
use Rattle.std.specs.Option.{option_map, option_map_or, option_and_then}
use Rattle.std.specs.Map.{lookup}
use Rattle.hd_terms.specs.declared.Load.{Load}
use Rattle.hd_terms.specs.declared.Span.{Span}
use Rattle.hd_terms.specs.declared.Text.{Text}
use Rattle.hd_terms.specs.declared.EdgeKind.{EdgeKind}
use Rattle.hd_terms.specs.declared.EdgeKind.TheVariants as kinds
use Rattle.hd_terms.specs.declared.errors.Cause.TheVariants as causes
use Rattle.hd_terms.specs.declared.errors.ReadFault.{ReadFault}
use Rattle.hd_terms.specs.SubRecords.{Sub}
use Rattle.hd_terms.specs.Classes.{ClassTable, LayoutField, ResolvedClass, name_of, resolved_class}
use Rattle.hd_terms.specs.FirstRecords.{repeats}
use Rattle.hd_terms.specs.HeapFaults.{class_faults}
use Rattle.hd_terms.specs.ReadFaults.{fault}
use Rattle.hd_classes.specs.declared.known.ResolvedClass as declared_class
use Rattle.hd_classes.specs.declared.repeats.RepeatedRecords.{RepeatedRecords}
pub use Rattle.hd_classes.specs.Fields.{field_view}

-- a class as it is read, as the definitions say it
abbrev pub known_view : declared_class.ResolvedClass → ResolvedClass
known_view k = record { chain = k.chain; layout = k.layout; referent = k.referent; kind = k.kind }

-- where texts lie, by their IDs; the IDs of classes' names, by the IDs of the classes; the classes whose chains are whole, by
-- their IDs; and how many records are repeated
pub record Known : Type 0 where
  pub texts : List (ℕ × Span)
  pub names : List (ℕ × ℕ)
  pub classes : List (ℕ × ResolvedClass)
  pub repeated : RepeatedRecords

-- where the name of the class of an ID lies, if it has one
abbrev pub name_at : Known → ℕ → Option Span
name_at k id = option_and_then (λ (name : ℕ). lookup (λ (x : ℕ). name == x) k.texts) (lookup (λ (x : ℕ). id == x) k.names)

-- the number of the class of an ID, and what is known of it, if its chain is whole
abbrev pub number_of : Known → ℕ → Option ℕ
number_of k id = position (λ (p : ℕ × ResolvedClass). id == p.0) k.classes

abbrev pub known_at : Known → ℕ → Option ResolvedClass
known_at k id = lookup (λ (x : ℕ). id == x) k.classes

-- what is known of the class of a number
abbrev pub known_by_number : Known → ℕ → Option ResolvedClass
known_by_number k i = option_map (λ (p : ℕ × ResolvedClass). p.1) (slice_get k.classes i)

-- the chain, the layout, the referent field and the kind of the class of an ID, so far as its chain is whole
abbrev pub chain_at : Known → ℕ → Option (List ℕ)
chain_at k id = option_map (λ (x : ResolvedClass). x.chain) (known_at k id)

abbrev pub layout_at : Known → ℕ → Option (List LayoutField)
layout_at k id = option_map (λ (x : ResolvedClass). x.layout) (known_at k id)

abbrev pub referent_at : Known → ℕ → Option ℕ
referent_at k id = option_and_then (λ (x : ResolvedClass). x.referent) (known_at k id)

abbrev pub kind_at : Known → ℕ → EdgeKind
kind_at k id = option_map_or (λ (x : ResolvedClass). x.kind) (known_at k id) kinds.Strong

-- how many texts and loaded classes of a file have the ID of an earlier one
abbrev pub repeated_records : ClassTable → RepeatedRecords
repeated_records t = record { texts = repeats (λ (x : Text). x.id) t.texts; loads = repeats (λ (l : Load). l.class) t.loads }

-- names and classes are those of a file: each class whose chain is whole has what is known of it, and no other ID has. They are
-- no more than the class objects, and the values of no layout have more bytes than numbers of four bytes count
pub record AreClassesOf (t : ClassTable) (k : Known) : Type 0 where
  pub names : (id : ℕ) → name_at k id ≡ name_of t id
  pub known : (id : ℕ) → known_at k id ≡ resolved_class t id
  pub few : length k.classes ≤ length t.classes
  pub short : All (λ (p : ℕ × ResolvedClass). length p.1.layout < 2 ^ 29) k.classes
  pub repeated : k.repeated ≡ repeated_records t

-- out of memory, or the first class whose chain never ends
abbrev pub IsClassFaultOrMemory : ClassTable → List Sub → ReadFault → Type 0
IsClassFaultOrMemory t list f = (f ≡ fault causes.OutOfMemory 0) ⊎ (slice_get (class_faults t list) 0 ≡ Some f)

-- a text lies in a file of `n` bytes
abbrev pub IsTextWithin : ℕ → Text → Type 0
IsTextWithin n x = x.text.start + x.text.len ≤ n
