-- The names of classes while they are copied from the file.
-- Source: this project.
use Rattle.std.specs.Prelude.{◌≡◌, ℕ, ◌+◌, ◌==◌, ◌≤◌, is_some, List, [], ◌∷◌, ◌++◌, length, map, Option, Some, All}
use Rattle.std.specs.Option.{option_map}
use Rattle.std.specs.List.{filter_map, list_any}
use Rattle.std.specs.Map.{lookup}
use Rattle.hd_terms.specs.declared.Span.{Span}
use Rattle.hd_terms.specs.declared.Load.{Load}
use Rattle.hd_terms.specs.Classes.{bytes_of_span}
use Rattle.hd_classes.specs.Known.{Known, name_at}
use Rattle.hd_classes.specs.Firsts.{firsts}
use Rattle.hd_classes.specs.declared.class_names.CopiedNames.{CopiedNames}

-- the name of a class that is loaded, by the ID of the class, if it has one
abbrev pub known_name : List ℕ → Known → Load → Option (ℕ × List ℕ)
known_name bytes k l = option_map (λ (span : Span). (l.class, bytes_of_span bytes span)) (name_at k l.class)

abbrev pub known_names : List ℕ → Known → List Load → List (ℕ × List ℕ)
known_names bytes k loads = filter_map (known_name bytes k) loads

-- of these each class once
abbrev pub first_names : List ℕ → Known → List Load → List (ℕ × List ℕ)
first_names bytes k loads = firsts (λ (n : ℕ × List ℕ). n.0) (known_names bytes k loads)

-- a part of a text is a copy of a span of the file
pub record IsCopy (bytes text : List ℕ) (span part : Span) : Type 0 where
  pub within : part.start + part.len ≤ length text
  pub same : bytes_of_span text part ≡ bytes_of_span bytes span

-- these parts of a text are copies of what lies at their offsets of the file
abbrev pub AreCopies : List ℕ → List ℕ → List (ℕ × Span) → Type 0
AreCopies bytes text copies = (offset : ℕ) (part : Span) → lookup (λ (x : ℕ). offset == x) copies ≡ Some part
    → IsCopy bytes text (record { start = offset; len = part.len }) part

-- a span is copied: the text goes on, and its copies are known
pub record CopiesText (bytes : List ℕ) (span part : Span) (text text' : List ℕ) (copies' : List (ℕ × Span)) : Type 0 where
  pub copy : IsCopy bytes text' span part
  pub more : List ℕ
  pub goes_on : text' ≡ text ++ more
  pub known : AreCopies bytes text' copies'

-- parts of a text by the IDs of classes, as names
abbrev pub names_by : List ℕ → List (ℕ × Span) → List (ℕ × List ℕ)
names_by text parts = map (λ (p : ℕ × Span). (p.0, bytes_of_span text p.1)) parts

-- each such part lies within the text
abbrev pub ArePartsOf : List ℕ → List (ℕ × Span) → Type 0
ArePartsOf text parts = All (λ (p : ℕ × Span). p.1.start + p.1.len ≤ length text) parts

-- the names of loaded classes are copied, and it's known which classes have one
pub record HasNames (bytes : List ℕ) (k : Known) (loads : List Load) (c : CopiedNames) : Type 0 where
  pub known : AreCopies bytes c.text.items c.copies.entries
  pub within : ArePartsOf c.text.items c.parts.entries
  pub names : names_by c.text.items c.parts.entries ≡ first_names bytes k loads
  pub seen : (id : ℕ) → is_some (lookup (λ (x : ℕ). id == x) c.parts.entries) ≡ list_any (λ (n : ℕ × List ℕ). id == n.0) (known_names bytes k loads)

-- so is that of one class more, which lies there
abbrev pub AddsName : List ℕ → ℕ → Option Span → CopiedNames → CopiedNames → Type 0
AddsName bytes class name c c' = (k : Known) (loads : List Load) (l : Load) → l.class ≡ class → name_at k class ≡ name → HasNames bytes k loads c
    → HasNames bytes k (loads ++ l ∷ []) c'
