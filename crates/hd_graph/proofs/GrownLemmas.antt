-- Rows that are being made, and those that they have grown to: the file, the objects and the count of IDs.
use Rattle.std.proofs.Common.{◌≡◌, ◌∙◌, ℕ, List, length, sym, ap, subst}
use Rattle.hd_terms.specs.declared.IdSize.{IdSize}
use Rattle.hd_terms.specs.declared.Span.{Span}
use Rattle.hd_slots.specs.Table.{Table}
use Rattle.hd_graph.specs.ArrayRows.{IsValueWithin, value_ids}
use Rattle.hd_graph.specs.Building.{GrowsBy}

-- tables over the same file and the same objects
pub record IsOver (first now : Table) : Type 0 where
  pub bytes : now.bytes ≡ first.bytes
  pub size : now.size ≡ first.size
  pub ids : now.ids ≡ first.ids

pub grown-over : (ids : List ℕ) (first now : Table) → GrowsBy ids first now → IsOver first now
grown-over ids first now e = record { bytes = ap (λ (t : Table). t.bytes) e; size = ap (λ (t : Table). t.size) e; ids = ap (λ (t : Table). t.ids) e }

pub over-both : (first second third : Table) → IsOver first second → IsOver second third → IsOver first third
over-both first second third a b = record { bytes = b.bytes ∙ a.bytes; size = b.size ∙ a.size; ids = b.ids ∙ a.ids }

-- what is said of the file of a table holds of that of another over the same file
pub over-same : (P : List ℕ → IdSize → Type 0) (first now : Table) → IsOver first now → P now.bytes now.size → P first.bytes first.size
over-same P first now over h = subst (λ (size : IdSize). P first.bytes size) over.size (subst (λ (bytes : List ℕ). P bytes now.size) over.bytes h)

pub over-new : (P : List ℕ → IdSize → Type 0) (first now : Table) → IsOver first now → P first.bytes first.size → P now.bytes now.size
over-new P first now over h = subst (λ (size : IdSize). P now.bytes size) (sym over.size) (subst (λ (bytes : List ℕ). P bytes first.size) (sym over.bytes) h)

-- a value that lies in the file
pub value-over : (first now : Table) (v : ℕ × Span) → IsOver first now → IsValueWithin first.size (length first.bytes) v
    → IsValueWithin now.size (length now.bytes) v
value-over first now v over h = over-new (λ (bytes : List ℕ) (size : IdSize). IsValueWithin size (length bytes) v) first now over h

-- the IDs that it has
pub ids-over : (vs : List (ℕ × Span)) (first now next : Table) → IsOver first now → GrowsBy (value_ids now.bytes now.size vs) now next
    → GrowsBy (value_ids first.bytes first.size vs) now next
ids-over vs first now next over grows = over-same (λ (bytes : List ℕ) (size : IdSize). GrowsBy (value_ids bytes size vs) now next) first now over grows

-- tables of the same parts are one
pub same_table : (t u : Table) → IsOver u t → t.rows ≡ u.rows → t.filling ≡ u.filling → t.count ≡ u.count → t ≡ u
same_table t u over rows filling count =
    ap (λ (x : List ℕ). let m : Table = record { bytes = x; size = t.size; ids = t.ids; rows = t.rows; filling = t.filling; count = t.count } in m) over.bytes
    ∙ ap (λ (x : IdSize). let m : Table = record { bytes = u.bytes; size = x; ids = t.ids; rows = t.rows; filling = t.filling; count = t.count } in m) over.size
    ∙ ap (λ (x : List ℕ). let m : Table = record { bytes = u.bytes; size = u.size; ids = x; rows = t.rows; filling = t.filling; count = t.count } in m) over.ids
    ∙ ap (λ (x : List (List ℕ)). let m : Table = record { bytes = u.bytes; size = u.size; ids = u.ids; rows = x; filling = t.filling; count = t.count } in
    m) rows
    ∙ ap (λ (x : List ℕ). let m : Table = record { bytes = u.bytes; size = u.size; ids = u.ids; rows = u.rows; filling = x; count = t.count } in m) filling
    ∙ ap (λ (x : ℕ). let m : Table = record { bytes = u.bytes; size = u.size; ids = u.ids; rows = u.rows; filling = u.filling; count = x } in m) count
