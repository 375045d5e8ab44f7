-- The rows of class objects and instances, once their IDs were added.
use Rattle.std.proofs.Common.{◌≡◌, ◌∙◌, ℕ, ◌+◌, ◌≤◌, List, [], ◌∷◌, ◌++◌, length, map, refl, sym, ap, subst, arith}
use Rattle.std.proofs.lemmas.List.{length-map}
use Rattle.hd_terms.specs.declared.IdSize.{IdSize}
use Rattle.hd_terms.specs.declared.Span.{Span}
use Rattle.hd_subs.specs.declared.class.ClassDump.{ClassDump}
use Rattle.hd_subs.specs.Views.{static_view, constant_view, class_view}
use Rattle.hd_slots.specs.Table.{Table, id_at}
use Rattle.hd_graph.specs.ArrayRows.{HasLinks, links_at, values_of_statics, values_of_constants, value_ids, class_row, class_weight}
use Rattle.hd_graph.specs.Building.{GrowsBy, AddsRow}
use Rattle.hd_graph.proofs.GrownLemmas.{IsOver, grown-over, over-both, over-same, ids-over, same_table}
use Rattle.hd_graph.proofs.ValueLemmas.{ids-le, length-static-values, length-constant-values}

-- a row that has grown by the IDs of values
pub grown-room : (bytes : List ℕ) (size : IdSize) (vs : List (ℕ × Span)) (t u : Table) → GrowsBy (value_ids bytes size vs) t u → (length u.ids ≡ length t.ids)
    × (u.count ≤ t.count + length vs)
grown-room bytes size vs t u e = (ap (λ (x : Table). length x.ids) e, omega (arith, ap (λ (x : Table). x.count) e, ids-le bytes size vs))

module _ (c : ClassDump) (offset : ℕ) (first second third fourth last : Table) where
  abbrev bytes : List ℕ
  bytes = first.bytes

  abbrev size : IdSize
  size = first.size

  abbrev statics : List (ℕ × Span)
  statics = values_of_statics (map static_view c.statics.items)

  abbrev constants : List (ℕ × Span)
  constants = values_of_constants (map constant_view c.constants.items)

  abbrev ids : List ℕ
  ids = c.super_id ∷ c.loader ∷ c.signers ∷ c.domain ∷ []

  -- the links of the class, where they are read by the third table's file
  links-are : HasLinks bytes size offset (class_view c) → IsOver first third → GrowsBy (links_at third.bytes third.size offset) third fourth
      → GrowsBy ids third fourth
  links-are links over grows =
      subst (λ (xs : List ℕ). GrowsBy xs third fourth) links.are
      (over-same (λ (bs : List ℕ) (n : IdSize). GrowsBy (links_at bs n offset) third fourth) first third over grows)

  pub class-added : first.filling ≡ [] → HasLinks bytes size offset (class_view c) → GrowsBy (value_ids bytes size statics) first second
      → GrowsBy (value_ids second.bytes second.size constants) second third
      → GrowsBy (links_at third.bytes third.size offset) third fourth
      → last ≡ record fourth { rows = fourth.rows ++ fourth.filling ∷ []; filling = [] }
      → AddsRow (class_row bytes size (class_view c)) (class_weight (class_view c)) first last
  class-added empty links to_second grows_third grows_fourth to_last =
      let second_over = grown-over (value_ids bytes size statics) first second to_second in
      let to_third = ids-over constants first second third second_over grows_third in
      let third_over = over-both first second third second_over (grown-over (value_ids bytes size constants) second third to_third) in
      let to_fourth = links-are links third_over grows_fourth in
      let fourth_over = over-both first third fourth third_over (grown-over ids third fourth to_fourth) in
      let last_over : IsOver first last =
      over-both first fourth last fourth_over
      (record { bytes = ap (λ (t : Table). t.bytes) to_last; size = ap (λ (t : Table). t.size) to_last; ids = ap (λ (t : Table). t.ids) to_last }) in
      let A = value_ids bytes size statics in
      let B = value_ids bytes size constants in
      let filling : fourth.filling ≡ class_row bytes size (class_view c) =
      ap (λ (t : Table). t.filling) to_fourth
      ∙ ap (λ (f : List ℕ). f ++ ids)
      (ap (λ (t : Table). t.filling) to_third
      ∙ ap (λ (f : List ℕ). f ++ B) (ap (λ (t : Table). t.filling) to_second ∙ ap (λ (f : List ℕ). f ++ A) empty)) in
      let rows : fourth.rows ≡ first.rows = ap (λ (t : Table). t.rows) to_fourth ∙ ap (λ (t : Table). t.rows) to_third ∙ ap (λ (t : Table). t.rows) to_second in
      let count : last.count ≤ first.count + class_weight (class_view c) =
      omega (
        arith,
        ap (λ (t : Table). t.count) to_last,
        ap (λ (t : Table). t.count) to_fourth,
        (grown-room bytes size constants second third to_third).1,
        (grown-room bytes size statics first second to_second).1,
        length-static-values c.statics.items,
        length-constant-values c.constants.items,
        length-map c.statics.items static_view,
        length-map c.constants.items constant_view,
      ) in
      record {
        table = same_table last (record first { rows = first.rows ++ class_row bytes size (class_view c) ∷ []; count = last.count })
            (record { bytes = last_over.bytes; size = last_over.size; ids = last_over.ids })
            (ap (λ (t : Table). t.rows) to_last ∙ ap (λ (rs : List (List ℕ)). rs ++ fourth.filling ∷ []) rows
            ∙ ap (λ (f : List ℕ). first.rows ++ f ∷ []) filling)
            (ap (λ (t : Table). t.filling) to_last ∙ sym empty)
            refl;
        count = count;
      }

-- an instance's row, once the IDs in its fields were added
pub instance-by_id-added : (ids : List ℕ) (class weight : ℕ) (first second third last : Table) → first.filling ≡ [] → GrowsBy ids first second
    → third ≡ record second { filling = second.filling ++ class ∷ []; count = second.count + 1 }
    → last ≡ record third { rows = third.rows ++ third.filling ∷ []; filling = [] }
    → length ids + 1 ≤ weight → AddsRow (ids ++ class ∷ []) weight first last
instance-by_id-added ids class weight first second third last empty to_second to_third to_last few =
    let over = grown-over ids first second to_second in
    let filling : third.filling ≡ ids ++ class ∷ [] = ap (λ (t : Table). t.filling) to_third
    ∙ ap (λ (f : List ℕ). f ++ class ∷ []) (ap (λ (t : Table). t.filling) to_second ∙ ap (λ (f : List ℕ). f ++ ids) empty) in
    let rows : third.rows ≡ first.rows = ap (λ (t : Table). t.rows) to_third ∙ ap (λ (t : Table). t.rows) to_second in
    record {
      table = same_table last (record first { rows = first.rows ++ (ids ++ class ∷ []) ∷ []; count = last.count })
          (record {
            bytes = ap (λ (t : Table). t.bytes) to_last ∙ ap (λ (t : Table). t.bytes) to_third ∙ over.bytes;
            size = ap (λ (t : Table). t.size) to_last ∙ ap (λ (t : Table). t.size) to_third ∙ over.size;
            ids = ap (λ (t : Table). t.ids) to_last ∙ ap (λ (t : Table). t.ids) to_third ∙ over.ids;
          })
          (ap (λ (t : Table). t.rows) to_last ∙ ap (λ (rs : List (List ℕ)). rs ++ third.filling ∷ []) rows ∙ ap (λ (f : List ℕ). first.rows ++ f ∷ []) filling)
          (ap (λ (t : Table). t.filling) to_last ∙ sym empty)
          refl;
      count = omega (arith, ap (λ (t : Table). t.count) to_last, ap (λ (t : Table). t.count) to_third, ap (λ (t : Table). t.count) to_second, few);
    }

-- the same, where the ID of the class is read at an offset
pub instance-added : (ids : List ℕ) (offset weight : ℕ) (first second third last : Table) → first.filling ≡ [] → GrowsBy ids first second
    → third ≡ record second { filling = second.filling ++ id_at second.bytes second.size offset ∷ []; count = second.count + 1 }
    → last ≡ record third { rows = third.rows ++ third.filling ∷ []; filling = [] }
    → length ids + 1 ≤ weight → AddsRow (ids ++ id_at first.bytes first.size offset ∷ []) weight first last
instance-added ids offset weight first second third last empty to_second grows_third to_last few =
    let over = grown-over ids first second to_second in
    instance-by_id-added ids (id_at first.bytes first.size offset) weight first second third last empty to_second
    (over-same (λ (bytes : List ℕ) (size : IdSize). third ≡ record second {
      filling = second.filling ++ id_at bytes size offset ∷ [];
      count =
          second.count + 1;
    }) first second over grows_third)
    to_last few

-- what is added may weigh less
pub added-more : (row : List ℕ) (less more : ℕ) (old new : Table) → less ≤ more → AddsRow row less old new → AddsRow row more old new
added-more row less more old new le h = record { table = h.table; count = omega (arith, h.count) }
