-- Lemmas on objects that are made of shapes, IDs and rows.
use Rattle.std.proofs.Common.{◌≡◌, ◌∙◌, ℕ, zero, suc, ◌+◌, ◌<◌, List, [], ◌∷◌, length, get_or, Some, None, refl, sym, ap, arith, cond, eqb, ltb}
use Rattle.std.specs.List.{position, prefix_len, AllZip}
use Rattle.std.specs.Prelude.{not}
use Rattle.hd_terms.specs.Dump.{Object, SlotEntry, no_object}
use Rattle.hd_terms.specs.Edges.{index_of}
use Rattle.hd_shapes.specs.Shapes.{ObjectShape, ObjectArray}
use Rattle.hd_graph.specs.Shapes.{shape_slots, shape_group, row_object, row_objects, HasShape, AreColumns}
use Rattle.hd_graph.proofs.ShapeLemmas.{length-shape_slots}

-- a shape, where it doesn't matter which
abbrev pub any_shape : ObjectShape
any_shape = ObjectArray 0

-- all columns but their first items
pub rest-columns : (shape : ObjectShape) (shapes : List ObjectShape) (id : ℕ) (ids row : List ℕ) (rows : List (List ℕ))
    → AreColumns (shape ∷ shapes) (id ∷ ids) (row ∷ rows) → AreColumns shapes ids rows
rest-columns shape shapes id ids row rows h = record { rows = omega (arith, h.rows); shapes = omega (arith, h.shapes); fit = h.fit.1 }

pub length-row_objects : (shapes : List ObjectShape) (ids : List ℕ) (rows : List (List ℕ)) → AreColumns shapes ids rows
    → length (row_objects shapes ids rows) ≡ length ids
length-row_objects shapes [] rows h = refl
length-row_objects shapes (id ∷ ids) [] h = absurd (omega (arith, h.rows))
length-row_objects [] (id ∷ ids) (row ∷ rows) h = absurd (omega (arith, h.shapes))
length-row_objects (shape ∷ shapes) (id ∷ ids) (row ∷ rows) h = let rest = length-row_objects shapes ids rows (rest-columns shape shapes id ids row rows h) in
    omega (arith, rest)

-- the array of a number
pub row_objects-at : (shapes : List ObjectShape) (ids : List ℕ) (rows : List (List ℕ)) → AreColumns shapes ids rows → (d : ObjectShape) (o : ℕ) → o < length ids
    → get_or (row_objects shapes ids rows) o no_object ≡ row_object (get_or shapes o d) (get_or ids o 0) (get_or rows o [])
row_objects-at shapes [] rows h d o lt = absurd (omega arith)
row_objects-at shapes (id ∷ ids) [] h d o lt = absurd (omega (arith, h.rows))
row_objects-at [] (id ∷ ids) (row ∷ rows) h d o lt = absurd (omega (arith, h.shapes))
row_objects-at (shape ∷ shapes) (id ∷ ids) (row ∷ rows) h d zero lt = refl
row_objects-at (shape ∷ shapes) (id ∷ ids) (row ∷ rows) h d (suc o) lt = row_objects-at shapes ids rows (rest-columns shape shapes id ids row rows h) d o
    (omega arith)

prefix-row_objects : (wanted : ℕ) (shapes : List ObjectShape) (ids : List ℕ) (rows : List (List ℕ)) → AreColumns shapes ids rows
    → prefix_len (λ (x : Object). not (eqb wanted x.id)) (row_objects shapes ids rows) ≡ prefix_len (λ x. not (eqb wanted x)) ids
prefix-row_objects wanted shapes [] rows h = refl
prefix-row_objects wanted shapes (id ∷ ids) [] h = absurd (omega (arith, h.rows))
prefix-row_objects wanted [] (id ∷ ids) (row ∷ rows) h = absurd (omega (arith, h.shapes))
prefix-row_objects wanted (shape ∷ shapes) (id ∷ ids) (row ∷ rows) h =
    ap (λ (n : ℕ). cond (not (eqb wanted id)) (1 + n) 0) (prefix-row_objects wanted shapes ids rows (rest-columns shape shapes id ids row rows h))

-- an ID has the index among the objects that it has among their IDs
pub index_of-row_objects : (shapes : List ObjectShape) (wanted : ℕ) (ids : List ℕ) (rows : List (List ℕ)) → AreColumns shapes ids rows
    → index_of (row_objects shapes ids rows) wanted ≡ position (λ x. eqb wanted x) ids
index_of-row_objects shapes wanted ids rows h =
    ap (λ (n : ℕ). cond (ltb n (length (row_objects shapes ids rows))) (Some n) None) (prefix-row_objects wanted shapes ids rows h)
    ∙ ap (λ (m : ℕ). cond (ltb (prefix_len (λ x. not (eqb wanted x)) ids) m) (Some (prefix_len (λ x. not (eqb wanted x)) ids)) None)
    (length-row_objects shapes ids rows h)

-- a shape fits its row
pub fit-at : (shapes : List ObjectShape) (rows : List (List ℕ)) → AllZip HasShape shapes rows → (d : ObjectShape) (o : ℕ) → o < length rows
    → HasShape (get_or shapes o d) (get_or rows o [])
fit-at [] [] fit d o lt = absurd (omega arith)
fit-at [] (row ∷ rows) fit d o lt = absurd fit
fit-at (shape ∷ shapes) [] fit d o lt = absurd (omega arith)
fit-at (shape ∷ shapes) (row ∷ rows) fit d zero lt = fit.0
fit-at (shape ∷ shapes) (row ∷ rows) fit d (suc o) lt = fit-at shapes rows fit.1 d o (omega arith)

-- the slots of the object of a number
pub slots-at : (shapes : List ObjectShape) (ids : List ℕ) (rows : List (List ℕ)) → AreColumns shapes ids rows → (d : ObjectShape) (o : ℕ)
    → o < length (row_objects shapes ids rows)
    → (get_or (row_objects shapes ids rows) o no_object).slots ≡ shape_slots (get_or shapes o d) (get_or rows o [])
slots-at shapes ids rows h d o lt = ap (λ (x : Object). x.slots) (row_objects-at shapes ids rows h d o (omega (arith, length-row_objects shapes ids rows h)))

-- the object of a number has a slot for each ID of its row
pub length-slots-at : (shapes : List ObjectShape) (ids : List ℕ) (rows : List (List ℕ)) → AreColumns shapes ids rows → (o : ℕ)
    → o < length (row_objects shapes ids rows)
    → length (get_or (row_objects shapes ids rows) o no_object).slots ≡ length (get_or rows o [])
length-slots-at shapes ids rows h o lt =
    let few = length-row_objects shapes ids rows h in
    ap (λ (ss : List SlotEntry). length ss) (slots-at shapes ids rows h any_shape o lt)
    ∙ length-shape_slots (get_or shapes o any_shape) (get_or rows o []) (fit-at shapes rows h.fit any_shape o (omega (arith, h.rows)))

-- the group of the object of a number
pub group-at : (shapes : List ObjectShape) (ids : List ℕ) (rows : List (List ℕ)) → AreColumns shapes ids rows → (d : ObjectShape) (o : ℕ)
    → o < length (row_objects shapes ids rows)
    → shape_group (get_or shapes o d) (get_or rows o []) ≡ (get_or (row_objects shapes ids rows) o no_object).group
group-at shapes ids rows h d o lt =
    sym (ap (λ (x : Object). x.group) (row_objects-at shapes ids rows h d o (omega (arith, length-row_objects shapes ids rows h))))
