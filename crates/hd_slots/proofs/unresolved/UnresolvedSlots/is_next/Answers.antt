-- The next row is that of the object of a number as high as there are rows: its ID is compared, if there is one.
use Rattle.std.proofs.Common.{◌≡◌, ◌∙◌, ℕ, ◌-◌, ◌<◌, ◌≤◌, List, length, map, get_or, ap, sym, arith, true, eq-eqb, eqb-true, true≢false, Some, ltb, eqb, Bool}
use Rattle.std.specs.List.{slice_get}
use Rattle.std.proofs.lemmas.Bool.{le-ltb}
use Rattle.std.proofs.lemmas.Option.{get_or_from_slice_get, slice_get_within, slice_get-get_or}
use Rattle.std.specs.Arc.{arc_value}
use Rattle.hd_slots.specs.Table.{Table, id_at}
use Rattle.hd_slots.specs.UnresolvedInside.{offsets_in}
use Rattle.hd_slots.proofs.CutLemmas.{length-rows_from}
use Rattle.hd_slots.proofs.unresolved.UnresolvedSlots.is_next.Goals as goal

-- an ID stands at a offset that is within the list
found : (xs : List ℕ) (i id : ℕ) → i < length xs → (eqb (get_or xs i 0) id ≡ true → slice_get xs i ≡ Some id)
    × (slice_get xs i ≡ Some id → eqb (get_or xs i 0) id ≡ true)
found xs i id lt = (
  λ e. slice_get-get_or xs i 0 lt ∙ ap Some (eqb-true (get_or xs i 0) id e),
  λ at. eq-eqb (get_or xs i 0) id
      (get_or_from_slice_get xs i id 0 at),
)

-- nothing stands past its end
not_found : (xs : List ℕ) (i id : ℕ) (b : Bool) → length xs ≤ i → b ≡ ltb i (length xs) → (b ≡ true → slice_get xs i ≡ Some id)
    × (slice_get xs i ≡ Some id → b ≡ true)
not_found xs i id b le is = (
  λ e. absurd (true≢false (sym e ∙ is ∙ le-ltb i (length xs) le)),
  λ at. let lt = slice_get_within xs i id at in
      absurd (omega arith),
)

pub returns-then-next-len : goal.returns-then-next-len
returns-then-next-len c =
    let a = c.self.inside in
    let next = c.len-next.result - 1 in
    let ids = arc_value a.ids in
    let offset : next ≡ length c.args.self.now.rows =
    ap (λ (n : ℕ). n - 1) (c.len-next.ensures ∙ a.starts.ok.0) ∙ sym (length-rows_from a.starts.items (map (id_at a.bytes.now a.id_size) (offsets_in a)))
    ∙ ap (λ (t : Table). length t.rows) c.self.view_is in
    let at : slice_get ids next ≡ slice_get c.args.self.now.ids (length c.args.self.now.rows) =
    ap (λ (xs : List ℕ). slice_get xs next) (ap (λ (t : Table). t.ids) c.self.view_is) ∙ ap (λ (n : ℕ). slice_get c.args.self.now.ids n) offset in
    let f = found ids next c.args.id (omega (arith, c.if-next-len.true, c.len.ensures.len, ap (λ (xs : List ℕ). length xs) c.deref.ensures)) in
    let got : c.get.result ≡ get_or ids next 0 = c.get.ensures ∙ ap (λ (xs : List ℕ). get_or xs next 0) c.deref-then-next-len.ensures in
    (λ e. sym at ∙ f.0 (ap (λ (x : ℕ). eqb x c.args.id) (sym got) ∙ e), λ h. ap (λ (x : ℕ). eqb x c.args.id) got ∙ f.1 (at ∙ h))

pub returns-else-next-len : goal.returns-else-next-len
returns-else-next-len c =
    let a = c.self.inside in
    let next = c.len-next.result - 1 in
    let ids = arc_value a.ids in
    let offset : next ≡ length c.args.self.now.rows =
    ap (λ (n : ℕ). n - 1) (c.len-next.ensures ∙ a.starts.ok.0) ∙ sym (length-rows_from a.starts.items (map (id_at a.bytes.now a.id_size) (offsets_in a)))
    ∙ ap (λ (t : Table). length t.rows) c.self.view_is in
    let at : slice_get ids next ≡ slice_get c.args.self.now.ids (length c.args.self.now.rows) =
    ap (λ (xs : List ℕ). slice_get xs next) (ap (λ (t : Table). t.ids) c.self.view_is) ∙ ap (λ (n : ℕ). slice_get c.args.self.now.ids n) offset in
    let f = not_found ids next c.args.id (ltb next c.len.result)
    (omega (arith, c.if-next-len.false, c.len.ensures.len, ap (λ (xs : List ℕ). length xs) c.deref.ensures))
    (ap (ltb next) (c.len.ensures.len ∙ ap (λ (xs : List ℕ). length xs) c.deref.ensures)) in
    (λ e. sym at ∙ f.0 e, λ h. f.1 (at ∙ h))
