-- Totals between two changes: those before have been moved, and those after haven't.
use Rattle.std.proofs.Common.{◌≡◌, ◌≢◌, ◌∙◌, ℕ, zero, suc, ◌+◌, ◌<◌, ◌≤◌, ◌^◌, Bool, inl, inr, List, [], ◌∷◌, length, get_or, Contains, cond, eqb, eq-eqb, refl}
use Rattle.std.proofs.Common.{sym, ap, subst, arith}
use Rattle.std.proofs.lemmas.Bool.{cases_eq, cases_lt, ne_eqb}
use Rattle.std.proofs.lemmas.List.{get_or_default}
use Rattle.hd_terms.specs.declared.Group.{Group}
use Rattle.hd_terms.specs.declared.Strength.{Strength}
use Rattle.hd_terms.specs.Chains.{NoneTwice}
use Rattle.hd_terms.specs.Dump.{Dump, object_at}
use Rattle.hd_terms.specs.Listed.{group_key}
use Rattle.hd_terms.specs.Ranks.{rank}
use Rattle.hd_terms.specs.Regions.{StrengthChange, changed_objects}
use Rattle.hd_terms.specs.Settled.{Reached}
use Rattle.hd_terms.proofs.Lower.{Contains-first, Contains-later}
use Rattle.hd_totals.specs.Members.{InRange}
use Rattle.hd_totals.specs.Running.{strength_in, plus_one, less_one, AreTotalsOf, IsRowPut}
use Rattle.hd_totals.specs.Totals.{Totals, row_at, total_in, AreTotals, AreTotalsBefore}
use Rattle.hd_totals.proofs.FallenLemmas.{change-of, within}
use Rattle.hd_totals.proofs.RunningLemmas.{of-kept, to-kept, same-totals, one-moved, one-there, bytes-there, few-objects, few-bytes}
use Rattle.hd_totals.proofs.TotalLemmas.{one-rank}

-- the change at an index
pub object-there : (ds : List StrengthChange) (j : ℕ) (d : StrengthChange) → j < length ds → Contains (changed_objects ds) (get_or ds j d).object
object-there [] j d lt = absurd (omega arith)
object-there (x ∷ ds) zero d lt = Contains-first x.object (changed_objects ds)
object-there (x ∷ ds) (suc j) d lt = Contains-later x.object (get_or ds j d).object (changed_objects ds) (object-there ds j d (omega arith))

pub change-there : (ds : List StrengthChange) (j : ℕ) (d : StrengthChange) → j < length ds → Contains ds (get_or ds j d)
change-there ds j d lt = (j, lt, get_or_default ds j (get_or ds j d) d lt)

apart : (ds : List StrengthChange) (i j : ℕ) (d : StrengthChange) → NoneTwice (changed_objects ds) → i < j → j < length ds
    → (get_or ds i d).object ≢ (get_or ds j d).object
apart [] i j d once less lt = absurd (omega arith)
apart (x ∷ ds) i zero d once less lt = absurd (omega arith)
apart (x ∷ ds) zero (suc j) d once less lt = λ e. once.0 (subst (λ (o : ℕ). Contains (changed_objects ds) o) (sym e) (object-there ds j d (omega arith)))
apart (x ∷ ds) (suc i) (suc j) d once less lt = apart ds i j d once.1 (omega arith) (omega arith)

-- the totals are those of strengths that are after the first changes, and before the others
pub record IsBetween (dump : Dump) (before : List Reached) (changes : List StrengthChange) (i : ℕ) (t : Totals) : Type 0 where
  pub strength : ℕ → Strength
  pub totals : AreTotalsOf dump strength (length dump.objects) t
  pub done : (j : ℕ) (d : StrengthChange) → j < i → j < length changes → strength (get_or changes j d).object ≡ (get_or changes j d).after
  pub to_do : (j : ℕ) (d : StrengthChange) → i ≤ j → j < length changes → strength (get_or changes j d).object ≡ (get_or changes j d).before
  pub others : (o : ℕ) → (Contains (changed_objects changes) o → ⊥) → strength o ≡ strength_in before o

-- an object can be moved from one strength to another
pub record IsReady (t : Totals) (group : Group) (bytes : ℕ) (s s' : Strength) : Type 0 where
  pub there : Contains t.keys (group_key group)
  pub count : 1 ≤ (total_in t group s).count
  pub size : bytes ≤ (total_in t group s).bytes
  pub count_room : (total_in t group s').count + 1 < 2 ^ 64
  pub size_room : (total_in t group s').bytes + bytes < 2 ^ 64

module _ (dump : Dump) (t0 : Totals) (changes : List StrengthChange) (before after : List Reached) (h : AreTotalsBefore dump t0 changes before after) where
  pub none-done : IsBetween dump before changes 0 t0
  none-done = record {
    strength = strength_in before;
    totals = of-kept dump before t0 h.totals;
    done = λ j d less lt. absurd (omega arith);
    to_do = λ j d le lt. (h.moved.each (get_or changes j d) (change-there changes j d lt)).0;
    others = λ o none. refl;
  }

  pub change-within : (i : ℕ) (d : StrengthChange) → i < length changes → (get_or changes i d).object < length dump.objects
  change-within i d lt = within before after changes h.moved (length dump.objects) h.before_count h.after_count (get_or changes i d).object
      (object-there changes i d lt)

  -- one more change
  module _ (i : ℕ) (d0 : StrengthChange) (lt : i < length changes) (t : Totals) (b : IsBetween dump before changes i t) where
    abbrev d : StrengthChange
    d = get_or changes i d0

    abbrev strength' : ℕ → Strength
    strength' o = cond (eqb o d.object) d.after (b.strength o)

    still : (o : ℕ) → o ≢ d.object → b.strength o ≡ strength' o
    still o other = ap (λ (x : Bool). cond x d.after (b.strength o)) (sym (ne_eqb o d.object other))

    now : strength' d.object ≡ d.after
    now = ap (λ (x : Bool). cond x d.after (b.strength d.object)) (eq-eqb d.object d.object refl)

    pub one-done : (t' : Totals) → IsRowPut t t' (group_key (object_at dump d.object).group)
        (plus_one (less_one (row_at t (group_key (object_at dump d.object).group)) d.before (object_at dump d.object).bytes) d.after
        (object_at dump d.object).bytes)
        → IsBetween dump before changes (i + 1) t'
    one-done t' put = record {
      strength = strength';
      totals = one-moved dump b.strength (length dump.objects) t b.totals d.object (change-within i d0 lt) strength' still t' put';
      done = done;
      to_do = to_do;
      others = λ o none. sym (still o (λ same. none (subst (λ (x : ℕ). Contains (changed_objects changes) x) (sym same) (object-there changes i d0 lt))))
          ∙ b.others o none;
    }
      where
        group : ℕ
        group = group_key (object_at dump d.object).group

        put' : IsRowPut t t' group (plus_one (less_one (row_at t group) (b.strength d.object) (object_at dump d.object).bytes) (strength' d.object)
            (object_at dump d.object).bytes)
        put' = subst (λ (s : Strength). IsRowPut t t' group
            (plus_one (less_one (row_at t group) s (object_at dump d.object).bytes) (strength' d.object) (object_at dump d.object).bytes))
            (sym (b.to_do i d0 (omega arith) lt))
            (subst (λ (s : Strength). IsRowPut t t' group
            (plus_one (less_one (row_at t group) d.before (object_at dump d.object).bytes) s (object_at dump d.object).bytes)) (sym now) put)

        done : (j : ℕ) (e : StrengthChange) → j < i + 1 → j < length changes → strength' (get_or changes j e).object ≡ (get_or changes j e).after
        done j e less within = elim (cases_lt j i) [
          | inl earlier ↦
              let other : (get_or changes j e).object ≢ d.object = λ same. apart changes j i d0 h.moved.once earlier lt
              (ap (λ (x : StrengthChange). x.object) (get_or_default changes j d0 e within) ∙ same) in
              sym (still (get_or changes j e).object other) ∙ b.done j e earlier within
          | inr after ↦
              let same : j ≡ i = omega arith in
              let is : get_or changes j e ≡ d = ap (λ (x : ℕ). get_or changes x e) same ∙ get_or_default changes i e d0 lt in
              subst (λ (x : StrengthChange). strength' x.object ≡ x.after) (sym is) now
        ]

        to_do : (j : ℕ) (e : StrengthChange) → i + 1 ≤ j → j < length changes → strength' (get_or changes j e).object ≡ (get_or changes j e).before
        to_do j e le within =
            let other : (get_or changes j e).object ≢ d.object = λ same. apart changes i j d0 h.moved.once (omega arith) within
            (sym (ap (λ (x : StrengthChange). x.object) (get_or_default changes j d0 e within) ∙ same)) in
            sym (still (get_or changes j e).object other) ∙ b.to_do j e (omega arith) within

    -- the change as it is read
    module _ (group : Group) (group_is : group ≡ (object_at dump d.object).group) (size : ℕ) (size_is : size ≡ (object_at dump d.object).bytes) (s : Strength)
        (s_is : s ≡ d.before) (s' : Strength) (s'_is : s' ≡ d.after) where
      inside : d.object < length dump.objects
      inside = change-within i d0 lt

      range : InRange (object_at dump d.object).group
      range = b.totals.in_range d.object inside

      was : b.strength d.object ≡ s
      was = b.to_do i d0 (omega arith) lt ∙ sym s_is

      pub ready : IsReady t group size s s'
      ready = subst (λ (g : Group). IsReady t g size s s') (sym group_is)
          (subst (λ (n : ℕ). IsReady t (object_at dump d.object).group n s s') (sym size_is)
          (subst (λ (x : Strength). IsReady t (object_at dump d.object).group (object_at dump d.object).bytes x s') was there))
        where
          there : IsReady t (object_at dump d.object).group (object_at dump d.object).bytes (b.strength d.object) s'
          there = record {
            there = b.totals.grouped d.object inside;
            count = one-there dump b.strength (length dump.objects) t b.totals d.object inside;
            size = bytes-there dump b.strength (length dump.objects) t b.totals d.object inside;
            count_room = omega (arith, few-objects dump b.strength (length dump.objects) t b.totals (object_at dump d.object).group s' range, b.totals.few);
            size_room = omega (
              arith,
              few-bytes dump b.strength (length dump.objects) t b.totals
                  (object_at dump d.object).group s' range,
              b.totals.few,
              b.totals.small d.object inside,
            );
          }

      pub one-done-with : (t' : Totals) → IsRowPut t t' (group_key group) (plus_one (less_one (row_at t (group_key group)) s size) s' size)
          → IsBetween dump before changes (i + 1) t'
      one-done-with t' put = one-done t'
          (subst (λ (g : Group). IsRowPut t t' (group_key g)
          (plus_one (less_one (row_at t (group_key g)) d.before (object_at dump d.object).bytes) d.after (object_at dump d.object).bytes)) group_is
          (subst (λ (n : ℕ). IsRowPut t t' (group_key group) (plus_one (less_one (row_at t (group_key group)) d.before n) d.after n)) size_is
          (subst (λ (x : Strength). IsRowPut t t' (group_key group) (plus_one (less_one (row_at t (group_key group)) x size) d.after size)) s_is
          (subst (λ (x : Strength). IsRowPut t t' (group_key group) (plus_one (less_one (row_at t (group_key group)) s size) x size)) s'_is put))))

  -- all changes
  module _ (i : ℕ) (all : length changes ≤ i) (t : Totals) (b : IsBetween dump before changes i t) where
    agrees : (o : ℕ) → b.strength o ≡ strength_in after o
    agrees o = elim (cases_eq (rank (strength_in before o)) (rank (strength_in after o))) [
      | inl same ↦ stays o (one-rank (strength_in before o) (strength_in after o) (eq-eqb (rank (strength_in before o)) (rank (strength_in after o)) same))
      | inr other ↦ changes-to o (h.moved.all o (λ e. other (ap rank e)))
    ]
      where
        stays : (o : ℕ) → strength_in before o ≡ strength_in after o → b.strength o ≡ strength_in after o
        stays o same = b.others o none ∙ same
          where
            none : Contains (changed_objects changes) o → ⊥
            none c =
                let found = change-of changes o c in
                let d = found.0 in
                let each = h.moved.each d found.1 in
                each.2 (sym each.0 ∙ subst (λ (x : ℕ). strength_in before x ≡ strength_in after x) (sym found.2) same ∙ each.1)

        changes-to : (o : ℕ) → Contains (changed_objects changes) o → b.strength o ≡ strength_in after o
        changes-to o c =
            let found = change-of changes o c in
            let d = found.0 in
            let at = found.1 in
            let lt : at.0 < length changes = at.1 in
            let done : b.strength d.object ≡ d.after = subst (λ (x : StrengthChange). b.strength x.object ≡ x.after) at.2 (b.done at.0 d (omega arith) lt) in
            subst (λ (x : ℕ). b.strength x ≡ strength_in after x) found.2 (done ∙ sym (h.moved.each d at).1)

    pub all-done : AreTotals dump after t
    all-done = to-kept dump after t (same-totals dump b.strength (length dump.objects) t b.totals (strength_in after) agrees)
