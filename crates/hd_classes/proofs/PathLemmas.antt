-- Lemmas on paths up the chains, and on the classes along them.
use Rattle.std.proofs.Common.{◌≡◌, ◌∙◌, ◌⊎◌, inl, inr, ℕ, List, [], ◌∷◌, ◌++◌, length, Option, Some, None, Bool, true, false, ◌||◌, cond, eqb, eqb-true, Bor}
use Rattle.std.proofs.Common.{Result, Ok, Err, OnOk, refl, sym, ap, subst, arith}
use Rattle.std.specs.List.{list_any}
use Rattle.std.specs.Option.{option_map, is_some}
use Rattle.std.proofs.lemmas.List.{map-append}
use Rattle.hd_terms.specs.declared.errors.Cause.TheVariants as causes
use Rattle.hd_terms.specs.ReadFaults.{fault}
use Rattle.hd_terms.specs.SubRecords.{ClassItem}
use Rattle.hd_terms.specs.Classes.{ClassTable, ResolvedClass, LeadUp, class_at, never_ends, resolved_class}
use Rattle.hd_subs.specs.declared.class.ClassDump.{ClassDump}
use Rattle.hd_subs.specs.Views.{class_view}
use Rattle.hd_classes.specs.FirstClass.{PlacedClass}
use Rattle.hd_classes.specs.Links.{Row, is_kept}
use Rattle.hd_classes.specs.Linking.{AreKept, IsTop, KeepsPath}
use Rattle.hd_classes.specs.declared.path.Path.{Path}
use Rattle.hd_classes.specs.Paths.{path_view, IsPath}
use Rattle.hd_classes.specs.Building.{IsBroken, AreBroken, ArePathBroken, AddsClass, cycle_at}
use Rattle.hd_classes.proofs.FirstClassLemmas.{known-noted}
use Rattle.hd_classes.proofs.ChainLemmas.{Found, IsFound, Told, IsTold, class-some, lead-last, path-cycle, broken-up, ends-up, whole-ends, absent-ends}
use Rattle.hd_classes.proofs.ChainLemmas.{absent-chain, null-ends}
use Rattle.hd_classes.proofs.ResolvedLemmas.{resolved-chain, resolved-none}
use Rattle.hd_classes.proofs.KeptLemmas.{kept-known}

-- a path without its last class
pub path-down : (classes : List ClassItem) (items before : List (Bor ClassDump)) (class : Bor ClassDump) (start mid : ℕ) → items ≡ before ++ class ∷ []
    → LeadUp classes start (path_view items) mid
    → (low : ℕ) × LeadUp classes start (path_view before) low × (class_at classes low ≡ Some (class_view class.now)) × ((class_view class.now).super ≡ mid)
path-down classes items before class start mid is lead =
    let seen : path_view items ≡ path_view before ++ class_view class.now ∷ [] = ap path_view is ∙ map-append (λ (b : Bor ClassDump). class_view b.now) before
    (class ∷ []) in
    lead-last classes (path_view before) start mid (class_view class.now) (subst (λ (cs : List ClassItem). LeadUp classes start cs mid) seen lead)

-- a class whose super class has a broken chain has one
pub broken-step : Found → IsFound → Told → IsTold → (t : ClassTable) (id : ℕ) (c : ClassItem) → class_at t.classes id ≡ Some c → IsBroken t c.super
    → IsBroken t id
broken-step found is_found told is_told t id c at h = record {
  some = class-some t.classes id c at;
  none = broken-up t.classes found is_found id c at h.some h.none;
  ends = ends-up t.classes told is_told id c at h.ends;
}

-- one ID more
pub or-cases : (a b : Bool) → (a || (b || false)) ≡ true → (a ≡ true) ⊎ (b ≡ true)
or-cases true b e = inl refl
or-cases false true e = inr refl
or-cases false false e = cc

pub noted-push : (t : ClassTable) (ids ids' : List ℕ) (id : ℕ) → AreBroken t ids → IsBroken t id → ids' ≡ cond (list_any (λ (k : ℕ). eqb id k) ids) ids
    (ids ++ id ∷ []) → AreBroken t ids'
noted-push t ids ids' id all broken grown q there =
    by (or-cases (list_any (λ (k : ℕ). eqb q k) ids) (eqb q id)
    (sym (ap (list_any (λ (k : ℕ). eqb q k)) grown ∙ known-noted id ids q (list_any (λ (k : ℕ). eqb id k) ids) refl) ∙ there))
  where
    by : (list_any (λ (k : ℕ). eqb q k) ids ≡ true) ⊎ (eqb q id ≡ true) → IsBroken t q
    by (inl old) = all q old
    by (inr new) = subst (IsBroken t) (sym (eqb-true q id new)) broken

-- an ID that is no class's, other than 0
pub absent-broken : (t : ClassTable) (id : ℕ) → (id ≡ 0 → ⊥) → class_at t.classes id ≡ None → IsBroken t id
absent-broken t id some none = record { some = some; none = absent-chain t.classes id none; ends = absent-ends t.classes id none }

pub no-class : (o : Option (Bor ClassDump)) (q : Option ClassItem) → option_map (λ (b : Bor ClassDump). class_view b.now) o ≡ q → is_some o ≡ false → q ≡ None
no-class None q is none = sym is
no-class (Some b) q is none = cc

none-some : (k : ResolvedClass) → ◌≡◌ {A = Option ResolvedClass} None (Some k) → ⊥
none-some k e = cc

-- a class that is kept, or that has the ID 0
pub adds-kept : (t : ClassTable) (x : PlacedClass) (start : ℕ) (rows rows' : List Row) (ids : List ℕ) → start ≡ x.class.id → AreBroken t ids
    → KeepsPath t start rows rows' → AddsClass t x rows rows' ids
adds-kept t x start rows rows' ids same broken h =
    let top : IsTop rows' x.class.id = subst (IsTop rows') same h.top in
    record { kept = h.kept; more = h.more; broken = broken; ends = ends top; settled = λ k is. settled k is top }
  where
    ends : IsTop rows' x.class.id → never_ends t.classes x.class.id ≡ false
    ends (inl null) = null-ends t.classes x.class.id null
    ends (inr there) =
        let known = kept-known rows' x.class.id there in
        let found = resolved-chain t x.class.id known.0 (h.kept.known x.class.id known.0 known.1) in
        whole-ends t.classes x.class.id found.0 found.1

    settled : (k : ResolvedClass) → resolved_class t x.class.id ≡ Some k → IsTop rows' x.class.id → is_kept rows' x.class.id ≡ true
    settled k is (inl null) = absurd (none-some k (sym (ap (resolved_class t) null) ∙ is))
    settled k is (inr there) = there

-- a class with a broken chain
pub adds-broken : (t : ClassTable) (x : PlacedClass) (start : ℕ) (rows : List Row) (ids : List ℕ) → start ≡ x.class.id → AreKept t rows
    → ArePathBroken t start ids → AddsClass t x rows rows ids
adds-broken t x start rows ids same kept h =
    let broken : IsBroken t x.class.id = subst (IsBroken t) same h.broken in
    record {
      kept = kept;
      more = λ id there. there;
      broken = h.all;
      ends = broken.ends;
      settled = λ k is. absurd (none-some k (sym (resolved-none t x.class.id broken.none) ∙ is));
    }

-- a class whose chain never ends
case-class : (o : Option (Bor ClassDump)) (q : Option ClassItem) → option_map (λ (b : Bor ClassDump). class_view b.now) o ≡ q → is_some o ≡ true
    → (c : ClassItem) × (q ≡ Some c)
case-class None q is some = cc
case-class (Some b) q is some = (class_view b.now, sym is)

pub never-ends : (t : ClassTable) (x : PlacedClass) (rows : List Row) (ids : List ℕ) (p : Path) (o : Option (Bor ClassDump)) → IsPath t rows ids x.class.id p
    → is_kept rows p.end ≡ false → list_any (λ (id : ℕ). eqb p.end id) ids ≡ false
    → option_map (λ (b : Bor ClassDump). class_view b.now) o ≡ class_at t.classes p.end → is_some o ≡ true
    → cycle_at t x ≡ Some (fault causes.ClassCycle x.offset)
never-ends t x rows ids p o is kept noted class some =
    let next = case-class o (class_at t.classes p.end) class some in
    let long : length (path_view p.classes.items) ≡ length t.classes = as-many p.classes.items ∙ is.stops kept noted next.0 next.1 in
    let never : never_ends t.classes x.class.id ≡ true = ap (never_ends t.classes) (sym is.starts)
    ∙ path-cycle t.classes (path_view p.classes.items) p.start p.end next.0 is.leads long next.1 in
    ap (λ (b : Bool). cond b (Some (fault causes.ClassCycle x.offset)) None) never
  where
    as-many : (bs : List (Bor ClassDump)) → length (path_view bs) ≡ length bs
    as-many [] = refl
    as-many (b ∷ bs) = omega (arith, as-many bs)

pub on-ok : {X E : Type 0} (r : Result X E) (P Q : Type 0) → (P → Q) → OnOk r P → OnOk r Q
on-ok (Ok x) P Q more h = more h
on-ok (Err e) P Q more h = h
