use Rattle.std.proofs.Common.{◌≡◌, ℕ, ◌<◌, List, Contains, length, refl, ap, subst, arith, Some, true, slice_get}
use Rattle.hd_terms.specs.declared.Mode.{Mode}
use Rattle.hd_terms.specs.declared.Support.{Support}
use Rattle.hd_terms.specs.Paths.{RootEntry}
use Rattle.hd_terms.specs.Settled.{Reached, reached_at, PassesOn}
use Rattle.hd_terms.specs.EdgeRows.{MarkedEdge, MarkedRoot, Rows, AreRows}
use Rattle.hd_repair.specs.Hanging.{IsGiven, IsSupportFor}
use Rattle.hd_repair.specs.Spreading.{rank_at}
use Rattle.hd_repair.proofs.OutLemmas.{Contains-slice_get}
use Rattle.hd_repair.proofs.BestLemmas.{into_target, into_stands}

-- a root that was read
pub root_read : (r r' : Rows) → r' ≡ r → AreRows r' → (o i : ℕ) (m : MarkedRoot) → i < length (r.roots o) → slice_get (r'.roots o) i ≡ Some m
    → m.stands ≡ true → Contains r.standing.roots (record { number = m.root.number; target = o })
root_read r r' same laws o i m lt is stands =
    let laws_here : AreRows r = subst AreRows same laws in
    let c : Contains (r.roots o) m = Contains-slice_get (r.roots o) i m lt (subst (λ (r : Rows). slice_get (r.roots o) i ≡ Some m) same is) in
    let there : m.root ≡ record { number = m.root.number; target = o } =
    ap (λ (t : ℕ). record { number = m.root.number; target = t }) (laws_here.root_target o m c) in
    subst (λ (x : RootEntry). Contains r.standing.roots x) there (laws_here.root_stands o m c stands)

-- an edge that was read and that gives enough
pub edge_read : (r r' : Rows) → r' ≡ r → AreRows r' → (ks : List Reached) (o i : ℕ) (y : MarkedEdge) → i < length (r.into o) → slice_get (r'.into o) i ≡ Some y
    → (mode : Mode) → mode ≡ r.standing.mode → (by : Support) → IsGiven mode ks y by → IsSupportFor r.standing ks o by
edge_read r r' same laws ks o i y lt is mode is_mode by given =
    let laws_here : AreRows r = subst AreRows same laws in
    let c : Contains (r.into o) y = Contains-slice_get (r.into o) i y lt (subst (λ (r : Rows). slice_get (r.into o) i ≡ Some y) same is) in
    let there : y.edge.target ≡ o = into_target r laws_here o y c in
    let l : rank_at ks y.edge.target ≡ rank_at ks o = ap (rank_at ks) there in
    rw given.support (
      (
        y.edge,
        record {
          stands = into_stands r laws_here o y c given.stands;
          from_source = refl;
          from_slot = refl;
          to_object = there;
          passes_on = subst (λ (m : Mode). PassesOn m (reached_at ks y.edge.source)) is_mode given.passes_on;
          enough = omega (arith, given.enough);
        },
      ),
      given.hung,
    )
