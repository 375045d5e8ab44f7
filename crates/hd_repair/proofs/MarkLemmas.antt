use Rattle.std.proofs.Common.{◌≡◌, ◌≢◌, ℕ, ◌<◌, ◌≤◌, ◌⊎◌, inl, inr, List, [], ◌∷◌, Contains, length, take, drop, get_or, refl, sym, ap, subst, arith}
use Rattle.std.proofs.lemmas.Option.{get_or_from_slice_get, slice_get-get_or}
use Rattle.std.proofs.lemmas.Bool.{cases_eq}
use Rattle.std.proofs.lemmas.List.{take-append-drop}
use Rattle.std.proofs.lemmas.List.Elements.{Contains-append_left}
use Rattle.hd_terms.specs.declared.Support.{Support}
use Rattle.hd_terms.specs.declared.Support.TheVariants as supports
use Rattle.hd_terms.specs.Settled.{Reached}
use Rattle.hd_terms.specs.Ranks.{rank, given_by}
use Rattle.hd_terms.specs.Paths.{Standing}
use Rattle.hd_terms.specs.Settled.{reached_at, IsSupported}
use Rattle.hd_terms.proofs.RankLemmas.{weaker-greatest, given-positive, least-positive}
use Rattle.hd_terms.proofs.Lower.{Contains-first, Contains-later}
use Rattle.hd_repair.specs.Spreading.{rank_at}
use Rattle.hd_repair.proofs.QueueLemmas.{cons_cases}

-- what is read past the end doesn't count within the list
pub any_default : {X : Type 0} (xs : List X) (i : ℕ) (d e : X) → i < length xs → get_or xs i d ≡ get_or xs i e
any_default xs i d e lt = get_or_from_slice_get xs i (get_or xs i e) d (slice_get-get_or xs i e lt)

-- in a list or not
pub in_or_not : (xs : List ℕ) (x : ℕ) → Contains xs x ⊎ (Contains xs x → ⊥)
in_or_not [] x = inr (λ (k, lt, is). absurd (omega arith))
in_or_not (y ∷ ys) x = elim (cases_eq x y) [
  | inl same ↦ inl (subst (λ (z : ℕ). Contains (y ∷ ys) z) (sym same) (Contains-first y ys))
  | inr other ↦ elim (in_or_not ys x) [
    | inl later ↦ inl (Contains-later y x ys later)
    | inr none ↦ inr (λ c. elim (cons_cases y ys x c) [ inl same ↦ other same | inr later ↦ none later ])
  ]
]

-- a support holds up what is reached
pub supported_reached : (more : Standing) (ks : List Reached) (o : ℕ) (s : Support) → s ≢ supports.Nothing → IsSupported more ks o s → 1 ≤ rank_at ks o
supported_reached more ks o supports.Nothing some h = absurd (some refl)
supported_reached more ks o (supports.Root n) some h = rw h.1 (omega arith)
supported_reached more ks o (supports.Edge source slot) some (e, h) =
    rw (ap rank h.strength) (weaker-greatest 1 (reached_at ks source).strength (given_by e.kind) (omega (arith, h.passes_on, least-positive more.mode))
    (given-positive e.kind))

-- what is in the front of a list is in the list
pub in_take : {X : Type 0} (xs : List X) (i : ℕ) (x : X) → Contains (take i xs) x → Contains xs x
in_take xs i x c = subst (λ (ys : List _). Contains ys x) (take-append-drop i xs) (Contains-append_left (take i xs) (drop i xs) x c)
