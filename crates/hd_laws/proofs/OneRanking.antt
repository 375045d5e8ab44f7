-- Rows of groups in the order of their bytes are one list, where their totals and groups are told.
use Rattle.std.proofs.Common.{◌≡◌, ◌∙◌, ℕ, zero, suc, ◌+◌, ◌<◌, ◌⊎◌, inl, inr, ⊎_elim, List, [], ◌∷◌, Some, refl, sym, ap, subst, arith}
use Rattle.std.specs.Prelude.{⊤, Contains, map, slice_get}
use Rattle.std.specs.List.{AllByRecursion}
use Rattle.hd_terms.specs.declared.ClassRow.{ClassRow}
use Rattle.hd_terms.specs.declared.Group.{Group}
use Rattle.hd_terms.specs.Dump.{Dump}
use Rattle.hd_terms.specs.Listed.{AreRanked, AreTopRows, IsAbove, IsMeantIn, group_key}
use Rattle.hd_terms.specs.Totals.{IsTotalOf}
use Rattle.hd_laws.proofs.OneList.{cases, first, later, none}
use Rattle.hd_laws.proofs.OneStat.{same_bytes, same_count}

module _ {X : Type 0} (R : X → X → Type 0) (no_two : (x y : X) → R x y → R y x → ⊥) where
  -- each item stands above the later ones
  abbrev pub Ranks : List X → Type 0
  Ranks [] = ⊤
  Ranks (x ∷ xs) = ((z : X) → Contains xs z → R x z) × Ranks xs

  same_first : (x : X) (xs : List X) (y : X) (ys : List X) → Ranks (x ∷ xs) → Ranks (y ∷ ys) → Contains (y ∷ ys) x → Contains (x ∷ xs) y → x ≡ y
  same_first x xs y ys u v f g =
      ⊎_elim (λ is. sym is)
      (λ x_later. ⊎_elim (λ is. is) (λ y_later. absurd (no_two y x (v.0 x x_later) (u.0 y y_later))) (cases x xs y g))
      (cases y ys x f)

  not_first : (x : X) (xs : List X) (y : X) (ys : List X) (z : X) → Ranks (x ∷ xs) → x ≡ y → Contains xs z → Contains (y ∷ ys) z → Contains ys z
  not_first x xs y ys z u same at h =
      ⊎_elim (λ is. let above : R z z = subst (λ (w : X). R w z) (same ∙ is) (u.0 z at) in absurd (no_two z z above above))
      (λ there. there)
      (cases y ys z h)

  pub one_ranking : (xs ys : List X) → Ranks xs → Ranks ys → ((z : X) → Contains xs z → Contains ys z) → ((z : X) → Contains ys z → Contains xs z) → xs ≡ ys
  one_ranking [] [] u v f g = refl
  one_ranking [] (y ∷ ys) u v f g = absurd (none y (g y (first y ys)))
  one_ranking (x ∷ xs) [] u v f g = absurd (none x (f x (first x xs)))
  one_ranking (x ∷ xs) (y ∷ ys) u v f g =
      let same = same_first x xs y ys u v (f x (first x xs)) (g y (first y ys)) in
      let rest = one_ranking xs ys u.1 v.1
      (λ z at. not_first x xs y ys z u same at (f z (later x xs z at)))
      (λ z at. not_first y ys x xs z v (sym same) at (g z (later y ys z at))) in
      ap (λ (w : X). w ∷ xs) same ∙ ap (λ (ws : List X). y ∷ ws) rest

-- no two groups stand above each other
no_two : (a b : ClassRow) → IsAbove a b → IsAbove b a → ⊥
no_two a b (inl h) (inl k) = omega (arith, h, k)
no_two a b (inl h) (inr (same, k)) = omega (arith, h, same)
no_two a b (inr (same, h)) (inl k) = omega (arith, k, same)
no_two a b (inr (same, inl h)) (inr (also, inl k)) = omega (arith, h, k)
no_two a b (inr (same, inl h)) (inr (also, inr (one, k))) = omega (arith, h, one)
no_two a b (inr (same, inr (one, h))) (inr (also, inl k)) = omega (arith, k, one)
no_two a b (inr (same, inr (one, h))) (inr (also, inr (too, k))) = omega (arith, h, k)

-- what stands above a group that stands above a third one stands above that
through : (a b c : ClassRow) → IsAbove a b → IsAbove b c → IsAbove a c
through a b c (inl h) (inl k) = inl (omega (arith, h, k))
through a b c (inl h) (inr (same, k)) = inl (omega (arith, h, same))
through a b c (inr (same, h)) (inl k) = inl (omega (arith, k, same))
through a b c (inr (same, inl h)) (inr (also, inl k)) = inr (same ∙ also, inl (omega (arith, h, k)))
through a b c (inr (same, inl h)) (inr (also, inr (one, k))) = inr (same ∙ also, inl (omega (arith, h, one)))
through a b c (inr (same, inr (one, h))) (inr (also, inl k)) = inr (same ∙ also, inl (omega (arith, k, one)))
through a b c (inr (same, inr (one, h))) (inr (also, inr (too, k))) = inr (same ∙ also, inr (one ∙ too, omega (arith, h, k)))

ends : (i : ℕ) → suc (i + 1) ≡ suc i + 1
ends i = omega arith

-- the rows behind the first are ranked
ranked-behind : (x : ClassRow) (xs : List ClassRow) → AreRanked (x ∷ xs) → AreRanked xs
ranked-behind x xs h = λ i a b at next. h (suc i) a b at (subst (λ (k : ℕ). slice_get (x ∷ xs) k ≡ Some b) (ends i) next)

-- the first stands above all others
above-all : (x : ClassRow) (xs : List ClassRow) → AreRanked (x ∷ xs) → (z : ClassRow) → Contains xs z → IsAbove x z
above-all x [] h z at = absurd (none z at)
above-all x (y ∷ ys) h z at =
    let next : IsAbove x y = h 0 x y refl refl in
    ⊎_elim (λ is. subst (IsAbove x) is next) (λ there. through x y z next (above-all y ys (ranked-behind x (y ∷ ys) h) z there)) (cases y ys z at)

ranks : (rows : List ClassRow) → AreRanked rows → Ranks IsAbove no_two rows
ranks [] h = tt
ranks (x ∷ xs) h = (above-all x xs h, ranks xs (ranked-behind x xs h))

-- the group of a row is one of the groups
group-there : (rows : List ClassRow) (z : ClassRow) → Contains rows z → Contains (map (λ (row : ClassRow). row.group) rows) z.group
group-there [] z at = absurd (none z at)
group-there (x ∷ xs) z at =
    let gs = map (λ (row : ClassRow). row.group) xs in
    ⊎_elim (λ is. subst (λ (g : Group). Contains (x.group ∷ gs) g) (ap (λ (row : ClassRow). row.group) is) (first x.group gs))
    (λ there. later x.group gs z.group (group-there xs z there))
    (cases x xs z at)

-- each of the groups is that of a row
row-there : (rows : List ClassRow) (g : Group) → Contains (map (λ (row : ClassRow). row.group) rows) g → (row : ClassRow) × Contains rows row × (row.group ≡ g)
row-there [] g at = absurd (none g at)
row-there (x ∷ xs) g at =
    ⊎_elim (λ is. (x, first x xs, is))
    (λ there. let more = row-there xs g there in (more.0, later x xs more.0 more.1, more.2))
    (cases x.group (map (λ (row : ClassRow). row.group) xs) g at)

-- what holds of all rows holds of each
of-each : (P : ClassRow → Type 0) (rows : List ClassRow) → AllByRecursion P rows → (z : ClassRow) → Contains rows z → P z
of-each P [] h z at = absurd (none z at)
of-each P (x ∷ xs) h z at = ⊎_elim (λ is. subst P is h.0) (λ there. of-each P xs h.1 z there) (cases x xs z at)

module _ (dump : Dump) (IsMeant : ℕ → Type 0) where
  -- a row goes by its group
  same_row : (a b : ClassRow) → a.group ≡ b.group → IsTotalOf dump (IsMeantIn dump IsMeant a.group) a.count a.bytes
      → IsTotalOf dump (IsMeantIn dump IsMeant b.group) b.count b.bytes → a ≡ b
  same_row a b same t u =
      let moved : IsTotalOf dump (IsMeantIn dump IsMeant a.group) b.count b.bytes =
      subst (λ (g : Group). IsTotalOf dump (IsMeantIn dump IsMeant g) b.count b.bytes) (sym same) u in
      let counts = same_count dump (IsMeantIn dump IsMeant a.group) a.count a.bytes b.count b.bytes t moved in
      let bytes = same_bytes dump (IsMeantIn dump IsMeant a.group) a.count a.bytes b.count b.bytes t moved in
      ap (λ (g : Group). let row : ClassRow = record { group = g; count = a.count; bytes = a.bytes } in row) same
      ∙ ap (λ (n : ℕ). let row : ClassRow = record { group = b.group; count = n; bytes = a.bytes } in row) counts
      ∙ ap (λ (n : ℕ). let row : ClassRow = record { group = b.group; count = b.count; bytes = n } in row) bytes

  -- a row of one list is one of the other
  carried : (rows others : List ClassRow) → AreTopRows dump IsMeant rows → AreTopRows dump IsMeant others → (z : ClassRow) → Contains rows z → Contains others z
  carried rows others are too z at =
      let there = (too.groups z.group).1 ((are.groups z.group).0 (group-there rows z at)) in
      let found = row-there others z.group there in
      let same = same_row found.0 z found.2
      (of-each (λ (row : ClassRow). IsTotalOf dump (IsMeantIn dump IsMeant row.group) row.count row.bytes) others too.totals found.0 found.1)
      (of-each (λ (row : ClassRow). IsTotalOf dump (IsMeantIn dump IsMeant row.group) row.count row.bytes) rows are.totals z at) in
      subst (Contains others) same found.1

  pub one_top : (rows others : List ClassRow) → AreTopRows dump IsMeant rows → AreTopRows dump IsMeant others → rows ≡ others
  one_top rows others are too =
      one_ranking IsAbove no_two rows others (ranks rows are.ranked) (ranks others too.ranked)
      (λ z at. carried rows others are too z at) (λ z at. carried others rows too are z at)
