-- The groups that can be looked for by their names, gathered one after another.
use Rattle.std.proofs.Common.{◌≡◌, ◌∙◌, ℕ, ◌+◌, ◌<◌, ◌≤◌, inl, inr, List, [], ◌∷◌, ◌++◌, length, map, take, get_or, Contains, Some, None, eqb-true, eq-eqb}
use Rattle.std.proofs.Common.{take_all, sym, ap, subst, arith}
use Rattle.std.specs.Prelude.{◌↔◌}
use Rattle.std.specs.Option.{option_map}
use Rattle.std.specs.List.{slice_get}
use Rattle.std.specs.List.Sorted.{IsStrictlyIncreasing}
use Rattle.std.proofs.lemmas.Bool.{cases_lt}
use Rattle.std.proofs.lemmas.List.{get_or-map, get_or_default, length-map, map_more}
use Rattle.std.proofs.lemmas.List.Elements.{Contains-append_left, Contains-append_right, Contains-append_cases}
use Rattle.std.proofs.lemmas.Option.{slice_get_cases}
use Rattle.hd_terms.specs.declared.ClassRow.{ClassRow}
use Rattle.hd_terms.specs.declared.Group.{Group}
use Rattle.hd_terms.specs.declared.Group.TheVariants as groups
use Rattle.hd_terms.specs.declared.Strength.{Strength}
use Rattle.hd_terms.specs.declared.Strength.TheVariants as strengths
use Rattle.hd_terms.specs.Ranks.{rank}
use Rattle.hd_terms.specs.Dump.{NamedClass, Dump, object_at}
use Rattle.hd_terms.specs.Listed.{AreNamedGroups, IsNamedGroup, group_key}
use Rattle.hd_terms.specs.Settled.{Reached, reached_at}
use Rattle.hd_totals.specs.Members.{has_kept, same_group}
use Rattle.hd_totals.specs.Rows.{row_group, AreMemberRows}
use Rattle.hd_queries.specs.Groups.{class_group, IsGroupAbove, AreGroupsAbove}
use Rattle.hd_queries.proofs.ListedLemmas.{both, one-group}

-- one more class
pub next-class : (classes : List NamedClass) (i class : ℕ) → Some class ≡ option_map (λ (c : NamedClass). c.class) (slice_get classes i)
    → (i < length classes) × (map class_group (take (i + 1) classes) ≡ map class_group (take i classes) ++ groups.Class class ∷ [])
next-class classes i class is = elim (slice_get_cases classes i).1 [
  | inl (found, within, at, get) ↦
      let same : found.class ≡ class = cc in (
        within,
        map_more class_group classes i found within ∙ ap (λ (c : NamedClass). map class_group (take i classes) ++ class_group c ∷ []) get
            ∙ ap (λ (id : ℕ). map class_group (take i classes) ++ groups.Class id ∷ []) same,
      )
  | inr (past, none) ↦ absurd cc
]

-- no more class
pub last-class : (classes : List NamedClass) (i : ℕ) → None ≡ option_map (λ (c : NamedClass). c.class) (slice_get classes i) → take i classes ≡ classes
last-class classes i is = elim (slice_get_cases classes i).1 [
  | inl (found, within, at, get) ↦ absurd cc
  | inr (past, none) ↦ take_all i classes past
]

highest : (s : Strength) → rank s ≤ 5
highest strengths.Unreachable = omega arith
highest strengths.Phantom = omega arith
highest strengths.Final = omega arith
highest strengths.Weak = omega arith
highest strengths.Soft = omega arith
highest strengths.Strong = omega arith

-- the groups of the classes alone
pub none-above : (dump : Dump) (ks : List Reached) → AreGroupsAbove dump ks 0 (map class_group dump.classes)
none-above dump ks group = (from, to)
  where
    from : Contains (map class_group dump.classes) group → IsGroupAbove dump ks 0 group
    from (k, lt, is) =
        let within : k < length dump.classes = omega (arith, lt, length-map dump.classes class_group) in
        let none : NamedClass = record { class = 0; fields = []; statics = [] } in
        let c = get_or dump.classes k none in
        inl (c, (k, within, get_or-again k within none), sym (sym (get_or-map class_group dump.classes k none group within) ∙ is))
      where
        get_or-again : (k : ℕ) (within : k < length dump.classes) (none : NamedClass)
            → get_or dump.classes k (get_or dump.classes k none) ≡ get_or dump.classes k none
        get_or-again k within none = get_or_default dump.classes k (get_or dump.classes k none) none within

    to : IsGroupAbove dump ks 0 group → Contains (map class_group dump.classes) group
    to (inl (c, (k, lt, is), same)) = (
      k,
      omega (arith, lt, length-map dump.classes class_group),
      get_or-map class_group dump.classes k c group lt
          ∙ ap class_group is ∙ sym same,
    )
    to (inr (o, lt, same, high)) = absurd (omega (arith, high, highest (reached_at ks o).strength))

-- the groups that have objects of the next strength
module _ (dump : Dump) (ks : List Reached) (s : Strength) (rows : List ClassRow) (k : ℕ) (here : k + rank s ≡ 5) (h : AreMemberRows dump ks s rows)
    (gs : List Group) (old : AreGroupsAbove dump ks k gs) where
  of-row : (group : Group) → Contains (map row_group rows) group → IsGroupAbove dump ks (k + 1) group
  of-row group (i, lt, is) =
      let within : i < length rows = omega (arith, lt, length-map rows row_group) in
      let row : ClassRow = get_or rows i (record { group = group; count = 0; bytes = 0 }) in
      let some = (h.each i (record { group = group; count = 0; bytes = 0 }) within).some in
      let parts = both (has_kept ks s some.0) (same_group (object_at dump some.0).group row.group) some.2 in
      let ranks : rank (reached_at ks some.0).strength ≡ rank s = eqb-true (rank (reached_at ks some.0).strength) (rank s) parts.0 in
      let named : row.group ≡ group = sym (get_or-map row_group rows i (record { group = group; count = 0; bytes = 0 }) group within) ∙ is in
      inr (some.0, some.1, one-group (object_at dump some.0).group row.group parts.1 ∙ named, omega (arith, ranks, here))

  from-more : (group : Group) → Contains (gs ++ map row_group rows) group → IsGroupAbove dump ks (k + 1) group
  from-more group at = elim (Contains-append_cases gs (map row_group rows) group at) [
    | inl before ↦ wider ((old group).0 before)
    | inr more ↦ of-row group more
  ]
    where
      wider : IsGroupAbove dump ks k group → IsGroupAbove dump ks (k + 1) group
      wider (inl class) = inl class
      wider (inr (o, lt, same, high)) = inr (o, lt, same, omega (arith, high))

  to-more : (group : Group) → IsGroupAbove dump ks (k + 1) group → Contains (gs ++ map row_group rows) group
  to-more group (inl class) = Contains-append_left gs (map row_group rows) group ((old group).1 (inl class))
  to-more group (inr (o, lt, same, high)) = elim (cases_lt (rank (reached_at ks o).strength + k) 6) [
    | inl low ↦
        let ranks : rank (reached_at ks o).strength ≡ rank s = omega (arith, low, high, here) in
        Contains-append_right gs (map row_group rows) group
        (subst (λ (g : Group). Contains (map row_group rows) g) same (h.all o lt (eq-eqb (rank (reached_at ks o).strength) (rank s) ranks)))
    | inr above ↦ Contains-append_left gs (map row_group rows) group ((old group).1 (inr (o, lt, same, above)))
  ]

  pub more-above : AreGroupsAbove dump ks (k + 1) (gs ++ map row_group rows)
  more-above group = (from-more group, to-more group)

-- the groups of all strengths, in order
module _ (dump : Dump) (ks : List Reached) (k : ℕ) (enough : 6 ≤ k) (gs ordered : List Group) (all : AreGroupsAbove dump ks k gs)
    (rises : IsStrictlyIncreasing (map group_key ordered)) (same : (group : Group) → Contains ordered group ↔ Contains gs group) where
  to-named : (group : Group) → IsGroupAbove dump ks k group → IsNamedGroup dump group
  to-named group (inl class) = inr class
  to-named group (inr (o, lt, is, high)) = inl (o, lt, (is, tt))

  from-named : (group : Group) → IsNamedGroup dump group → IsGroupAbove dump ks k group
  from-named group (inr class) = inl class
  from-named group (inl (o, lt, (is, all))) = inr (o, lt, is, omega (arith, enough))

  pub all-named : AreNamedGroups dump (λ group. Unit {0}) ordered
  all-named = record {
    in_order = rises;
    are = λ group. (
      λ at. (to-named group ((all group).0 ((same group).0 at)), tt),
      λ is. (same group).1 ((all group).1 (from-named group is.0)),
    );
  }
