-- The rows of what moved from one log to another are one list.
use Rattle.std.proofs.Common.{◌≡◌, ◌∙◌, ℕ, ⊎_elim, List, [], ◌∷◌, refl, sym, ap, subst}
use Rattle.std.specs.Prelude.{Contains, map}
use Rattle.std.specs.List.{AllByRecursion}
use Rattle.hd_terms.specs.declared.Event.{Event}
use Rattle.hd_terms.specs.declared.MovedRow.{MovedRow}
use Rattle.hd_terms.specs.declared.Strength.{Strength}
use Rattle.hd_terms.specs.Dump.{Dump}
use Rattle.hd_terms.specs.Listed.{AreMovedRows, IsMoved, move_key}
use Rattle.hd_terms.specs.Totals.{IsTotalOf}
use Rattle.hd_laws.proofs.OneList.{cases, first, later, none, one_list, rises_keys}
use Rattle.hd_laws.proofs.OneStat.{same_bytes, same_count}

-- the two strengths of a row
abbrev pair : MovedRow → Strength × Strength
pair row = (row.before, row.after)

-- the pair of a row is one of the pairs
pair-there : (rows : List MovedRow) (z : MovedRow) → Contains rows z → Contains (map pair rows) (pair z)
pair-there [] z at = absurd (none z at)
pair-there (x ∷ xs) z at =
    ⊎_elim (λ is. subst (Contains (pair x ∷ map pair xs)) (ap pair is) (first (pair x) (map pair xs)))
    (λ there. later (pair x) (map pair xs) (pair z) (pair-there xs z there))
    (cases x xs z at)

-- each of the pairs is that of a row
row-there : (rows : List MovedRow) (p : Strength × Strength) → Contains (map pair rows) p → (row : MovedRow) × Contains rows row × (pair row ≡ p)
row-there [] p at = absurd (none p at)
row-there (x ∷ xs) p at =
    ⊎_elim (λ is. (x, first x xs, is))
    (λ there. let more = row-there xs p there in (more.0, later x xs more.0 more.1, more.2))
    (cases (pair x) (map pair xs) p at)

-- what holds of all rows holds of each
of-each : (P : MovedRow → Type 0) (rows : List MovedRow) → AllByRecursion P rows → (z : MovedRow) → Contains rows z → P z
of-each P [] h z at = absurd (none z at)
of-each P (x ∷ xs) h z at = ⊎_elim (λ is. subst P is h.0) (λ there. of-each P xs h.1 z there) (cases x xs z at)

module _ (dump : Dump) (before after : List Event) where
  -- the objects of a row
  abbrev Total : MovedRow → Type 0
  Total row = IsTotalOf dump (IsMoved dump before after row.before row.after) row.count row.bytes

  -- a row goes by its pair
  same_row : (a b : MovedRow) → pair a ≡ pair b → Total a → Total b → a ≡ b
  same_row a b same t u =
      let moved : IsTotalOf dump (IsMoved dump before after a.before a.after) b.count b.bytes =
      subst (λ (p : Strength × Strength). IsTotalOf dump (IsMoved dump before after p.0 p.1) b.count b.bytes) (sym same) u in
      let counts = same_count dump (IsMoved dump before after a.before a.after) a.count a.bytes b.count b.bytes t moved in
      let bytes = same_bytes dump (IsMoved dump before after a.before a.after) a.count a.bytes b.count b.bytes t moved in
      ap (λ (p : Strength × Strength). let row : MovedRow = record { before = p.0; after = p.1; count = a.count; bytes = a.bytes } in row) same
      ∙ ap (λ (n : ℕ). let row : MovedRow = record { before = b.before; after = b.after; count = n; bytes = a.bytes } in row) counts
      ∙ ap (λ (n : ℕ). let row : MovedRow = record { before = b.before; after = b.after; count = b.count; bytes = n } in row) bytes

  -- a row of one list is one of the other
  carried : (rows others : List MovedRow) → AreMovedRows dump before after rows → AreMovedRows dump before after others → (z : MovedRow) → Contains rows z
      → Contains others z
  carried rows others are too z at =
      let there = (too.pairs z.before z.after).1 ((are.pairs z.before z.after).0 (pair-there rows z at)) in
      let found = row-there others (pair z) there in
      subst (Contains others) (same_row found.0 z found.2 (of-each Total others too.totals found.0 found.1) (of-each Total rows are.totals z at)) found.1

  pub one_moved : (rows others : List MovedRow) → AreMovedRows dump before after rows → AreMovedRows dump before after others → rows ≡ others
  one_moved rows others are too =
      one_list move_key rows others (rises_keys move_key rows are.in_order) (rises_keys move_key others too.in_order)
      (λ z at. carried rows others are too z at) (λ z at. carried others rows too are z at)
