-- The rows of pairs of strengths.
use Rattle.std.proofs.Common.{◌≡◌, ◌∙◌, ℕ, ◌+◌, ◌*◌, ◌-◌, ◌/◌, ◌%◌, ◌<◌, ◌≤◌, ◌^◌, Bool, true, false, ◌&&◌, true≢false, inl, inr, List, [], ◌∷◌, ◌++◌, length}
use Rattle.std.proofs.Common.{map, cond, get_or, replicate, Contains, eqb, eqb-true, eq-eqb, refl, sym, ap, subst, arith}
use Rattle.std.specs.Prelude.{All, not}
use Rattle.std.specs.List.Sorted.{IsStrictlyIncreasing}
use Rattle.std.proofs.lemmas.Bool.{cases_lt, ne_eqb}
use Rattle.std.proofs.lemmas.List.{get_or-map, get_or-replicate, get_or_append_left, get_or-append_right, length-map, length-append, map-append}
use Rattle.std.proofs.lemmas.List.Elements.{All-push, All-weaker, Contains-append_left, Contains-push, recursion_from_All}
use Rattle.hd_terms.specs.declared.MovedRow.{MovedRow}
use Rattle.hd_terms.specs.declared.Strength.{Strength}
use Rattle.hd_terms.specs.declared.Strength.TheVariants as strengths
use Rattle.hd_terms.specs.declared.Event.{Event}
use Rattle.hd_terms.specs.Dump.{Dump, object_at}
use Rattle.hd_terms.specs.EditedDump.{standing}
use Rattle.hd_terms.specs.Listed.{move_key, AreMovedRows, HasMoved, IsMoved}
use Rattle.hd_terms.specs.Paths.{Standing}
use Rattle.hd_terms.specs.Records.{largest_file}
use Rattle.hd_terms.specs.Settled.{Reached, Settled, reached_at}
use Rattle.hd_terms.specs.Strengths.{HasStrength}
use Rattle.hd_terms.specs.Totals.{Decides, IsTotalOf}
use Rattle.hd_terms.specs.Ranks.{rank}
use Rattle.hd_totals.specs.declared.total.Total.{Total}
use Rattle.hd_totals.specs.Totals.{no_total, plus_object}
use Rattle.hd_totals.specs.Members.{bytes_if}
use Rattle.hd_totals.specs.Running.{strength_in}
use Rattle.hd_totals.proofs.RunningLemmas.{cond-le}
use Rattle.hd_totals.proofs.TotalLemmas.{one-rank}
use Rattle.hd_queries.specs.Moved.{move_place, is_moved_at, AreMovesAdded, AreMovesBetween, AreMovesWith, AreMoveRows, IsMoveRow}
use Rattle.hd_queries.specs.Between.{IsCountedIf, IsTotalBetween}
use Rattle.hd_queries.proofs.BetweenLemmas.{none-between, one-more, quiet-between, total-of, some-of, count-of}

pub no-moves : (totals : List Total) → AreMoveRows totals 0 []
no-moves totals = record {
  in_order = λ k lt. absurd (omega (arith, lt));
  before = λ j d lt. absurd (omega (arith, lt));
  each = λ j d lt. absurd (omega (arith, lt));
  all = λ i lt some. absurd (omega arith);
}

-- one more number, greater than the others
rising-push : (xs : List ℕ) (y : ℕ) → IsStrictlyIncreasing xs → All (λ (x : ℕ). x < y) xs → IsStrictlyIncreasing (xs ++ y ∷ [])
rising-push xs y up below k lt = elim (cases_lt (k + 1) (length xs)) [
  | inl inside ↦
      let first = get_or_append_left xs (y ∷ []) 0 k (omega arith) in
      let second = get_or_append_left xs (y ∷ []) 0 (k + 1) inside in
      let less = up k inside in
      omega (arith, first, second, less)
  | inr last ↦
      let within : k < length xs = omega (arith, lt, length-append xs (y ∷ [])) in
      let end : k + 1 ≡ length xs = omega (arith, lt, length-append xs (y ∷ [])) in
      let first = get_or_append_left xs (y ∷ []) 0 k within in
      let second : get_or (xs ++ y ∷ []) (length xs) 0 ≡ y = get_or-append_right xs (y ∷ []) (length xs) (length xs) 0 refl (omega arith)
      ∙ at-first (length xs - length xs) (omega arith) in
      let less = below k 0 within in
      omega (arith, first, ap (λ (i : ℕ). get_or (xs ++ y ∷ []) i 0) end, second, less)
]
  where
    at-first : (i : ℕ) → i ≡ 0 → get_or (y ∷ []) i 0 ≡ y
    at-first i e = ap (λ (j : ℕ). get_or (y ∷ []) j 0) e

keys-below : (rows : List MovedRow) (k : ℕ) → All (λ (row : MovedRow). move_key row < k) rows → All (λ (x : ℕ). x < k) (map move_key rows)
keys-below rows k h j d lt =
    let none : MovedRow = record { before = strengths.Strong; after = strengths.Strong; count = 0; bytes = 0 } in
    let within : j < length rows = omega (arith, lt, length-map rows move_key) in
    subst (λ (x : ℕ). x < k) (sym (get_or-map move_key rows j none d within)) (h j none within)

-- the greatest strength is at place 0, and the least at place 5
key-of-place : (place : ℕ) (before after : ℕ) → place / 6 + before ≡ 5 → place % 6 + after ≡ 5 → 6 * (5 - before) + (5 - after) ≡ place
key-of-place place before after e f = omega arith

module _ (totals : List Total) (k : ℕ) (rows : List MovedRow) (h : AreMoveRows totals k rows) where
  farther : All (λ (row : MovedRow). move_key row < k + 1) rows
  farther = All-weaker (λ (row : MovedRow). move_key row < k) (λ (row : MovedRow). move_key row < k + 1) (λ row lt. omega arith) rows h.before

  -- a pair with no object
  pub move-without : (get_or totals k no_total).count ≡ 0 → AreMoveRows totals (k + 1) rows
  move-without none = record {
    in_order = h.in_order;
    before = farther;
    each = h.each;
    all = λ i lt some. elim (cases_lt i k) [
      | inl earlier ↦ h.all i earlier some
      | inr later ↦ let same : i ≡ k = omega arith in
          absurd (let zero_is = ap (λ (x : ℕ). (get_or totals x no_total).count) same in omega (arith, zero_is, none, some))
    ];
  }

  -- a pair with some
  pub move-with : (row : MovedRow) → k / 6 + rank row.before ≡ 5 → k % 6 + rank row.after ≡ 5 → row.count ≡ (get_or totals k no_total).count
      → row.bytes ≡ (get_or totals k no_total).bytes → 1 ≤ row.count → AreMoveRows totals (k + 1) (rows ++ row ∷ [])
  move-with row before after count_is bytes_is some =
      let key : move_key row ≡ k = key-of-place k (rank row.before) (rank row.after) before after in
      let pushed : map move_key (rows ++ row ∷ []) ≡ map move_key rows ++ move_key row ∷ [] = map-append move_key rows (row ∷ []) in
      record {
        in_order = subst IsStrictlyIncreasing (sym pushed)
            (rising-push (map move_key rows) (move_key row) h.in_order
            (subst (λ (y : ℕ). All (λ (x : ℕ). x < y) (map move_key rows)) (sym key) (keys-below rows k h.before)));
        before = All-push (λ (x : MovedRow). move_key x < k + 1) rows row farther (omega arith);
        each = All-push (IsMoveRow totals) rows row h.each
            (record {
              count_is = count_is ∙ ap (λ (x : ℕ). (get_or totals x no_total).count) (sym key);
              bytes_is = bytes_is
                  ∙ ap (λ (x : ℕ). (get_or totals x no_total).bytes) (sym key);
              some = some;
            });
        all = λ i lt more. elim (cases_lt i k) [
          | inl earlier ↦ subst (λ (ks : List ℕ). Contains ks i) (sym pushed)
              (Contains-append_left (map move_key rows) (move_key row ∷ []) i (h.all i earlier more))
          | inr later ↦
              let same : move_key row ≡ i = omega arith in
              subst (λ (ks : List ℕ). Contains ks i) (sym pushed)
              (subst (λ (x : ℕ). Contains (map move_key rows ++ move_key row ∷ []) x) same (Contains-push (map move_key rows) (move_key row)))
        ];
      }

-- strengths by their places
of-rank : (w s v t : ℕ) → w ≤ 5 → s ≤ 5 → v ≤ 5 → t ≤ 5 → 6 * (5 - w) + (5 - s) ≡ 6 * (5 - v) + (5 - t) → (w ≡ v) × (s ≡ t)
of-rank w s v t a b c d e = (omega arith, omega arith)

rank-le : (s : Strength) → rank s ≤ 5
rank-le strengths.Unreachable = omega arith
rank-le strengths.Phantom = omega arith
rank-le strengths.Final = omega arith
rank-le strengths.Weak = omega arith
rank-le strengths.Soft = omega arith
rank-le strengths.Strong = omega arith

same-rank : (s t : Strength) → rank s ≡ rank t → s ≡ t
same-rank s t e = one-rank s t (eq-eqb (rank s) (rank t) e)

-- pairs of strengths at one place are one
pub one-place : (w s v t : Strength) → move_place w s ≡ move_place v t → (w ≡ v) × (s ≡ t)
one-place w s v t e =
    let parts = of-rank (rank w) (rank s) (rank v) (rank t) (rank-le w) (rank-le s) (rank-le v) (rank-le t) e in
    (same-rank w v parts.0, same-rank s t parts.1)

pub place-below : (w s : Strength) → move_place w s < 36
place-below w s = omega (arith, rank-le w, rank-le s)

two-parts : (a b : Bool) → (not a && b) ≡ true → (a ≡ false) × (b ≡ true)
two-parts false true e = (refl, refl)
two-parts false false e = absurd cc
two-parts true b e = absurd cc

both-parts : (a b : Bool) → a ≡ false → b ≡ true → (not a && b) ≡ true
both-parts false true e f = refl
both-parts false false e f = absurd cc
both-parts true b e f = absurd cc

-- what is kept is settled for a dump under two logs
module _ (gives : (g : Standing) (ks : List Reached) → Settled g ks → (o : ℕ) → HasStrength g o (reached_at ks o).strength)
    (one : (g : Standing) (o : ℕ) (a b : Strength) → HasStrength g o a → HasStrength g o b → a ≡ b)
    (dump : Dump) (before after : List Event) (ks ls : List Reached) (h : Settled (standing dump before) ks) (k : Settled (standing dump after) ls) where
  -- an object, and a pair of strengths
  module _ (was is : Strength) (o : ℕ) where
    abbrev w : Strength
    w = strength_in ks o

    abbrev s : Strength
    s = strength_in ls o

    moved : is_moved_at ks ls (move_place was is) o ≡ true → IsMoved dump before after was is o
    moved e =
        let parts = two-parts (eqb (rank w) (rank s)) (eqb (move_place w s) (move_place was is)) e in
        let pair = one-place w s was is (eqb-true (move_place w s) (move_place was is) parts.1) in
        record {
          before_it = subst (λ (x : Strength). HasStrength (standing dump before) o x) pair.0 (gives (standing dump before) ks h o);
          after_it = subst (λ (x : Strength). HasStrength (standing dump after) o x) pair.1 (gives (standing dump after) ls k o);
          other = λ same. true≢false (sym (eq-eqb (rank w) (rank s) (ap rank (pair.0 ∙ same ∙ sym pair.1))) ∙ parts.0);
        }

    decided : IsMoved dump before after was is o → is_moved_at ks ls (move_place was is) o ≡ true
    decided m =
        let first : w ≡ was = one (standing dump before) o w was (gives (standing dump before) ks h o) m.before_it in
        let second : s ≡ is = one (standing dump after) o s is (gives (standing dump after) ls k o) m.after_it in
        both-parts (eqb (rank w) (rank s)) (eqb (move_place w s) (move_place was is))
        (ne_eqb (rank w) (rank s) (λ same. m.other (sym first ∙ same-rank w s same ∙ second)))
        (eq-eqb (move_place w s) (move_place was is) (ap (λ (x : Strength). move_place x s) first ∙ ap (move_place was) second))

  -- the test at a pair's place decides which objects moved so
  pub decides-moved : (was is : Strength) → Decides dump (IsMoved dump before after was is) (is_moved_at ks ls (move_place was is))
  decides-moved was is o within = (moved was is o, decided was is o)

  -- the rows of the totals of all objects
  module _ (totals : List Total) (counted : AreMovesBetween dump ks ls 0 (length dump.objects) totals) (rows : List MovedRow)
      (r : AreMoveRows totals 36 rows) where
    abbrev pair-of : MovedRow → Strength × Strength
    pair-of row = (row.before, row.after)

    abbrev at : Strength → Strength → Total
    at was is = get_or totals (move_place was is) no_total

    total-at : (was is : Strength) → IsTotalOf dump (IsMoved dump before after was is) (at was is).count (at was is).bytes
    total-at was is = total-of dump (is_moved_at ks ls (move_place was is)) (IsMoved dump before after was is) (at was is) (decides-moved was is)
        (counted.each (move_place was is) (place-below was is))

    row-total : (row : MovedRow) → IsMoveRow totals row → IsTotalOf dump (IsMoved dump before after row.before row.after) row.count row.bytes
    row-total row m = rw (m.count_is, m.bytes_is) (total-at row.before row.after)

    listed : (was is : Strength) → Contains {X = Strength × Strength} (map pair-of rows) (was, is) → HasMoved dump before after was is
    listed was is c =
        let none : MovedRow = record { before = was; after = is; count = 0; bytes = 0 } in
        let within : c.0 < length rows = omega (arith, c.1, length-map rows pair-of) in
        let row : MovedRow = get_or rows c.0 none in
        let same : pair-of row ≡ (was, is) = sym (get_or-map pair-of rows c.0 none (was, is) within) ∙ c.2 in
        let m : IsMoveRow totals row = r.each c.0 none within in
        let has = some-of dump (is_moved_at ks ls (move_place row.before row.after)) (get_or totals (move_key row) no_total)
        (counted.each (move_place row.before row.after) (place-below row.before row.after)) (subst (λ (n : ℕ). 1 ≤ n) m.count_is m.some) in
        subst (λ (p : Strength × Strength). HasMoved dump before after p.0 p.1) same (has.0, has.1, (decides-moved row.before row.after has.0 has.1).0 has.2)

    found : (was is : Strength) → HasMoved dump before after was is → Contains {X = Strength × Strength} (map pair-of rows) (was, is)
    found was is (o, lt, m) =
        let some : 1 ≤ (at was is).count = count-of dump (is_moved_at ks ls (move_place was is)) (at was is)
        (counted.each (move_place was is) (place-below was is)) o lt ((decides-moved was is o lt).1 m) in
        let c = r.all (move_place was is) (place-below was is) some in
        let none : MovedRow = record { before = was; after = is; count = 0; bytes = 0 } in
        let within : c.0 < length rows = omega (arith, c.1, length-map rows move_key) in
        let row : MovedRow = get_or rows c.0 none in
        let key : move_key row ≡ move_place was is = sym (get_or-map move_key rows c.0 none (move_place was is) within) ∙ c.2 in
        let pair = one-place row.before row.after was is key in (
          c.0,
          omega (arith, within, length-map rows pair-of),
          get_or-map pair-of rows c.0 none (was, is) within
              ∙ pairs row.before row.after was is pair.0 pair.1,
        )
      where
        pairs : (a b c d : Strength) → a ≡ c → b ≡ d → ◌≡◌ {A = Strength × Strength} (a, b) (c, d)
        pairs a b c d e f = rw (e, f) refl

    pub moved-rows : AreMovedRows dump before after rows
    moved-rows = record {
      in_order = r.in_order;
      totals = recursion_from_All (λ (row : MovedRow). IsTotalOf dump (IsMoved dump before after row.before row.after) row.count row.bytes) rows
          (λ j d lt. row-total (get_or rows j d) (r.each j d lt));
      pairs = λ was is. (listed was is, found was is);
    }

-- an object whose strength differs is counted for its pair alone, and one whose strength doesn't for none
module _ (ks ls : List Reached) (o : ℕ) where
  pub only-its-place : (strength_in ks o ≡ strength_in ls o → ⊥) → (place : ℕ)
      → is_moved_at ks ls place o ≡ eqb (move_place (strength_in ks o) (strength_in ls o)) place
  only-its-place differ place = ap (λ (b : Bool). not b && eqb (move_place (strength_in ks o) (strength_in ls o)) place)
      (ne_eqb (rank (strength_in ks o)) (rank (strength_in ls o)) (λ e. differ (same-rank (strength_in ks o) (strength_in ls o) e)))

  pub at-no-place : strength_in ks o ≡ strength_in ls o → (place : ℕ) → is_moved_at ks ls place o ≡ false
  at-no-place same place = ap (λ (b : Bool). not b && eqb (move_place (strength_in ks o) (strength_in ls o)) place)
      (eq-eqb (rank (strength_in ks o)) (rank (strength_in ls o)) (ap rank same))

  module _ (dump : Dump) (old new : List Total) where
    pub moves-without : strength_in ks o ≡ strength_in ls o → length old ≡ 36 → new ≡ old → AreMovesWith dump ks ls o old new
    moves-without same whole is = rw is (record {
      whole = whole;
      each = λ place lt.
          let none = at-no-place same place in
          let size : bytes_if dump (is_moved_at ks ls place) o ≡ 0 = ap (λ (b : Bool). cond b (object_at dump o).bytes 0) none in
          record {
            counts = omega (arith, ap (λ (b : Bool). cond {A = ℕ} b 1 0) none);
            sizes = omega arith;
            small = omega arith;
          };
    })

    pub moves-with : (strength_in ks o ≡ strength_in ls o → ⊥) → AreMovesAdded old (move_place (strength_in ks o) (strength_in ls o))
        (object_at dump o).bytes new → (object_at dump o).bytes ≤ largest_file → AreMovesWith dump ks ls o old new
    moves-with differ added few =
        record { whole = added.whole; each = λ place lt. counted place (eqb (move_place (strength_in ks o) (strength_in ls o)) place) refl }
      where
        counted : (place : ℕ) → (b : Bool) → eqb (move_place (strength_in ks o) (strength_in ls o)) place ≡ b
            → IsCountedIf dump (is_moved_at ks ls place) o (get_or old place no_total) (get_or new place no_total)
        counted place true e =
            let passes = only-its-place differ place ∙ e in
            let here : get_or new place no_total ≡ plus_object (get_or old place no_total) (object_at dump o).bytes =
            subst (λ (i : ℕ). get_or new i no_total ≡ plus_object (get_or old i no_total) (object_at dump o).bytes)
            (eqb-true (move_place (strength_in ks o) (strength_in ls o)) place e) added.here in
            record {
              counts = ap (λ (t : Total). t.count) here ∙ ap (λ (b : Bool). (get_or old place no_total).count + cond b 1 0) (sym passes);
              sizes = ap (λ (t : Total). t.bytes) here ∙ ap (λ (b : Bool). (get_or old place no_total).bytes + cond b (object_at dump o).bytes 0) (sym passes);
              small = cond-le (is_moved_at ks ls place o) (object_at dump o).bytes largest_file few;
            }
        counted place false e =
            let fails = only-its-place differ place ∙ e in
            let there : get_or new place no_total ≡ get_or old place no_total =
            added.others place (λ same. true≢false (sym (eq-eqb (move_place (strength_in ks o) (strength_in ls o)) place (sym same)) ∙ e)) in
            let size : bytes_if dump (is_moved_at ks ls place) o ≡ 0 = ap (λ (b : Bool). cond b (object_at dump o).bytes 0) fails in
            record {
              counts = omega (arith, ap (λ (t : Total). t.count) there, ap (λ (b : Bool). cond {A = ℕ} b 1 0) fails);
              sizes = omega (arith, ap (λ (t : Total). t.bytes) there);
              small = omega arith;
            }

-- the totals of the objects from one number on, before another
module _ (dump : Dump) (ks ls : List Reached) (start : ℕ) where
  pub no-moves-between : (totals : List Total) → totals ≡ replicate 36 no_total → AreMovesBetween dump ks ls start start totals
  no-moves-between totals is = rw is (record {
    whole = refl;
    each = λ place lt. subst (IsTotalBetween dump (is_moved_at ks ls place) start start) (sym (get_or-replicate_at place lt))
        (none-between dump (is_moved_at ks ls place) start);
  })
    where
      get_or-replicate_at : (place : ℕ) → place < 36 → get_or (replicate 36 no_total) place no_total ≡ no_total
      get_or-replicate_at place lt = get_or-replicate 36 place no_total no_total lt

  module _ (k : ℕ) (totals : List Total) (h : AreMovesBetween dump ks ls start k totals) where
    pub moves-more : (new : List Total) → AreMovesWith dump ks ls k totals new → AreMovesBetween dump ks ls start (k + 1) new
    moves-more new with = record {
      whole = with.whole;
      each = λ place lt. one-more dump (is_moved_at ks ls place) start k (get_or totals place no_total) (get_or new place no_total) (with.each place lt)
          (h.each place lt);
    }

    pub moves-quiet : (m : ℕ) → k ≤ m → ((o : ℕ) → k ≤ o → o < m → strength_in ks o ≡ strength_in ls o) → AreMovesBetween dump ks ls start m totals
    moves-quiet m le same = record {
      whole = h.whole;
      each = λ place lt. quiet-between dump (is_moved_at ks ls place) start k m (get_or totals place no_total) le
          (λ o after before. at-no-place ks ls o (same o after before) place) (h.each place lt);
    }

    pub moves-count-room : k < 2 ^ 32 → (place : ℕ) → place < 36 → (get_or totals place no_total).count + 1 < 2 ^ 64
    moves-count-room few place lt = omega (arith, (h.each place lt).few)

    pub moves-bytes-room : k < 2 ^ 32 → (place : ℕ) → place < 36 → (get_or totals place no_total).bytes + largest_file < 2 ^ 64
    moves-bytes-room few place lt = omega (arith, (h.each place lt).light)
