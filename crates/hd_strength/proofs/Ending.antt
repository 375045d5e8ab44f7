use Rattle.std.proofs.Common.{◌≡◌, ◌∙◌, ℕ, zero, suc, ◌+◌, ◌-◌, ◌^◌, ◌<◌, ◌≤◌, inl, inr, Bool, List, [], ◌∷◌, ◌++◌, Contains, append_assoc, length, map, take}
use Rattle.std.proofs.Common.{drop, Some, None, slice_get, refl, sym, ap, subst, arith}
use Rattle.std.specs.Prelude.{⊤}
use Rattle.std.proofs.lemmas.Bool.{cases_lt}
use Rattle.std.proofs.lemmas.List.{get_or_past, append-nil, take_all, drop_all, drop-drop, length-drop}
use Rattle.std.proofs.lemmas.List.Sums.{sum_by-cons}
use Rattle.hd_terms.specs.declared.Event.{Event}
use Rattle.hd_terms.specs.declared.Strength.{Strength}
use Rattle.hd_terms.specs.declared.Strength.TheVariants as strengths
use Rattle.hd_terms.specs.Ranks.{rank}
use Rattle.hd_terms.proofs.RankLemmas.{same_rank, least-positive}
use Rattle.hd_terms.specs.Dump.{Dump}
use Rattle.hd_terms.specs.EditedDump.{standing}
use Rattle.hd_terms.specs.Settled.{Reached, reached_at, unreached}
use Rattle.hd_strength.specs.declared.part.Part.{Part}
use Rattle.hd_strength.specs.Buckets.{bucket}
use Rattle.hd_strength.specs.Found.{seen}
use Rattle.hd_strength.specs.Rows.{edge_at}
use Rattle.hd_strength.specs.Parts.{IsOwn, AreInRow, found_at, found_in, to_do, to_do_in, IsOfferedIn, IsDoneIn, IsAny, HaveComeTo, HasRelaxed, HaveEachRelaxed}
use Rattle.hd_strength.specs.Parts.{HaveFound, HaveNotFailed}
use Rattle.hd_strength.proofs.Lists.{Contains-nil}
use Rattle.hd_strength.proofs.Rowed.{row-le, row-holder, slice_get_behind, set_behind}
use Rattle.hd_strength.proofs.Grow.{settled_in_the_end}
use Rattle.hd_strength.proofs.Spreading.{rows_of}

-- each part has relaxed, one like the other
abbrev pub HaveRelaxed : Dump → List Event → Strength → List Part → List Part → Type 0
HaveRelaxed dump log s [] [] = ⊤
HaveRelaxed dump log s [] (q ∷ qs) = ⊥
HaveRelaxed dump log s (p ∷ ps) [] = ⊥
HaveRelaxed dump log s (p ∷ ps) (q ∷ qs) = HasRelaxed dump log s p q × HaveRelaxed dump log s ps qs

-- by their places
pub have_relaxed : (dump : Dump) (log : List Event) (s : Strength) (ps qs : List Part) → length qs ≡ length ps
    → ((k : ℕ) (p q : Part) → slice_get ps k ≡ Some p → slice_get qs k ≡ Some q → HasRelaxed dump log s p q) → HaveRelaxed dump log s ps qs
have_relaxed dump log s [] [] same each = tt
have_relaxed dump log s [] (q ∷ qs) same each = absurd (omega (arith, same))
have_relaxed dump log s (p ∷ ps) [] same each = absurd (omega (arith, same))
have_relaxed dump log s (p ∷ ps) (q ∷ qs) same each =
    (each 0 p q refl refl, have_relaxed dump log s ps qs (omega (arith, same)) (λ k p q there here. each (suc k) p q there here))

-- a search goes on when all its parts have relaxed
pub all_go_on : (dump : Dump) (log : List Event) (whole : Bool) (s : Strength) (before ps qs : List Part) → HaveRelaxed dump log s ps qs
    → HaveComeTo dump log whole s (before ++ ps) → HaveComeTo dump log whole s (before ++ qs)
all_go_on dump log whole s before [] [] each h = h
all_go_on dump log whole s before [] (q ∷ qs) each h = absurd each
all_go_on dump log whole s before (p ∷ ps) [] each h = absurd each
all_go_on dump log whole s before (p ∷ ps) (q ∷ qs) each h =
    let step : HaveComeTo dump log whole s (before ++ q ∷ ps) = subst (HaveComeTo dump log whole s) (set_behind before ps p q)
    (each.0.gone_on.goes_on whole (before ++ p ∷ ps) (length before) (slice_get_behind before ps p) h) in
    subst (HaveComeTo dump log whole s) (append_assoc before (q ∷ []) qs)
    (all_go_on dump log whole s (before ++ q ∷ []) ps qs each.1 (subst (HaveComeTo dump log whole s) (sym (append_assoc before (q ∷ []) ps)) step))

-- they have no more to do
pub all-no_more : (dump : Dump) (log : List Event) (s : Strength) (ps qs : List Part) → HaveRelaxed dump log s ps qs → to_do_in qs ≤ to_do_in ps
all-no_more dump log s [] [] each = omega arith
all-no_more dump log s [] (q ∷ qs) each = absurd each
all-no_more dump log s (p ∷ ps) [] each = absurd each
all-no_more dump log s (p ∷ ps) (q ∷ qs) each =
    omega (arith, sum_by-cons to_do p ps, sum_by-cons to_do q qs, each.0.gone_on.no_more, all-no_more dump log s ps qs each.1)

-- and less, if one has objects that wait
pub all-less : (dump : Dump) (log : List Event) (s : Strength) (ps qs : List Part) (k : ℕ) (p : Part) → HaveRelaxed dump log s ps qs → slice_get ps k ≡ Some p
    → 0 < length p.queue → to_do_in qs < to_do_in ps
all-less dump log s [] qs k p each there some = let no : None ≡ Some p = there in absurd (cc)
all-less dump log s (x ∷ ps) [] k p each there some = absurd each
all-less dump log s (x ∷ ps) (q ∷ qs) zero p each there some =
    let both : Some x ≡ Some p = there in
    let is : p ≡ x = cc in
    omega (
      arith,
      sum_by-cons to_do x ps,
      sum_by-cons to_do q qs,
      each.0.less
          (omega (arith, some, ap (λ (p : Part). length p.queue) is)),
      all-no_more dump log s ps qs each.1,
    )
all-less dump log s (x ∷ ps) (q ∷ qs) (suc k) p each there some =
    omega (arith, sum_by-cons to_do x ps, sum_by-cons to_do q qs, each.0.gone_on.no_more, all-less dump log s ps qs k p each.1 there some)

-- what stands behind a place
drop-at : (ks : List Reached) (n i : ℕ) → reached_at (drop n ks) i ≡ reached_at ks (n + i)
drop-at ks zero i = let n : i ≡ 0 + i = omega arith in ap (reached_at ks) n
drop-at [] (suc n) i = refl
drop-at (k ∷ ks) (suc n) i = let m : suc (n + i) ≡ suc n + i = omega arith in drop-at ks n i ∙ ap (reached_at (k ∷ ks)) m

-- a list that is seen of the first elements, and one that is seen of the others
seen-parts : (f : Reached → Reached) (xs ys ks : List Reached) → length xs ≤ length ks → ((i : ℕ) → i < length xs → reached_at xs i ≡ f (reached_at ks i))
    → ys ≡ map f (drop (length xs) ks) → xs ++ ys ≡ map f ks
seen-parts f [] ys ks le first rest = rest
seen-parts f (x ∷ xs) ys [] le first rest = absurd (omega arith)
seen-parts f (x ∷ xs) ys (k ∷ ks) le first rest =
    let head : x ≡ f k = first 0 (omega arith) in
    let tail : xs ++ ys ≡ map f ks = seen-parts f xs ys ks (omega arith) (λ i lt. first (suc i) (omega arith)) rest in
    ap (λ (z : Reached). z ∷ (xs ++ ys)) head ∙ ap (λ (zs : List Reached). f k ∷ zs) tail

-- parts in a row that find what is kept of their own, find what is kept from the first on
found-row : (whole : Bool) (ks : List Reached) (ps : List Part) (first : ℕ) → AreInRow first ps (length ks)
    → ((k : ℕ) (p : Part) (o : ℕ) → slice_get ps k ≡ Some p → IsOwn p o → found_at p o ≡ seen whole (reached_at ks o))
    → found_in ps ≡ map (seen whole) (drop first ks)
found-row whole ks [] first row own = sym (ap (map (seen whole)) (drop_all first ks (omega (arith, row))))
found-row whole ks (p ∷ ps) first row own =
    let xs : List Reached = p.found.list in
    let le : first + length xs ≤ length ks = row-le ps (first + length xs) (length ks) row.1 in
    let later : found_in ps ≡ map (seen whole) (drop (first + length xs) ks) =
    found-row whole ks ps (first + length xs) row.1 (λ k q o there mine. own (suc k) q o there mine) in
    seen-parts (seen whole) xs (found_in ps) (drop first ks) (omega (arith, length-drop first ks))
    (λ i lt.
    let mine : IsOwn p (first + i) = record { first = omega (arith, row.0); last = omega (arith, row.0) } in
    let index : first + i - p.first ≡ i = omega (arith, row.0) in
    ap (reached_at xs) (sym index) ∙ own 0 p (first + i) refl mine ∙ ap (seen whole) (sym (drop-at ks first i)))
    (later ∙ ap (map (seen whole)) (sym (drop-drop (length xs) first ks)))

-- parts that say for themselves how many objects there are, or none
few_objects : (dump : Dump) (parts : List Part) → AreInRow 0 parts (length dump.objects)
    → ((k : ℕ) (p : Part) → slice_get parts k ≡ Some p → length dump.objects < 2 ^ 32) → length dump.objects < 2 ^ 32
few_objects dump [] row each = omega (arith, row)
few_objects dump (p ∷ ps) row each = each 0 p refl

-- nothing is left of any strength
pub ends : (dump : Dump) (log : List Event) (whole : Bool) (parts : List Part) → HaveComeTo dump log whole strengths.Unreachable parts
    → HaveFound dump log whole parts
ends dump log whole parts h =
    let ks : List Reached = h.kept in
    record {
      kept = ks;
      found = found-row whole ks parts 0 (subst (AreInRow 0 parts) (sym h.holds.objects) h.holds.row) (λ k p o there mine. (h.holds.each k p there).own o mine);
      alike = λ k p there. (h.holds.each k p there).alike;
      holds = record {
        count = h.holds.objects;
        few = few_objects dump parts h.holds.row (λ k p there. (h.holds.each k p there).fit.few);
        settled = settled_in_the_end (standing dump log) (edge_at dump log) (rows_of dump log) ks (IsOfferedIn parts) strengths.Unreachable
            (rank strengths.Unreachable + 1) (λ o i. IsDoneIn parts o × IsAny o i) h.holds.growing
            (λ t x c.
            let none : t ≡ strengths.Unreachable = same_rank t strengths.Unreachable (omega (arith, h.holds.growing.ceiling t x c)) in
            Contains-nil x (subst (λ (t : Strength). Contains (bucket c.part.buckets t) x) none c.made))
            (λ o i. (λ k p there c. absurd (omega (arith, ((h.holds.each k p there).fit.queued o c).2, least-positive dump.mode)), record {}));
        stamps = λ o. elim (cases_lt o (length ks)) [
          | inl lt ↦
              let there = row-holder parts 0 (length dump.objects) o h.holds.row (omega arith) (omega (arith, h.holds.objects)) in
              let q = h.holds.each there.index there.holder.part there.holder.there in
              omega (arith, q.stamps o there.holder.own, q.room)
          | inr past ↦ omega (arith, ap (λ (k : Reached). k.stamp) (get_or_past ks o unreached past))
        ];
      };
    }

-- a list that was lent as a whole
pub lent : (xs ys : List Part) (len : ℕ) → len ≡ length xs → length ys ≡ length xs → take len (ys ++ drop (length ys) xs) ≡ ys
lent xs ys len is same =
    ap (λ (zs : List Part). take len (ys ++ zs)) (drop_all (length ys) xs (omega (arith, same)))
    ∙ ap (take len) (append-nil ys)
    ∙ take_all len ys (omega (arith, same, is))

-- each part of a list that was lent has relaxed, if memory ran out in none
pub each_relaxed : (dump : Dump) (log : List Event) (s : Strength) (old sent new now : List Part) → sent ≡ old → now ≡ new → length new ≡ length sent
    → HaveEachRelaxed dump log s sent new → HaveNotFailed now → HaveRelaxed dump log s old new
each_relaxed dump log s old sent new now same after count each well =
    have_relaxed dump log s old new (count ∙ ap length same)
    (λ k p q there here. each k p q (subst (λ (ps : List Part). slice_get ps k ≡ Some p) (sym same) there) here
    (well k q (subst (λ (ps : List Part). slice_get ps k ≡ Some q) (sym after) here)))
