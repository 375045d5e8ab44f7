-- The objects that pass a test, counted by their groups.
use Rattle.std.proofs.Common.{◌≡◌, ◌∙◌, ℕ, ◌+◌, ◌<◌, ◌≤◌, ◌^◌, Bool, true, false, ◌&&◌, inl, inr, List, [], length, map, cond, get_or, Contains, refl, sym, ap}
use Rattle.std.proofs.Common.{subst, arith, true≢false}
use Rattle.std.specs.List.Sorted.{IsPermutation}
use Rattle.std.proofs.lemmas.Bool.{cases_lt}
use Rattle.std.proofs.lemmas.List.{get_or-map, length-map}
use Rattle.std.proofs.lemmas.List.Elements.{recursion_from_All}
use Rattle.std.proofs.lemmas.List.Sorted.{All-permutation, Contains-permutation, IsPermutation-map, IsPermutation-sym}
use Rattle.hd_terms.specs.declared.ClassRow.{ClassRow}
use Rattle.hd_terms.specs.declared.Group.{Group}
use Rattle.hd_terms.specs.declared.Strength.{Strength}
use Rattle.hd_terms.specs.declared.Strength.TheVariants as strengths
use Rattle.hd_terms.specs.Dump.{Dump, object_at}
use Rattle.hd_terms.specs.Listed.{group_key, AreRanked, AreTopRows, HasMeant, IsMeantIn}
use Rattle.hd_terms.specs.Records.{largest_file}
use Rattle.hd_terms.specs.Totals.{Decides, IsTotalOf}
use Rattle.hd_totals.specs.declared.total.Total.{Total}
use Rattle.hd_totals.specs.Members.{same_group, InRange}
use Rattle.hd_totals.specs.Rows.{row_group, AreRowsOf, IsRowOf}
use Rattle.hd_totals.specs.Running.{counts_for, plus_one, IsRowPut}
use Rattle.hd_totals.specs.Totals.{Totals, plus_object, row_at, total_in}
use Rattle.hd_totals.proofs.GroupLemmas.{itself, one-group}
use Rattle.hd_totals.proofs.RunningLemmas.{cond-le, one-counted}
use Rattle.hd_totals.proofs.TotalLemmas.{total-none}
use Rattle.hd_queries.specs.Between.{IsCountedIf, IsTotalBetween}
use Rattle.hd_queries.specs.Freed.{counts_freed, AreFreedBetween, CanCountMore, IsFreedWith}
use Rattle.hd_queries.proofs.BetweenLemmas.{none-between, one-more, quiet-between, total-of, some-of, count-of}

-- a test that fails, or passes, with another one
fails-with : (a b : Bool) → a ≡ false → (a && b) ≡ false
fails-with false b e = refl
fails-with true b e = absurd (true≢false e)

passes-with : (a b : Bool) → a ≡ true → (a && b) ≡ b
passes-with true b e = refl
passes-with false b e = absurd (true≢false (sym e))

two-true : (a b : Bool) → (a && b) ≡ true → (a ≡ true) × (b ≡ true)
two-true true true e = (refl, refl)
two-true true false e = absurd cc
two-true false b e = absurd cc

module _ (dump : Dump) (test : ℕ → Bool) where
  -- no object
  pub none-freed : (start : ℕ) (total : Total) (groups : Totals) → total ≡ record { count = 0; bytes = 0 } → groups ≡ record { keys = []; rows = [] }
      → AreFreedBetween dump test start start total groups
  none-freed start total groups e f = rw (e, f) (record {
    all = none-between dump test start;
    each = λ group s r. subst (IsTotalBetween dump (counts_freed dump test group s) start start) (sym (total-none s))
        (none-between dump (counts_freed dump test group s) start);
    in_range = λ o le lt passes. absurd (omega arith);
    few_keys = omega arith;
    whole = refl;
  })

  -- more objects, none of which passes
  pub quiet-freed : (start k m : ℕ) (total : Total) (groups : Totals) → k ≤ m → ((o : ℕ) → k ≤ o → o < m → test o ≡ false)
      → AreFreedBetween dump test start k total groups → AreFreedBetween dump test start m total groups
  quiet-freed start k m total groups le quiet h = record {
    all = quiet-between dump test start k m total le quiet h.all;
    each = λ group s r. quiet-between dump (counts_freed dump test group s) start k m (total_in groups group s) le
        (λ o after before. fails-with (test o) (counts_for dump (λ (x : ℕ). strengths.Unreachable) group s o) (quiet o after before)) (h.each group s r);
    in_range = λ o after before passes. elim (cases_lt o k) [
      | inl earlier ↦ h.in_range o after earlier passes
      | inr later ↦ absurd (true≢false (sym passes ∙ quiet o later before))
    ];
    few_keys = omega (arith, h.few_keys);
    whole = h.whole;
  }

  -- one more object, which passes
  module _ (start k : ℕ) (total new : Total) (groups groups' : Totals) (h : AreFreedBetween dump test start k total groups) (passes : test k ≡ true)
      (range : InRange (object_at dump k).group) (small : (object_at dump k).bytes ≤ largest_file) (is : new ≡ plus_object total (object_at dump k).bytes)
      (put : IsRowPut groups groups' (group_key (object_at dump k).group)
      (plus_one (row_at groups (group_key (object_at dump k).group)) strengths.Unreachable (object_at dump k).bytes)) where
    counted-all : IsCountedIf dump test k total new
    counted-all = record {
      counts = ap (λ (t : Total). t.count) is ∙ ap (λ (b : Bool). total.count + cond b 1 0) (sym passes);
      sizes = ap (λ (t : Total). t.bytes) is ∙ ap (λ (b : Bool). total.bytes + cond b (object_at dump k).bytes 0) (sym passes);
      small = cond-le (test k) (object_at dump k).bytes largest_file small;
    }

    counted-in : (group : Group) (s : Strength) → InRange group → IsCountedIf dump (counts_freed dump test group s) k (total_in groups group s)
        (total_in groups' group s)
    counted-in group s r =
        let one = one-counted dump (λ (x : ℕ). strengths.Unreachable) k groups groups' range put group s r in
        let same = passes-with (test k) (counts_for dump (λ (x : ℕ). strengths.Unreachable) group s k) passes in
        record {
          counts = one.0 ∙ ap (λ (b : Bool). (total_in groups group s).count + cond b 1 0) (sym same);
          sizes = one.1 ∙ ap (λ (b : Bool). (total_in groups group s).bytes + cond b (object_at dump k).bytes 0) (sym same);
          small = cond-le (counts_freed dump test group s k) (object_at dump k).bytes largest_file small;
        }

    pub one-freed : AreFreedBetween dump test start (k + 1) new groups'
    one-freed = record {
      all = one-more dump test start k total new counted-all h.all;
      each = λ group s r. one-more dump (counts_freed dump test group s) start k (total_in groups group s) (total_in groups' group s) (counted-in group s r)
          (h.each group s r);
      in_range = λ o after before yes. elim (cases_lt o k) [
        | inl earlier ↦ h.in_range o after earlier yes
        | inr later ↦ let same : k ≡ o = omega arith in subst (λ (x : ℕ). InRange (object_at dump x).group) same range
      ];
      few_keys = omega (arith, put.few, h.few_keys);
      whole = put.whole;
    }

  -- all objects
  module _ (IsMeant : ℕ → Type 0) (decides : Decides dump IsMeant test) (total : Total) (groups : Totals)
      (h : AreFreedBetween dump test 0 (length dump.objects) total groups) where
    pub freed-total : IsTotalOf dump IsMeant total.count total.bytes
    freed-total = total-of dump test IsMeant total decides h.all

    abbrev in-group : Group → ℕ → Bool
    in-group group = counts_freed dump test group strengths.Unreachable

    -- the test of a group decides which objects of it are meant
    decides-in : (group : Group) → Decides dump (IsMeantIn dump IsMeant group) (in-group group)
    decides-in group o within = (
      λ e. (
          let parts = two-true (test o) (same_group (object_at dump o).group group) e in
          (one-group (object_at dump o).group group parts.1, (decides o within).0 parts.0)),
      λ m. passes-with (test o) (same_group (object_at dump o).group group) ((decides o within).1 m.1)
          ∙ subst (λ (g : Group). same_group (object_at dump o).group g ≡ true) m.0 (itself (object_at dump o).group),
    )

    module _ (rows sorted : List ClassRow) (r : AreRowsOf groups strengths.Unreachable rows) (moved : IsPermutation rows sorted)
        (ranks : AreRanked sorted) where
      row-total : (row : ClassRow) → IsRowOf groups strengths.Unreachable row → IsTotalOf dump (IsMeantIn dump IsMeant row.group) row.count row.bytes
      row-total row m = rw (m.count_is, m.bytes_is)
          (total-of dump (in-group row.group) (IsMeantIn dump IsMeant row.group) (total_in groups row.group strengths.Unreachable) (decides-in row.group)
          (h.each row.group strengths.Unreachable m.range))

      listed : (group : Group) → Contains (map row_group rows) group → HasMeant dump IsMeant group
      listed group c =
          let none : ClassRow = record { group = group; count = 0; bytes = 0 } in
          let within : c.0 < length rows = omega (arith, c.1, length-map rows row_group) in
          let row : ClassRow = get_or rows c.0 none in
          let same : row.group ≡ group = sym (get_or-map row_group rows c.0 none group within) ∙ c.2 in
          let m : IsRowOf groups strengths.Unreachable row = r.each c.0 none within in
          let has = some-of dump (in-group row.group) (total_in groups row.group strengths.Unreachable) (h.each row.group strengths.Unreachable m.range)
          (subst (λ (n : ℕ). 1 ≤ n) m.count_is m.some) in
          subst (λ (g : Group). HasMeant dump IsMeant g) same (has.0, has.1, (decides-in row.group has.0 has.1).0 has.2)

      found : (group : Group) → HasMeant dump IsMeant group → Contains (map row_group rows) group
      found group (o, lt, m) =
          let passes : in-group group o ≡ true = (decides-in group o lt).1 m in
          let range : InRange group = subst InRange m.0 (h.in_range o (omega arith) lt ((decides o lt).1 m.1)) in
          r.all group range (count-of dump (in-group group) (total_in groups group strengths.Unreachable)
          (h.each group strengths.Unreachable range) o lt passes)

      pub freed-rows : AreTopRows dump IsMeant sorted
      freed-rows = record {
        ranked = ranks;
        totals = recursion_from_All (λ (row : ClassRow). IsTotalOf dump (IsMeantIn dump IsMeant row.group) row.count row.bytes) sorted
            (All-permutation (λ (row : ClassRow). IsTotalOf dump (IsMeantIn dump IsMeant row.group) row.count row.bytes) rows sorted moved
            (λ j d lt. row-total (get_or rows j d) (r.each j d lt)));
        groups = λ group. (
          λ has. listed group (Contains-permutation (map row_group sorted) (map row_group rows) group
              (IsPermutation-sym (map row_group rows) (map row_group sorted) (IsPermutation-map row_group rows sorted moved)) has),
          λ meant. Contains-permutation (map row_group rows) (map row_group sorted) group (IsPermutation-map row_group rows sorted moved) (found group meant),
        );
      }

  -- one more object
  pub freed-with : (start k : ℕ) (total new : Total) (groups news : Totals) → AreFreedBetween dump test start k total groups
      → IsFreedWith dump test k total groups new news → AreFreedBetween dump test start (k + 1) new news
  freed-with start k total new groups news h with = go (test k) refl
    where
      go : (b : Bool) → test k ≡ b → AreFreedBetween dump test start (k + 1) new news
      go true e = let more = with.passed e in one-freed start k total new groups news h e more.range more.small more.all more.put
      go false e =
          let same = with.failed e in
          rw (same.0, same.1) (quiet-freed start k (k + 1) total groups (omega arith)
          (λ o after before. (let is : k ≡ o = omega arith in subst (λ (x : ℕ). test x ≡ false) is e)) h)

  pub room-for-more : (start k : ℕ) (total : Total) (groups : Totals) → AreFreedBetween dump test start k total groups → k < 2 ^ 32 → CanCountMore total groups
  room-for-more start k total groups h few = record {
    count = omega (arith, h.all.few);
    bytes = omega (arith, h.all.light);
    counts = λ group s r. omega (arith, (h.each group s r).few);
    sizes = λ group s r. omega (arith, (h.each group s r).light);
    whole = h.whole;
  }
