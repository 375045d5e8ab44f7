-- Totals of some of the objects: one more is counted, and two parts are joined.
use Rattle.std.proofs.Common.{◌≡◌, ◌≢◌, ◌∙◌, ℕ, suc, ◌+◌, ◌-◌, ◌%◌, ◌<◌, ◌≤◌, ◌^◌, Bool, inl, inr, List, [], length, get_or, Contains, refl, sym, ap, subst}
use Rattle.std.proofs.Common.{arith}
use Rattle.std.specs.Prelude.{count_by, nat_eq, sum_by}
use Rattle.std.specs.List.{IsDistinct, range_with_len}
use Rattle.std.proofs.lemmas.Bool.{cases_eq, cases_lt}
use Rattle.std.proofs.lemmas.List.{get_or_past, length-append}
use Rattle.hd_terms.specs.declared.Group.{Group}
use Rattle.hd_terms.specs.declared.Group.TheVariants as groups
use Rattle.hd_terms.specs.declared.Strength.{Strength}
use Rattle.hd_terms.specs.Dump.{Dump, object_at}
use Rattle.hd_terms.specs.Listed.{group_key}
use Rattle.hd_terms.specs.Records.{largest_file}
use Rattle.hd_terms.specs.Settled.{Reached}
use Rattle.hd_totals.specs.declared.total.Total.{Total}
use Rattle.hd_totals.specs.declared.total.StrengthTotals.{StrengthTotals}
use Rattle.hd_totals.specs.Counting.{totals_of, AreTotalsBetween, AreJoined, IsShare}
use Rattle.hd_totals.specs.declared.counting.Share.{Share}
use Rattle.hd_totals.specs.GroupPages.{pages_behind, PageMarks, AreWhole, IsNoted}
use Rattle.hd_totals.specs.LastChanges.{page_of}
use Rattle.hd_totals.specs.Members.{bytes_if, InRange}
use Rattle.hd_totals.specs.Running.{counts_for, strength_in, plus_one, IsRowPut}
use Rattle.hd_totals.specs.Totals.{Totals, no_totals, total_for, total_in, row_at, place_of, sums_of, AreTotals}
use Rattle.hd_totals.proofs.GroupPageLemmas.{noted-earlier, noted-later}
use Rattle.hd_totals.proofs.Joining.{AreJoining}
use Rattle.hd_totals.proofs.RowLemmas.{at-place, placed, place-of-key, row-of-key}
use Rattle.hd_totals.proofs.RunningLemmas.{cond-le, one-counted}
use Rattle.hd_totals.proofs.SumLemmas.{one_if, count_suc, sum_suc}
use Rattle.hd_totals.proofs.TotalLemmas.{total-none, total-sums, sums-none}

-- no object
pub none-between : (dump : Dump) (strength : ℕ → Strength) (start : ℕ) → AreTotalsBetween dump strength start start (record { keys = []; rows = [] })
none-between dump strength start = record {
  counts = λ group s r. omega (arith, ap (λ (t : Total). t.count) (total-none s));
  bytes = λ group s r. omega (arith, ap (λ (t : Total). t.bytes) (total-none s));
  few = λ group s r. omega (arith, ap (λ (t : Total). t.count) (total-none s));
  light = λ group s r. omega (arith, ap (λ (t : Total). t.bytes) (total-none s));
  grouped = λ o le lt. absurd (omega arith);
  in_range = λ o le lt. absurd (omega arith);
  small = λ o le lt. absurd (omega arith);
  few_keys = omega arith;
  whole = refl;
}

-- one more object
module _ (dump : Dump) (strength : ℕ → Strength) (start k : ℕ) (t t' : Totals) (h : AreTotalsBetween dump strength start k t) (order : start ≤ k)
    (range : InRange (object_at dump k).group) (small : (object_at dump k).bytes ≤ largest_file)
    (put : IsRowPut t t' (group_key (object_at dump k).group)
    (plus_one (row_at t (group_key (object_at dump k).group)) (strength k) (object_at dump k).bytes)) where
  next : k + 1 ≡ suc k
  next = omega arith

  here : (Holds : ℕ → Type 0) → ((o : ℕ) → start ≤ o → o < k → Holds o) → Holds k → (o : ℕ) → start ≤ o → o < k + 1 → Holds o
  here Holds before last o le lt = elim (cases_lt o k) [
    | inl earlier ↦ before o le earlier
    | inr after ↦ let is : k ≡ o = omega arith in subst Holds is last
  ]

  count-more : (p : ℕ → Bool) → count_by p (range_with_len 0 (k + 1)) ≡ count_by p (range_with_len 0 k) + one_if (p k)
  count-more p = ap (λ (n : ℕ). count_by p (range_with_len 0 n)) next ∙ count_suc p k

  sum-more : (f : ℕ → ℕ) → sum_by f (range_with_len 0 (k + 1)) ≡ sum_by f (range_with_len 0 k) + f k
  sum-more f = ap (λ (n : ℕ). sum_by f (range_with_len 0 n)) next ∙ sum_suc f k

  pub one-more-between : AreTotalsBetween dump strength start (k + 1) t'
  one-more-between = record {
    counts = λ group s r.
        let one = (one-counted dump strength k t t' range put group s r).0 in
        omega (arith, one, h.counts group s r, count-more (counts_for dump strength group s));
    bytes = λ group s r.
        let one = (one-counted dump strength k t t' range put group s r).1 in
        omega (arith, one, h.bytes group s r, sum-more (bytes_if dump (counts_for dump strength group s)));
    few = λ group s r.
        let one = (one-counted dump strength k t t' range put group s r).0 in
        omega (arith, one, h.few group s r, cond-le (counts_for dump strength group s k) 1 1 (omega arith));
    light = λ group s r.
        let one = (one-counted dump strength k t t' range put group s r).1 in
        omega (arith, one, h.light group s r, cond-le (counts_for dump strength group s k) (object_at dump k).bytes largest_file small);
    grouped = here (λ o. Contains t'.keys (group_key (object_at dump o).group))
        (λ o le lt. put.kept (group_key (object_at dump o).group) (h.grouped o le lt)) put.there;
    in_range = here (λ o. InRange (object_at dump o).group) h.in_range range;
    small = here (λ o. (object_at dump o).bytes ≤ largest_file) h.small small;
    few_keys = omega (arith, put.few, h.few_keys);
    whole = put.whole;
  }

-- the group of a key
pub group-of : (key : ℕ) → key ≤ 18446744073709551872 → (group : Group) × InRange group × (group_key group ≡ key)
group-of key le = elim (cases_lt key 18446744073709551616) [
  | inl class ↦ (groups.Class key, class, refl)
  | inr above ↦ elim (cases_lt key 18446744073709551872) [
    | inl prim ↦ (groups.Prim (key - 18446744073709551616), omega arith, omega arith)
    | inr last ↦ (groups.Classes, tt, omega arith)
  ]
]

-- the totals of one further key are added
module _ (one other : Totals) (i : ℕ) (both : Totals) (h : AreJoining one other i both) (distinct : IsDistinct nat_eq other.keys)
    (whole : length other.rows ≡ length other.keys) (lt : i < length other.rows) where
  abbrev key : ℕ
  key = get_or other.keys i 0

  abbrev further : StrengthTotals
  further = get_or other.rows i no_totals

  there : place_of other key ≡ i
  there = place-of-key other i distinct whole lt

  -- what is there is what the first has
  row-before : row_at both key ≡ row_at one key
  row-before = h.rest key (omega (arith, there))

  row-further : row_at other key ≡ further
  row-further = row-of-key other i distinct whole lt

  -- no sum is too great, where none of a group's is
  module _ (small : key ≤ 18446744073709551872) (s : Strength) where
    pub count-fits : ((group : Group) (s : Strength) → InRange group → (total_in one group s).count + (total_in other group s).count < 2 ^ 64)
        → (total_for (row_at both key) s).count + (total_for further s).count < 2 ^ 64
    count-fits all =
        let of = group-of key small in
        let here = subst (λ (k : ℕ). (total_for (row_at one k) s).count + (total_for (row_at other k) s).count < 2 ^ 64) of.2 (all of.0 s of.1) in
        omega (arith, here, ap (λ (x : StrengthTotals). (total_for x s).count) row-before, ap (λ (x : StrengthTotals). (total_for x s).count) row-further)

    pub bytes-fit-in : ((group : Group) (s : Strength) → InRange group → (total_in one group s).bytes + (total_in other group s).bytes < 2 ^ 64)
        → (total_for (row_at both key) s).bytes + (total_for further s).bytes < 2 ^ 64
    bytes-fit-in all =
        let of = group-of key small in
        let here = subst (λ (k : ℕ). (total_for (row_at one k) s).bytes + (total_for (row_at other k) s).bytes < 2 ^ 64) of.2 (all of.0 s of.1) in
        omega (arith, here, ap (λ (x : StrengthTotals). (total_for x s).bytes) row-before, ap (λ (x : StrengthTotals). (total_for x s).bytes) row-further)

  elsewhere : (k : ℕ) → k ≢ key → place_of other k ≢ i
  elsewhere k differs is =
      let within : place_of other k < length other.keys = omega arith in
      differs (sym (at-place k other.keys within) ∙ ap (λ (j : ℕ). get_or other.keys j 0) is)

  before : (k : ℕ) → k ≢ key → place_of other k < i + 1 → place_of other k < i
  before k differs less = elim (cases_lt (place_of other k) i) [
    | inl earlier ↦ earlier
    | inr later ↦ absurd (elsewhere k differs (omega arith))
  ]

  module _ (both' : Totals) (put : IsRowPut both both' key (sums_of (row_at both key) further)) where
    sum-here : row_at both' key ≡ sums_of (row_at one key) (row_at other key)
    sum-here = put.here ∙ ap (λ (x : StrengthTotals). sums_of x further) row-before ∙ ap (sums_of (row_at one key)) (sym row-further)

    pub joined-more : AreJoining one other (i + 1) both'
    joined-more = record {
      added = λ k less. elim (cases_eq k key) [
        | inl same ↦ subst (λ (x : ℕ). row_at both' x ≡ sums_of (row_at one x) (row_at other x)) (sym same) sum-here
        | inr differ ↦ put.others k differ ∙ h.added k (before k differ less)
      ];
      rest = λ k le.
          let differ : k ≢ key = λ e. let at : place_of other k ≡ i = ap (place_of other) e ∙ there in omega arith in
          put.others k differ ∙ h.rest k (omega arith);
      first = λ k c. put.kept k (h.first k c);
      second = λ k less. elim (cases_eq k key) [
        | inl same ↦ subst (λ (x : ℕ). Contains both'.keys x) (sym same) put.there
        | inr differ ↦ put.kept k (h.second k (before k differ less))
      ];
      few_keys = omega (arith, put.few, h.few_keys);
      whole = put.whole;
    }

pub joined-none : (one other : Totals) → length one.rows ≡ length one.keys → AreJoining one other 0 one
joined-none one other whole = record {
  added = λ k less. absurd (omega arith);
  rest = λ k le. refl;
  first = λ k c. c;
  second = λ k less. absurd (omega arith);
  few_keys = omega arith;
  whole = whole;
}

pub joined-all : (one other both : Totals) → length other.rows ≡ length other.keys → AreJoining one other (length other.keys) both → AreJoined one other both
joined-all one other both whole h = record {
  sums = λ k. elim (cases_lt (place_of other k) (length other.keys)) [
    | inl lt ↦ h.added k lt
    | inr past ↦
        let none : row_at other k ≡ no_totals = get_or_past other.rows (place_of other k) no_totals (omega arith) in
        h.rest k past ∙ sym (sums-none (row_at one k)) ∙ ap (sums_of (row_at one k)) (sym none)
  ];
  first = h.first;
  second = λ k c. h.second k (placed k other.keys c);
  few_keys = h.few_keys;
  whole = h.whole;
}

-- two parts, of which one begins where the other ends
module _ (dump : Dump) (strength : ℕ → Strength) (start middle end : ℕ) (one other : Totals) (first : AreTotalsBetween dump strength start middle one)
    (second : AreTotalsBetween dump strength middle end other) where
  pub counts-fit : end < 2 ^ 32 → (group : Group) (s : Strength) → InRange group → (total_in one group s).count + (total_in other group s).count < 2 ^ 64
  counts-fit few group s r = omega (arith, first.few group s r, second.few group s r)

  pub bytes-fit : end < 2 ^ 32 → (group : Group) (s : Strength) → InRange group → (total_in one group s).bytes + (total_in other group s).bytes < 2 ^ 64
  bytes-fit few group s r = omega (arith, first.light group s r, second.light group s r)

  module _ (both : Totals) (j : AreJoined one other both) where
    count-is : (group : Group) (s : Strength) → (total_in both group s).count ≡ (total_in one group s).count + (total_in other group s).count
    count-is group s = ap (λ (x : StrengthTotals). (total_for x s).count) (j.sums (group_key group))
        ∙ ap (λ (t : Total). t.count) (total-sums (row_at one (group_key group)) (row_at other (group_key group)) s)

    bytes-is : (group : Group) (s : Strength) → (total_in both group s).bytes ≡ (total_in one group s).bytes + (total_in other group s).bytes
    bytes-is group s = ap (λ (x : StrengthTotals). (total_for x s).bytes) (j.sums (group_key group))
        ∙ ap (λ (t : Total). t.bytes) (total-sums (row_at one (group_key group)) (row_at other (group_key group)) s)

    either : (Holds : ℕ → Type 0) → ((o : ℕ) → start ≤ o → o < middle → Holds o) → ((o : ℕ) → middle ≤ o → o < end → Holds o) → (o : ℕ) → start ≤ o → o < end
        → Holds o
    either Holds low high o le lt = elim (cases_lt o middle) [
      | inl below ↦ low o le below
      | inr above ↦ high o (omega arith) lt
    ]

    pub both-between : AreTotalsBetween dump strength start end both
    both-between = record {
      counts = λ group s r. omega (arith, count-is group s, first.counts group s r, second.counts group s r);
      bytes = λ group s r. omega (arith, bytes-is group s, first.bytes group s r, second.bytes group s r);
      few = λ group s r. omega (arith, count-is group s, first.few group s r, second.few group s r);
      light = λ group s r. omega (arith, bytes-is group s, first.light group s r, second.light group s r);
      grouped = either (λ o. Contains both.keys (group_key (object_at dump o).group))
          (λ o le lt. j.first (group_key (object_at dump o).group) (first.grouped o le lt))
          (λ o le lt. j.second (group_key (object_at dump o).group) (second.grouped o le lt));
      in_range = either (λ o. InRange (object_at dump o).group) first.in_range second.in_range;
      small = either (λ o. (object_at dump o).bytes ≤ largest_file) first.small second.small;
      few_keys = omega (arith, j.few_keys, first.few_keys, second.few_keys);
      whole = j.whole;
    }

-- two shares, of which one begins where the other ends, and both with a page
module _ (dump : Dump) (ks : List Reached) (start middle end : ℕ) (one other : Share) (first : IsShare dump ks start middle one)
    (second : IsShare dump ks middle end other) where
  pub both-shares : (both : Share) → start % 1024 ≡ 0 → middle % 1024 ≡ 0 → start ≤ middle → middle ≤ end → AreWhole one.pages
      → AreJoined (totals_of one.counted) (totals_of other.counted) (totals_of both.counted) → both.pages ≡ pages_behind one.pages other.pages
      → IsShare dump ks start end both
  both-shares both begins next order within whole j is = record {
    counted = both-between dump (strength_in ks) start middle end (totals_of one.counted) (totals_of other.counted) first.counted second.counted
        (totals_of both.counted) j;
    room = omega (
      arith,
      ap (λ (p : PageMarks). length p.least) is,
      length-append one.pages.least other.pages.least,
      first.room,
      second.room,
      begins,
      next,
      order,
      within,
    );
    noted = λ o le lt. subst (λ (p : PageMarks). IsNoted p (page_of o - page_of start) (object_at dump o).group (object_at dump o).id) (sym is)
        (elim (cases_lt o middle) [
          | inl below ↦ noted-earlier one.pages other.pages whole (page_of o - page_of start) (object_at dump o).group (object_at dump o).id
              (omega (arith, first.room, begins, next, le, below)) (first.noted o le below)
          | inr above ↦
              let later = noted-later one.pages other.pages whole (page_of o - page_of middle) (object_at dump o).group (object_at dump o).id
              (second.noted o (omega arith) lt) in
              let page : length one.pages.least + (page_of o - page_of middle) ≡ page_of o - page_of start =
              omega (arith, first.room, begins, next, order, above) in
              subst (λ (n : ℕ). IsNoted (pages_behind one.pages other.pages) n (object_at dump o).group (object_at dump o).id) page later
        ]);
  }

-- all objects
pub all-counted : (dump : Dump) (ks : List Reached) (t : Totals) → AreTotalsBetween dump (strength_in ks) 0 (length dump.objects) t
    → length dump.objects < 2 ^ 32 → AreTotals dump ks t
all-counted dump ks t h few = record {
  counts = λ group s r. omega (arith, h.counts group s r);
  bytes = λ group s r. omega (arith, h.bytes group s r);
  grouped = λ o lt. h.grouped o (omega arith) lt;
  in_range = λ o lt. h.in_range o (omega arith) lt;
  small = λ o lt. h.small o (omega arith) lt;
  few = few;
}
