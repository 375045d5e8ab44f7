-- The text of `stat` over a dump is one: tests that decide the same count the same.
use Rattle.std.proofs.Common.{◌≡◌, ◌∙◌, ℕ, zero, suc, ◌+◌, ◌<◌, Bool, true, false, if◌then◌else◌, List, [], ◌∷◌, ◌++◌, length, refl, sym, ap, arith}
use Rattle.std.specs.Prelude.{count_by, decimal}
use Rattle.std.specs.List.{range_with_len, flat_map, fold}
use Rattle.hd_terms.specs.declared.Strength.{Strength}
use Rattle.hd_terms.specs.declared.Strength.TheVariants as strengths
use Rattle.hd_terms.specs.Counts.{counts_of}
use Rattle.hd_terms.specs.Dump.{Dump, object_at}
use Rattle.hd_terms.specs.Totals.{Decides, IsTotalOf}
use Rattle.hd_lines.specs.Replies.{with_newline, strength_name}
use Rattle.hd_lines.specs.Stat.{IsStat, Total, count_lines, total_line, total_lines}

-- two truths that follow from each other are one
same_truth : (a b : Bool) → (a ≡ true → b ≡ true) → (b ≡ true → a ≡ true) → a ≡ b
same_truth true b h k = sym (h refl)
same_truth false true h k = k refl
same_truth false false h k = refl

-- sums of what is the same at each number
same_sum : (f g : ℕ → ℕ) (n a s : ℕ) → ((o : ℕ) → o < a + n → f o ≡ g o)
    → fold (λ t x. t + f x) s (range_with_len a n) ≡ fold (λ t x. t + g x) s (range_with_len a n)
same_sum f g zero a s h = refl
same_sum f g (suc n) a s h =
    same_sum f g n (a + 1) (s + f a) (λ o lt. h o (omega (arith, lt)))
    ∙ ap (λ k. fold (λ t x. t + g x) (s + k) (range_with_len (a + 1) n)) (h a (omega arith))

module _ (dump : Dump) (IsMeant : ℕ → Type 0) where
  -- tests that decide the same answer the same
  same_test : (p q : ℕ → Bool) → Decides dump IsMeant p → Decides dump IsMeant q → (o : ℕ) → o < 0 + length dump.objects → p o ≡ q o
  same_test p q dp dq o lt =
      let within : o < length dump.objects = omega (arith, lt) in
      same_truth (p o) (q o) (λ h. (dq o within).1 ((dp o within).0 h)) (λ h. (dp o within).1 ((dq o within).0 h))

  -- they count as many
  pub same_number : (p q : ℕ → Bool) → Decides dump IsMeant p → Decides dump IsMeant q
      → count_by p (range_with_len 0 (length dump.objects)) ≡ count_by q (range_with_len 0 (length dump.objects))
  same_number p q dp dq =
      same_sum (λ o. if p o then 1 else 0) (λ o. if q o then 1 else 0) (length dump.objects) 0 0
      (λ o lt. ap (λ (h : Bool). if h then 1 else 0) (same_test p q dp dq o lt))

  pub same_count : (a b c d : ℕ) → IsTotalOf dump IsMeant a b → IsTotalOf dump IsMeant c d → a ≡ c
  same_count a b c d t u =
      t.count_is ∙ same_number t.has u.has t.decides u.decides ∙ sym u.count_is

  pub same_bytes : (a b c d : ℕ) → IsTotalOf dump IsMeant a b → IsTotalOf dump IsMeant c d → b ≡ d
  same_bytes a b c d t u =
      t.bytes_is
      ∙ same_sum (λ o. if t.has o then (object_at dump o).bytes else 0) (λ o. if u.has o then (object_at dump o).bytes else 0) (length dump.objects) 0 0
      (λ o lt. ap (λ (h : Bool). if h then (object_at dump o).bytes else 0) (same_test t.has u.has t.decides u.decides o lt))
      ∙ sym u.bytes_is

-- the line of a total goes by its numbers
same_line : (s : Strength) (t u : Total) → t.count ≡ u.count → t.bytes ≡ u.bytes → total_line s t ≡ total_line s u
same_line s t u counts bytes =
    ap (λ (c : ℕ). strength_name s ++ 32 ∷ decimal c ++ 32 ∷ decimal t.bytes) counts
    ∙ ap (λ (b : ℕ). strength_name s ++ 32 ∷ decimal u.count ++ 32 ∷ decimal b) bytes

-- the lines go by each
same_lines : (t u : Strength → Total) → ((s : Strength) → total_line s (t s) ≡ total_line s (u s)) → total_lines t ≡ total_lines u
same_lines t u h =
    ap (λ (x : List ℕ). x ∷ line t strengths.Soft ∷ line t strengths.Weak ∷ line t strengths.Final ∷ line t strengths.Phantom ∷ line t strengths.Unreachable
    ∷ []) (h strengths.Strong)
    ∙ ap (λ (x : List ℕ). line u strengths.Strong ∷ x ∷ line t strengths.Weak ∷ line t strengths.Final ∷ line t strengths.Phantom ∷ line t strengths.Unreachable
    ∷ []) (h strengths.Soft)
    ∙ ap (λ (x : List ℕ). line u strengths.Strong ∷ line u strengths.Soft ∷ x ∷ line t strengths.Final ∷ line t strengths.Phantom ∷ line t strengths.Unreachable
    ∷ []) (h strengths.Weak)
    ∙ ap (λ (x : List ℕ). line u strengths.Strong ∷ line u strengths.Soft ∷ line u strengths.Weak ∷ x ∷ line t strengths.Phantom ∷ line t strengths.Unreachable
    ∷ []) (h strengths.Final)
    ∙ ap (λ (x : List ℕ). line u strengths.Strong ∷ line u strengths.Soft ∷ line u strengths.Weak ∷ line u strengths.Final ∷ x ∷ line t strengths.Unreachable
    ∷ []) (h strengths.Phantom)
    ∙ ap (λ (x : List ℕ). line u strengths.Strong ∷ line u strengths.Soft ∷ line u strengths.Weak ∷ line u strengths.Final ∷ line u strengths.Phantom ∷ x ∷ [])
    (h strengths.Unreachable)
  where
    line : (Strength → Total) → Strength → List ℕ
    line v s = total_line s (v s)

-- the text of `stat` over a dump
pub one_stat : (dump : Dump) (text other : List ℕ) → IsStat dump text → IsStat dump other → text ≡ other
one_stat dump text other a b =
    a.text_is
    ∙ ap (λ (ls : List (List ℕ)). flat_map with_newline (count_lines (counts_of dump) ++ ls))
    (same_lines a.totals b.totals
    (λ s. same_line s (a.totals s) (b.totals s) (same_count dump _ _ _ _ _ (a.are s) (b.are s)) (same_bytes dump _ _ _ _ _ (a.are s) (b.are s))))
    ∙ sym b.text_is
