-- Lemmas on the words between spaces.
use Rattle.std.proofs.Common.{◌≡◌, ◌≢◌, ◌∙◌, ℕ, ◌+◌, ◌-◌, ◌<◌, ◌≤◌, inl, inr, List, [], ◌∷◌, ◌++◌, All, length, get_or, take, drop, false, refl, sym, ap, arith}
use Rattle.std.proofs.Common.{ne_eqb, eq-eqb, take_all, length-take-le, get_or-take, get_or-drop, length-drop, add-zero, take-append-drop}
use Rattle.std.specs.Prelude.{◌==◌, nat_lt, filter}
use Rattle.std.specs.List.{slice_split}
use Rattle.std.proofs.lemmas.Bool.{cases_lt, lt-ltb}
use Rattle.std.proofs.lemmas.List.{drop_more, drop_all, take_rest}
use Rattle.std.proofs.lemmas.List.Elements.{All-from_get_or}
use Rattle.std.proofs.lemmas.List.Splits.{slice_split_none, slice_split_at, slice_split-cons_yes}
use Rattle.hd_words.specs.Words.{words_between}

-- a space before the words changes nothing
pub words_after_space : (b : ℕ) (bs : List ℕ) → b ≡ 32 → words_between (b ∷ bs) ≡ words_between bs
words_after_space b bs h = ap (λ parts. filter (λ word. nat_lt 0 (length word)) parts) (slice_split-cons_yes (λ c. c == 32) b bs (eq-eqb b 32 h))

-- one more space is skipped
pub words_skip : (bs : List ℕ) (i : ℕ) → i < length bs → get_or bs i 0 ≡ 32 → words_between (drop (i + 1) bs) ≡ words_between (drop i bs)
words_skip bs i lt h = sym (ap words_between (drop_more bs i 0 lt) ∙ words_after_space (get_or bs i 0) (drop (i + 1) bs) h)

-- a part with a byte is a word
words_cons : (w : List ℕ) (parts : List (List ℕ)) → 0 < length w → filter (λ word. nat_lt 0 (length word)) (w ∷ parts) ≡ w ∷ filter
    (λ word. nat_lt 0 (length word)) parts
words_cons w parts some = rw (lt-ltb 0 (length w) some) refl

-- no space before n
no_space : (bs : List ℕ) (n : ℕ) → n ≤ length bs → ((k : ℕ) → k < n → get_or bs k 0 ≢ 32) → All (λ b. (b == 32) ≡ false) (take n bs)
no_space bs n within before =
    All-from_get_or (λ b. (b == 32) ≡ false) (take n bs) 0 (λ i lt.
    let few : i < n = omega (arith, length-take-le n bs within) in
    ne_eqb (get_or (take n bs) i 0) 32 (λ e. before i few (sym (get_or-take n bs i 0 few) ∙ e)))

-- the bytes up to the first space are the first word
pub words_first : (bs : List ℕ) (n : ℕ) → 0 < n → n ≤ length bs → ((k : ℕ) → k < n → get_or bs k 0 ≢ 32) → (n < length bs → get_or bs n 0 ≡ 32)
    → words_between bs ≡ take n bs ∷ words_between (drop n bs)
words_first bs n some within before stops =
    let long : 0 < length (take n bs) = omega (arith, length-take-le n bs within) in
    let free : All (λ b. (b == 32) ≡ false) (take n bs) = no_space bs n within before in
    elim (cases_lt n (length bs)) [
      | inl lt ↦
          let split : bs ≡ take n bs ++ get_or bs n 0 ∷ drop (n + 1) bs = sym (take-append-drop n bs) ∙ ap (λ l. take n bs ++ l) (drop_more bs n 0 lt) in
          let parts : slice_split (λ b. b == 32) bs ≡ take n bs ∷ slice_split (λ b. b == 32) (drop (n + 1) bs) =
          ap (slice_split (λ b. b == 32)) split ∙ slice_split_at (λ b. b == 32) (take n bs) (get_or bs n 0) (drop (n + 1) bs) free
          (eq-eqb (get_or bs n 0) 32 (stops lt)) in
          ap (λ l. filter (λ word. nat_lt 0 (length word)) l) parts
          ∙ words_cons (take n bs) (slice_split (λ b. b == 32) (drop (n + 1) bs)) long
          ∙ ap (λ l. take n bs ∷ l) (words_skip bs n lt (stops lt))
      | inr le ↦
          let whole : take n bs ≡ bs = take_all n bs le in
          let parts : slice_split (λ b. b == 32) bs ≡ take n bs ∷ [] =
          ap (slice_split (λ b. b == 32)) (sym whole) ∙ slice_split_none (λ b. b == 32) (take n bs) free in
          ap (λ l. filter (λ word. nat_lt 0 (length word)) l) parts
          ∙ words_cons (take n bs) [] long
          ∙ ap (λ l. take n bs ∷ words_between l) (sym (drop_all n bs le))
    ]

-- the first word of what is left after the spaces
pub words_split : (bs rest : List ℕ) (s e : ℕ) → words_between (drop s bs) ≡ words_between bs → (s < length bs → get_or bs s 0 ≢ 32)
    → rest ≡ take (length bs - s) (drop s bs) → 0 < length rest
    → e ≤ length rest → ((k : ℕ) → k < e → get_or rest k 0 ≢ 32) → (e < length rest → get_or rest e 0 ≡ 32)
    → words_between bs ≡ take e rest ∷ words_between (take (length rest - e) (drop e rest))
words_split bs rest s e words stops is some within before ends =
    let same : rest ≡ drop s bs = is ∙ take_rest bs s in
    let left : length rest ≡ length bs - s = ap length same ∙ length-drop s bs in
    let first : get_or rest 0 0 ≡ get_or bs s 0 = ap (λ l. get_or l 0 0) same ∙ get_or-drop s bs 0 0 ∙ ap (λ k. get_or bs k 0) (add-zero s) in
    let none : e ≡ 0 → get_or bs s 0 ≡ 32 = λ zero. sym first ∙ ap (λ k. get_or rest k 0) (sym zero) ∙ ends (omega arith) in
    let more : 0 < e = elim (cases_lt 0 e) [
      | inl lt ↦ lt
      | inr le ↦ absurd (stops (omega arith) (none (omega arith)))
    ] in
    sym words ∙ ap words_between (sym same) ∙ words_first rest e more within before ends ∙ ap (λ l. take e rest ∷ words_between l) (sym (take_rest rest e))
