-- Lemmas on the lines of what was read, and on what is kept of one.
use Rattle.std.proofs.Common.{◌≡◌, ◌∙◌, ℕ, ◌<◌, ◌≤◌, inl, inr, Bool, true, false, cond, List, [], ◌∷◌, ◌++◌, length, refl, sym, ap, arith, append_assoc}
use Rattle.std.proofs.Common.{append-nil, take_all, take-take, length-take, length-take-le, length-append}
use Rattle.std.specs.Prelude.{◌==◌, nat_lt, if◌then◌else◌, Err}
use Rattle.std.specs.List.{onto_first}
use Rattle.std.proofs.lemmas.Bool.{cases_lt, lt-ltb}
use Rattle.std.proofs.lemmas.List.{take-append-le}
use Rattle.hd_lines.specs.declared.commands.LineFault.TheVariants as line_faults
use Rattle.hd_lines.specs.Lines.{pieces, all_but_last, without_empty_end, whole_lines, lines_of, run_lines, is_quit, command_of, command_of_words, last_of}
use Rattle.hd_lines.specs.Lines.{last_word, words_of}
use Rattle.hd_protocol.specs.Steps.{last_piece, open_line, kept_of, NoneQuits}

-- a list with a first
record IsCons (ps : List (List ℕ)) : Type 0 where
  head : List ℕ
  tail : List (List ℕ)
  is : ps ≡ head ∷ tail

cons_step : (b : Bool) (x : ℕ) (ps : List (List ℕ)) → IsCons (cond b ([] ∷ ps) (onto_first x ps))
cons_step true x ps = record { head = []; tail = ps; is = refl }
cons_step false x [] = record { head = x ∷ []; tail = []; is = refl }
cons_step false x (p ∷ ps) = record { head = x ∷ p; tail = ps; is = refl }

-- there is a piece
some_piece : (xs : List ℕ) → IsCons (pieces xs)
some_piece [] = record { head = []; tail = []; is = refl }
some_piece (x ∷ xs) = cons_step (x == 10) x (pieces xs)

-- what follows makes `f l` of an open line l
module _ (f : List ℕ → List (List ℕ)) (onto : (x : ℕ) (l : List ℕ) → onto_first x (f l) ≡ f (x ∷ l)) where
  tail_step : (b : Bool) (x : ℕ) (q : List ℕ) (qs : List (List ℕ))
      → cond b ([] ∷ (all_but_last (q ∷ qs) ++ f (last_piece (q ∷ qs)))) (onto_first x (all_but_last (q ∷ qs) ++ f (last_piece (q ∷ qs))))
      ≡ all_but_last (cond b ([] ∷ q ∷ qs) (onto_first x (q ∷ qs))) ++ f (last_piece (cond b ([] ∷ q ∷ qs) (onto_first x (q ∷ qs))))
  tail_step true x q qs = refl
  tail_step false x q [] = onto x q
  tail_step false x q (r ∷ rs) = refl

  tail_at : (b : Bool) (x : ℕ) (ps : List (List ℕ)) → IsCons ps
      → cond b ([] ∷ (all_but_last ps ++ f (last_piece ps))) (onto_first x (all_but_last ps ++ f (last_piece ps)))
      ≡ all_but_last (cond b ([] ∷ ps) (onto_first x ps)) ++ f (last_piece (cond b ([] ∷ ps) (onto_first x ps)))
  tail_at b x ps h = rw h.is (tail_step b x h.head h.tail)

  -- the pieces of what was read and of what follows
  pieces_append : (ys : List ℕ) → pieces ys ≡ f [] → (xs : List ℕ) → pieces (xs ++ ys) ≡ whole_lines xs ++ f (open_line xs)
  pieces_append ys none [] = none
  pieces_append ys none (x ∷ xs) =
      ap (λ ps. cond (x == 10) ([] ∷ ps) (onto_first x ps)) (pieces_append ys none xs)
      ∙ tail_at (x == 10) x (pieces xs) (some_piece xs)

-- the whole lines and the open one
pub pieces_are : (xs : List ℕ) → pieces xs ≡ whole_lines xs ++ open_line xs ∷ []
pieces_are xs = ap pieces (sym (append-nil xs)) ∙ pieces_append (λ l. l ∷ []) (λ x l. refl) [] refl xs

-- a newline ends the open line
pub pieces_newline : (xs ys : List ℕ) → pieces (xs ++ 10 ∷ ys) ≡ whole_lines xs ++ open_line xs ∷ pieces ys
pieces_newline xs ys = pieces_append (λ l. l ∷ pieces ys) (λ x l. refl) (10 ∷ ys) refl xs

-- any other byte goes onto it
pieces_other : (xs : List ℕ) (b : ℕ) → (b == 10) ≡ false → pieces (xs ++ b ∷ []) ≡ whole_lines xs ++ (open_line xs ++ b ∷ []) ∷ []
pieces_other xs b h = pieces_append (λ l. (l ++ b ∷ []) ∷ []) (λ x l. refl) (b ∷ []) (ap (λ t. cond t ([] ∷ [] ∷ []) ((b ∷ []) ∷ [])) h) xs

all_but_last-push : (xs : List (List ℕ)) (x : List ℕ) → all_but_last (xs ++ x ∷ []) ≡ xs
all_but_last-push [] x = refl
all_but_last-push (y ∷ []) x = refl
all_but_last-push (y ∷ z ∷ zs) x = ap (λ l. y ∷ l) (all_but_last-push (z ∷ zs) x)

last_piece-push : (xs : List (List ℕ)) (x : List ℕ) → last_piece (xs ++ x ∷ []) ≡ x
last_piece-push [] x = refl
last_piece-push (y ∷ []) x = refl
last_piece-push (y ∷ z ∷ zs) x = last_piece-push (z ∷ zs) x

newline_last : (xs : List ℕ) → pieces (xs ++ 10 ∷ []) ≡ (whole_lines xs ++ open_line xs ∷ []) ++ [] ∷ []
newline_last xs = pieces_newline xs [] ∙ sym (append_assoc (whole_lines xs) (open_line xs ∷ []) ([] ∷ []))

pub whole_lines-newline : (xs : List ℕ) → whole_lines (xs ++ 10 ∷ []) ≡ whole_lines xs ++ open_line xs ∷ []
whole_lines-newline xs = ap all_but_last (newline_last xs) ∙ all_but_last-push (whole_lines xs ++ open_line xs ∷ []) []

pub open_line-newline : (xs : List ℕ) → open_line (xs ++ 10 ∷ []) ≡ []
open_line-newline xs = ap last_piece (newline_last xs) ∙ last_piece-push (whole_lines xs ++ open_line xs ∷ []) []

pub whole_lines-other : (xs : List ℕ) (b : ℕ) → (b == 10) ≡ false → whole_lines (xs ++ b ∷ []) ≡ whole_lines xs
whole_lines-other xs b h = ap all_but_last (pieces_other xs b h) ∙ all_but_last-push (whole_lines xs) (open_line xs ++ b ∷ [])

pub open_line-other : (xs : List ℕ) (b : ℕ) → (b == 10) ≡ false → open_line (xs ++ b ∷ []) ≡ open_line xs ++ b ∷ []
open_line-other xs b h = ap last_piece (pieces_other xs b h) ∙ last_piece-push (whole_lines xs) (open_line xs ++ b ∷ [])

-- only the end is looked at
end_cons : (x y : List ℕ) (ys : List (List ℕ)) → without_empty_end (x ∷ y ∷ ys) ≡ x ∷ without_empty_end (y ∷ ys)
end_cons [] y ys = refl
end_cons (b ∷ bs) y ys = refl

end_append : (xs : List (List ℕ)) (y : List ℕ) (ys : List (List ℕ)) → without_empty_end (xs ++ y ∷ ys) ≡ xs ++ without_empty_end (y ∷ ys)
end_append [] y ys = refl
end_append (x ∷ []) y ys = end_cons x y ys
end_append (x ∷ z ∷ zs) y ys = end_cons x z (zs ++ y ∷ ys) ∙ ap (λ l. x ∷ l) (end_append (z ∷ zs) y ys)

end_none : (x : List ℕ) → length x ≡ 0 → without_empty_end (x ∷ []) ≡ []
end_none [] h = refl
end_none (b ∷ bs) h = absurd (omega arith)

end_some : (x : List ℕ) → 0 < length x → without_empty_end (x ∷ []) ≡ x ∷ []
end_some [] h = absurd (omega arith)
end_some (b ∷ bs) h = refl

-- at the end of the input an open line with no byte is none
pub lines_of-none : (xs : List ℕ) → length (open_line xs) ≡ 0 → lines_of xs ≡ whole_lines xs
lines_of-none xs h =
    ap without_empty_end (pieces_are xs) ∙ end_append (whole_lines xs) (open_line xs) []
    ∙ ap (λ l. whole_lines xs ++ l) (end_none (open_line xs) h) ∙ append-nil (whole_lines xs)

-- and one with a byte is a line
pub lines_of-some : (xs : List ℕ) → 0 < length (open_line xs) → lines_of xs ≡ whole_lines xs ++ open_line xs ∷ []
lines_of-some xs h =
    ap without_empty_end (pieces_are xs) ∙ end_append (whole_lines xs) (open_line xs) []
    ∙ ap (λ l. whole_lines xs ++ l) (end_some (open_line xs) h)

-- the line that a newline ends comes before what follows
pub lines_of-newline : (xs ys : List ℕ) → lines_of (xs ++ 10 ∷ ys) ≡ whole_lines xs ++ open_line xs ∷ lines_of ys
lines_of-newline xs ys =
    let more = some_piece ys in
    ap without_empty_end (pieces_newline xs ys)
    ∙ end_append (whole_lines xs) (open_line xs) (pieces ys)
    ∙ ap (λ l. whole_lines xs ++ l) (
    ap (λ ps. without_empty_end (open_line xs ∷ ps)) more.is
    ∙ end_cons (open_line xs) more.head more.tail
    ∙ ap (λ ps. open_line xs ∷ without_empty_end ps) (sym more.is)
    )

-- lines that aren't `quit` are all run
pub run_lines-append : (xs ys : List (List ℕ)) → NoneQuits xs → run_lines (xs ++ ys) ≡ xs ++ run_lines ys
run_lines-append [] ys h = refl
run_lines-append (x ∷ xs) ys h =
    ap (λ t. cond t (x ∷ []) (x ∷ run_lines (xs ++ ys))) h.0 ∙ ap (λ l. x ∷ l) (run_lines-append xs ys h.1)

pub run_lines-all : (xs : List (List ℕ)) → NoneQuits xs → run_lines xs ≡ xs
run_lines-all xs h = ap run_lines (sym (append-nil xs)) ∙ run_lines-append xs [] h ∙ append-nil xs

-- the last line is run, `quit` or not
one_line : (b : Bool) (x : List ℕ) → cond b (x ∷ []) (x ∷ []) ≡ x ∷ []
one_line true x = refl
one_line false x = refl

pub run_lines-push : (xs : List (List ℕ)) (x : List ℕ) → NoneQuits xs → run_lines (xs ++ x ∷ []) ≡ xs ++ x ∷ []
run_lines-push xs x h = run_lines-append xs (x ∷ []) h ∙ ap (λ l. xs ++ l) (one_line (is_quit x) x)

-- what follows `quit` is not run
pub run_lines-quit : (xs : List (List ℕ)) (x : List ℕ) (ys : List (List ℕ)) → NoneQuits xs → is_quit x ≡ true → run_lines (xs ++ x ∷ ys) ≡ xs ++ x ∷ []
run_lines-quit xs x ys h quits = run_lines-append xs (x ∷ ys) h ∙ ap (λ t. xs ++ cond t (x ∷ []) (x ∷ run_lines ys)) quits

-- what is kept of a line is enough for what is said of lines that aren't too long
kept-enough : {X : Type 0} (long : X) (short : List ℕ → X) (line : List ℕ)
    → (if nat_lt 4096 (length (kept_of line)) then long else short (kept_of line)) ≡ (if nat_lt 4096 (length line) then long else short line)
kept-enough long short line = elim (cases_lt 4096 (length line)) [
  | inl lt ↦
      let kept : length (kept_of line) ≡ 4097 = length-take-le 4097 line (omega arith) in
      let kept_long : nat_lt 4096 (length (kept_of line)) ≡ true = lt-ltb 4096 (length (kept_of line)) (omega arith) in
      let line_long : nat_lt 4096 (length line) ≡ true = lt-ltb 4096 (length line) lt in
      rw (kept_long, line_long) refl
  | inr le ↦ ap (λ (l : List ℕ). if nat_lt 4096 (length l) then long else short l) (take_all 4097 line (omega arith))
]

-- so it spells the same, and has the same last word
pub command_of-kept : (line : List ℕ) → command_of (kept_of line) ≡ command_of line
command_of-kept line = kept-enough (Err line_faults.LineTooLong) (λ (l : List ℕ). command_of_words (words_of l)) line

pub last_word-kept : (line : List ℕ) → last_word (kept_of line) ≡ last_word line
last_word-kept line = kept-enough [] (λ (l : List ℕ). last_of [] (words_of l)) line

-- one more byte of a line
pub kept_of-push : (line : List ℕ) (b : ℕ) → kept_of (kept_of line ++ b ∷ []) ≡ kept_of (line ++ b ∷ [])
kept_of-push line b = elim (cases_lt (length line) 4097) [
  | inl lt ↦ ap (λ l. kept_of (l ++ b ∷ [])) (take_all 4097 line (omega arith))
  | inr le ↦
      let long : length (kept_of line) ≡ 4097 = length-take-le 4097 line le in
      take-append-le 4097 (kept_of line) (b ∷ []) (omega arith) ∙ take-take 4097 4097 line (omega arith) ∙ sym (take-append-le 4097 line (b ∷ []) le)
]

-- a line that is kept has a byte where it has one
pub kept_of-none : (line : List ℕ) → length (kept_of line) ≡ 0 → length line ≡ 0
kept_of-none line h = omega (arith, length-take 4097 line)

pub kept_of-some : (line : List ℕ) → 0 < length (kept_of line) → 0 < length line
kept_of-some line h = omega (arith, length-take 4097 line)

-- a kept line with room for one more byte, and one without
pub kept_of-room : (kept : List ℕ) (b : ℕ) → length kept < 4097 → kept ++ b ∷ [] ≡ kept_of (kept ++ b ∷ [])
kept_of-room kept b lt = sym (take_all 4097 (kept ++ b ∷ []) (omega (arith, length-append kept (b ∷ []))))

pub kept_of-full : (kept : List ℕ) (b : ℕ) → 4097 ≤ length kept → length kept ≤ 4097 → kept ≡ kept_of (kept ++ b ∷ [])
kept_of-full kept b ge le = sym (take-append-le 4097 kept (b ∷ []) ge ∙ take_all 4097 kept le)
