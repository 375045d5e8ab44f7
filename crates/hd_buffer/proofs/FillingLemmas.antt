-- Runs of bytes that calls of a function fill.
use Rattle.std.proofs.Common.{◌≡◌, ℕ, ◌+◌, List, [], ◌∷◌, ◌++◌, length, sym, subst, arith, replicate}
use mathlib.Core.List.{append-nil, append_assoc}
use lib.ListN.{length-append}
use denote.Param.Members.{Shared}
use denote.MutBor.{MutBor}
use Rattle.std.specs.Fork.{ChangesAt}
use Rattle.hd_buffer.specs.Filling.{FilledFrom, no_run, one_more}

module _ {F : Type 0} (g : Shared F (ℕ × (MutBor (List ℕ) × Unit {0})) (Unit {0} × (MutBor (List ℕ) × Unit {0}))) (f : F) (start : ℕ) where
  -- no bytes
  pub nothing-filled : (xs : List ℕ) → length xs ≡ 0 → FilledFrom g f start xs
  nothing-filled [] none = no_run
  nothing-filled (x ∷ xs) none = absurd (omega arith)

  -- one more run, at the place where the bytes before it end
  pub more-filled : (xs ys : List ℕ) (n : ℕ) → n ≡ length xs → FilledFrom g f start xs → ChangesAt g f (start + n) (replicate (length ys) 0) ys
      → FilledFrom g f start (xs ++ ys)
  more-filled xs ys n long filled call = one_more xs ys filled (subst (λ k. ChangesAt g f (start + k) (replicate (length ys) 0) ys) long call)

  -- bytes directly after others
  pub both-filled : (xs : List ℕ) (n : ℕ) → n ≡ length xs → FilledFrom g f start xs → (ys : List ℕ) → FilledFrom g f (start + n) ys
      → FilledFrom g f start (xs ++ ys)
  both-filled xs n long filled _ no_run = subst (FilledFrom g f start) (sym (append-nil xs)) filled
  both-filled xs n long filled _ (one_more ys zs before call) =
      let sum = length-append xs ys in
      let place : start + n + length ys ≡ start + length (xs ++ ys) = omega arith in
      subst (FilledFrom g f start) (append_assoc xs ys zs)
      (one_more (xs ++ ys) zs (both-filled xs n long filled ys before) (subst (λ k. ChangesAt g f k (replicate (length zs) 0) zs) place call))
