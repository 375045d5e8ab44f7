-- The workers' parts together are what one worker reads alone.
use Rattle.std.proofs.Common.{◌≡◌, ℕ, zero, suc, ◌+◌, ◌<◌, ◌≤◌, inl, inr, List, [], ◌∷◌, ◌++◌, length, get_or, Ok, Err, Bor, All, refl, subst, arith}
use Rattle.std.specs.List.{AllZip}
use Rattle.std.proofs.lemmas.List.{get_or_append_left, get_or-append-add, length-append}
use Rattle.std.proofs.lemmas.List.Sums.{sum_by-append, sum_by-cons}
use Rattle.hd_terms.specs.declared.IdSize.{IdSize}
use Rattle.hd_terms.specs.declared.Span.{Span}
use Rattle.hd_terms.specs.declared.errors.ReadFault.{ReadFault}
use Rattle.hd_terms.specs.SubRecords.{Sub}
use Rattle.hd_subs.specs.Joined.{joined}
use Rattle.hd_decode.specs.Bodies.{ReadsBodies, IsBodiesFaultOrMemory, span_total}
use Rattle.hd_decode.specs.Shares.{AreJoined, AreShares, IsFirstFaultOrMemory, IsPart, Part, part_len, share_at, shared, subs_in, whole_parts}
use Rattle.hd_decode.proofs.BodyLemmas.{reads-append, fault-in-front, fault-behind}
use Rattle.hd_decode.proofs.FewLemmas.{subs-few}

-- what holds of each element of two lists holds of each of one
all-front : {X : Type 0} (P : X → Type 0) (xs ys : List X) → All P (xs ++ ys) → All P xs
all-front P xs ys all = λ k d lt. subst P (get_or_append_left xs ys d k lt) (all k d (omega (arith, length-append xs ys)))

all-back : {X : Type 0} (P : X → Type 0) (xs ys : List X) → All P (xs ++ ys) → All P ys
all-back P xs ys all = λ k d lt. subst P (get_or-append-add xs ys k d) (all (length xs + k) d (omega (arith, length-append xs ys)))

-- what holds of each segment holds of each of a share
pub all-of-share : (P : Span → Type 0) (shares : List (Bor (List Span))) (i : ℕ) → i < length shares → All P (shared shares) → All P (share_at shares i)
all-of-share P [] i lt all = absurd (omega arith)
all-of-share P (share ∷ shares) zero lt all = all-front P share.now (shared shares) all
all-of-share P (share ∷ shares) (suc i) lt all = all-of-share P shares i (omega arith) (all-back P share.now (shared shares) all)

module _ (size : IdSize) (bytes : List ℕ) where
  -- each part is that of its share
  abbrev pub AreParts : List (Bor (List Span)) → List Part → Type 0
  AreParts shares parts = AllZip (λ (share : Bor (List Span)) (part : Part). IsPart size bytes share.now part) shares parts

  pub parts-by-number : (d : Part) (shares : List (Bor (List Span))) (parts : List Part) → length parts ≡ length shares
      → ((i : ℕ) → i < length shares → IsPart size bytes (share_at shares i) (get_or parts i d)) → AreParts shares parts
  parts-by-number d [] [] len each = tt
  parts-by-number d [] (part ∷ parts) len each = absurd (omega arith)
  parts-by-number d (share ∷ shares) [] len each = absurd (omega arith)
  parts-by-number d (share ∷ shares) (part ∷ parts) len each =
      (each 0 (omega arith), parts-by-number d shares parts (omega arith) (λ i lt. each (suc i) (omega arith)))

  whole-reads : (shares : List (Bor (List Span))) (lists : List (List Sub)) → AreParts shares (whole_parts lists)
      → ReadsBodies size bytes (shared shares) (joined lists)
  whole-reads [] [] h = record { segments = []; whole = tt; list_is = refl }
  whole-reads [] (l ∷ lists) h = absurd h
  whole-reads (share ∷ shares) [] h = absurd h
  whole-reads (share ∷ shares) (l ∷ lists) h = reads-append size bytes share.now (shared shares) l (joined lists) h.0 (whole-reads shares lists h.1)

  fault-of-all : (shares : List (Bor (List Span))) (lists : List (List Sub)) (f : ReadFault) (after : List Part)
      → AreParts shares (whole_parts lists ++ Err f ∷ after) → IsBodiesFaultOrMemory size bytes (shared shares) f
  fault-of-all [] [] f after h = absurd h
  fault-of-all [] (l ∷ lists) f after h = absurd h
  fault-of-all (share ∷ shares) [] f after h = fault-in-front size bytes share.now (shared shares) f h.0
  fault-of-all (share ∷ shares) (l ∷ lists) f after h = fault-behind size bytes share.now (shared shares) l f h.0 (fault-of-all shares lists f after h.1)

  part-few : (share : List Span) (part : Part) → IsPart size bytes share part → part_len part ≤ span_total share
  part-few share (Ok list) h = subs-few size bytes share list h
  part-few share (Err f) h = omega arith

  parts-few : (shares : List (Bor (List Span))) (parts : List Part) → AreParts shares parts → subs_in parts ≤ span_total (shared shares)
  parts-few [] [] h = omega arith
  parts-few [] (part ∷ parts) h = absurd h
  parts-few (share ∷ shares) [] h = absurd h
  parts-few (share ∷ shares) (part ∷ parts) h =
      omega (
        arith,
        sum_by-cons part_len part parts,
        sum_by-append (λ (s : Span). s.len) share.now
            (shared shares),
        part-few share.now part h.0,
        parts-few shares parts h.1,
      )

  module _ (spans : List Span) (workers : ℕ) (shares : List (Bor (List Span))) (are : AreShares spans workers shares) (parts : List Part)
      (h : AreParts shares parts) where
    pub joined-reads : (list : List Sub) → AreJoined parts list → ReadsBodies size bytes spans list
    joined-reads list j = rw (← are.all, j.list_is) (whole-reads shares j.lists (subst (AreParts shares) j.all h))

    pub fault-is-first : (f : ReadFault) → IsFirstFaultOrMemory parts f → IsBodiesFaultOrMemory size bytes spans f
    fault-is-first f (inl memory) = inl memory
    fault-is-first f (inr first) = rw (← are.all) (fault-of-all shares first.lists f first.after (subst (AreParts shares) first.all h))

    pub subs-in-few : subs_in parts ≤ span_total spans
    subs-in-few = rw (← are.all) (parts-few shares parts h)
