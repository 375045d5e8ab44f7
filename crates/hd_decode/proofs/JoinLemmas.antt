-- Putting the workers' parts together, one after another.
use Rattle.std.proofs.Common.{◌≡◌, ◌∙◌, ◌+◌, ◌≤◌, List, [], ◌∷◌, ◌++◌, length, Ok, Err, refl, sym, ap, arith, append_assoc}
use Rattle.std.proofs.lemmas.List.{append-nil, map_push}
use Rattle.std.proofs.lemmas.List.Concat.{flat_map-append, length-flat_map}
use Rattle.std.proofs.lemmas.List.Sums.{sum_by-append, sum_by-cons}
use Rattle.hd_terms.specs.declared.errors.ReadFault.{ReadFault}
use Rattle.hd_terms.specs.SubRecords.{Sub}
use Rattle.hd_subs.specs.Joined.{joined}
use Rattle.hd_decode.specs.Shares.{AreJoined, IsFirstFault, Part, part_len, subs_in, whole_parts}

-- the parts before the rest are whole, and this is all of them, one after another
pub record AreJoinedSoFar (parts rest : List Part) (list : List Sub) : Type 0 where
  pub lists : List (List Sub)
  pub all : parts ≡ whole_parts lists ++ rest
  pub list_is : list ≡ joined lists

joined-push : (lists : List (List Sub)) (part : List Sub) → joined (lists ++ part ∷ []) ≡ joined lists ++ part
joined-push lists part = flat_map-append (λ (l : List Sub). l) lists (part ∷ []) ∙ ap (λ (l : List Sub). joined lists ++ l) (append-nil part)

subs-of-whole : (lists : List (List Sub)) → subs_in (whole_parts lists) ≡ length (joined lists)
subs-of-whole [] = refl
subs-of-whole (l ∷ lists) =
    omega (
      arith,
      sum_by-cons part_len (Ok l) (whole_parts lists),
      subs-of-whole lists,
      length-flat_map (λ (l : List Sub). l) (l ∷ lists),
      length-flat_map
          (λ (l : List Sub). l) lists,
      sum_by-cons (λ (l : List Sub). length l) l lists,
    )

module _ (parts : List Part) where
  pub none-joined : (all_rest : List Part) (list : List Sub) → all_rest ≡ parts → list ≡ [] → AreJoinedSoFar parts all_rest list
  none-joined all_rest list all none = record { lists = []; all = sym all; list_is = none }

  module _ (all_rest : List Part) (old : List Sub) (h : AreJoinedSoFar parts all_rest old) where
    pub all-joined : all_rest ≡ [] → AreJoined parts old
    all-joined none = record {
      lists = h.lists;
      all = h.all ∙ ap (λ (xs : List Part). whole_parts h.lists ++ xs) none ∙ append-nil (whole_parts h.lists);
      list_is = h.list_is;
    }

    pub first-fault : (rest : List Part) (f : ReadFault) → all_rest ≡ Err f ∷ rest → IsFirstFault parts f
    first-fault rest f next = record { lists = h.lists; after = rest; all = h.all ∙ ap (λ (xs : List Part). whole_parts h.lists ++ xs) next }

    module _ (rest : List Part) (part : List Sub) (next : all_rest ≡ Ok part ∷ rest) where
      pub next-joined : (new : List Sub) → new ≡ old ++ part → AreJoinedSoFar parts rest new
      next-joined new is = record {
        lists = h.lists ++ part ∷ [];
        all = h.all ∙ ap (λ (xs : List Part). whole_parts h.lists ++ xs) next ∙ sym (append_assoc (whole_parts h.lists) (Ok part ∷ []) rest)
            ∙ ap (λ (xs : List Part). xs ++ rest) (sym (map_push (λ (l : List Sub). Ok l) h.lists part));
        list_is = is ∙ ap (λ (l : List Sub). l ++ part) h.list_is ∙ sym (joined-push h.lists part);
      }

      -- what is there and the next part are among all
      pub next-fits : length old + length part ≤ subs_in parts
      next-fits = omega (
        arith,
        ap (λ (xs : List Part). subs_in xs) (h.all ∙ ap (λ (xs : List Part). whole_parts h.lists ++ xs) next),
        sum_by-append part_len (whole_parts h.lists) (Ok part ∷ rest),
        sum_by-cons part_len (Ok part) rest,
        subs-of-whole h.lists,
        ap (λ (l : List Sub). length l) h.list_is,
      )
