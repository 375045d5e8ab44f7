-- Distinct IDs inserted one after another are all kept.
use Rattle.std.proofs.Common.{◌≡◌, ◌∙◌, ℕ, ◌+◌, ◌<◌, ◌≤◌, List, [], nat_eq, take, get_or, length, ap, sym}
use Rattle.std.specs.List.{IsDistinct}
use Rattle.std.specs.Cmp.{nat_eq_equiv}
use Rattle.std.proofs.lemmas.List.{take_all, take_more}
use Rattle.indexmap.specs.IndexSet.{insert_all, insert_key}
use Rattle.indexmap.proofs.SetLemmas.{set_all_distinct, set_all_push}

-- one more ID is inserted
pub one-more : (ids keys : List ℕ) (i : ℕ) → i < length ids → keys ≡ insert_all nat_eq [] (take i ids)
    → insert_key nat_eq keys (get_or ids i 0) ≡ insert_all nat_eq [] (take (i + 1) ids)
one-more ids keys i lt so_far =
    ap (λ (ks : List ℕ). insert_key nat_eq ks (get_or ids i 0)) so_far
    ∙ sym (set_all_push nat_eq [] (take i ids) (get_or ids i 0))
    ∙ ap (insert_all nat_eq []) (sym (take_more ids i 0 lt))

-- all are inserted
pub all-kept : (ids keys : List ℕ) (i : ℕ) → length ids ≤ i → IsDistinct nat_eq ids → keys ≡ insert_all nat_eq [] (take i ids) → keys ≡ ids
all-kept ids keys i end distinct so_far =
    so_far ∙ ap (insert_all nat_eq []) (take_all i ids end) ∙ set_all_distinct nat_eq_equiv [] ids distinct
