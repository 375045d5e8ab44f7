use Rattle.std.proofs.Common.{◌≡◌, ◌∙◌, ℕ, zero, suc, ◌<◌, ◌≤◌, length, ◌⊎◌, inl, inr, List, [], ◌∷◌, ◌++◌, map, Contains, refl, sym, ap, subst, arith}
use Rattle.std.specs.Prelude.{IfNone, IfSome, Option, Some, None}
use Rattle.std.proofs.lemmas.List.{map-append, length-append, length-map, get_or-map}
use Rattle.std.proofs.lemmas.List.Elements.{Contains-push, Contains-push_cases, Contains-append_left, Contains-append_right, Contains-append_cases}
use Rattle.hd_terms.specs.declared.Strength.{Strength}
use Rattle.hd_terms.specs.declared.Strength.TheVariants as strengths
use Rattle.hd_terms.specs.Ranks.{rank}
use Rattle.hd_repair.specs.declared.offers.Offer.{Offer}
use Rattle.hd_repair.specs.declared.offers.Offers.TheInside.{Inside}
use Rattle.hd_repair.specs.declared.offers.Queued.{Queued}
use Rattle.hd_repair.specs.Offering.{AddsOffer, IsMost, JoinsOffers, NoneOf, TakesOne}
use Rattle.hd_repair.specs.OffersInside.{offer_at, offers_in, IsFirstOf}

-- an offer at the end of a list
adds_last : (xs : List Offer) (f : Offer) → AddsOffer xs (xs ++ f ∷ []) f
adds_last xs f = record {
  kept = λ x c. Contains-append_left xs (f ∷ []) x c;
  made = λ x c. elim (Contains-push_cases xs f x c) [ inl before ↦ inl before | inr same ↦ inr (sym same) ];
  there = λ some. Contains-push xs f;
  count = omega (arith, length-append xs (f ∷ []));
}

-- behind other offers
pub adds_behind : (front old new : List Offer) (f : Offer) → AddsOffer old new f → AddsOffer (front ++ old) (front ++ new) f
adds_behind front old new f h = record {
  kept = λ x c. elim (Contains-append_cases front old x c) [
    | inl a ↦ Contains-append_left front new x a
    | inr b ↦
        Contains-append_right front new x (h.kept x b)
  ];
  made = λ x c. elim (Contains-append_cases front new x c) [
    | inl a ↦ inl (Contains-append_left front old x a)
    | inr b ↦ elim (h.made x b) [ inl was ↦ inl (Contains-append_right front old x was) | inr same ↦ inr same ]
  ];
  there = λ some. Contains-append_right front new f (h.there some);
  count = omega (arith, h.count, length-append front old, length-append front new);
}

-- before other offers
adds_before : (old new back : List Offer) (f : Offer) → AddsOffer old new f → AddsOffer (old ++ back) (new ++ back) f
adds_before old new back f h = record {
  kept = λ x c. elim (Contains-append_cases old back x c) [ inl a ↦ Contains-append_left new back x (h.kept x a) | inr b ↦ Contains-append_right new back x b ];
  made = λ x c. elim (Contains-append_cases new back x c) [
    | inl a ↦ elim (h.made x a) [ inl was ↦ inl (Contains-append_left old back x was) | inr same ↦ inr same ]
    | inr b ↦ inl (Contains-append_right old back x b)
  ];
  there = λ some. Contains-append_left new back f (h.there some);
  count = omega (arith, h.count, length-append old back, length-append new back);
}

-- an offer as it is queued
abbrev pub queued : Offer → Queued
queued f = record { target = f.target; support = f.support }

-- one more in the queue of its strength
pub queued_at_end : (s : Strength) (f : Offer) (q q' : List Queued) → f.strength ≡ s → q' ≡ q ++ queued f ∷ []
    → AddsOffer (map (offer_at s) q) (map (offer_at s) q') f
queued_at_end s f q q' same is =
    let there : offer_at s (queued f) ≡ f = ap (λ (t : Strength). record { target = f.target; strength = t; support = f.support }) (sym same) in
    let more : map (offer_at s) q' ≡ map (offer_at s) q ++ f ∷ [] = ap (map (offer_at s)) is ∙ map-append (offer_at s) q (queued f ∷ [])
    ∙ ap (λ (x : Offer). map (offer_at s) q ++ x ∷ []) there in
    subst (λ (ys : List Offer). AddsOffer (map (offer_at s) q) ys f) (sym more) (adds_last (map (offer_at s) q) f)

-- and others follow
pub queued_before : (s : Strength) (f : Offer) (q q' : List Queued) (back : List Offer) → f.strength ≡ s → q' ≡ q ++ queued f ∷ []
    → AddsOffer (map (offer_at s) q ++ back) (map (offer_at s) q' ++ back) f
queued_before s f q q' back same is = adds_before (map (offer_at s) q) (map (offer_at s) q') back f (queued_at_end s f q q' same is)

-- an offer of no strength is left out
pub left_out : (xs : List Offer) (f : Offer) → rank f.strength ≡ 0 → AddsOffer xs xs f
left_out xs f none = record { kept = λ x c. c; made = λ x c. inl c; there = λ some. absurd (omega arith); count = omega arith }

-- no offer of a list gives more than a rank
abbrev pub AtMost : ℕ → List Offer → Type 0
AtMost n xs = (x : Offer) → Contains xs x → rank x.strength ≤ n

pub none_at_most : (n : ℕ) → AtMost n []
none_at_most n x (k, lt, is) = absurd (omega arith)

pub queue_at_most : (n : ℕ) (s : Strength) (q : List Queued) → rank s ≤ n → AtMost n (map (offer_at s) q)
queue_at_most n s q le x (k, lt, is) = let same : rank x.strength ≡ rank s =
    ap (λ (y : Offer). rank y.strength)
    (sym is ∙ get_or-map (offer_at s) q k (record { target = x.target; support = x.support }) x (omega (arith, length-map q (offer_at s)))) in omega arith

pub both_at_most : (n : ℕ) (xs ys : List Offer) → AtMost n xs → AtMost n ys → AtMost n (xs ++ ys)
both_at_most n xs ys h k x c = elim (Contains-append_cases xs ys x c) [ inl a ↦ h x a | inr b ↦ k x b ]

-- the first or a later one
pub cons_cases : {X : Type 0} (y : X) (ys : List X) (x : X) → Contains (y ∷ ys) x → (x ≡ y) ⊎ Contains ys x
cons_cases y ys x (zero, lt, is) = inl (sym is)
cons_cases y ys x (suc k, lt, is) = inr (k, omega arith, is)

-- the first in a queue comes out
pub one_out : (s : Strength) (f : Offer) (q q' : List Queued) → IsFirstOf s f q q' → TakesOne (map (offer_at s) q) (map (offer_at s) q') s f
one_out s f q q' h = rw h.first (record {
  strength = h.strength;
  made = (0, omega arith, refl);
  left = cons_cases f (map (offer_at s) q');
  within = λ x (k, lt, is). (suc k, omega arith, is);
  fewer = omega arith;
})

-- and others follow, or come before
pub out_before : (old new back : List Offer) (s : Strength) (f : Offer) → TakesOne old new s f → TakesOne (old ++ back) (new ++ back) s f
out_before old new back s f h = record {
  strength = h.strength;
  made = Contains-append_left old back f h.made;
  left = λ x c. elim (Contains-append_cases old back x c) [
    | inl a ↦ elim (h.left x a) [ inl same ↦ inl same | inr still ↦ inr (Contains-append_left new back x still) ]
    | inr b ↦ inr (Contains-append_right new back x b)
  ];
  within = λ x c. elim (Contains-append_cases new back x c) [
    | inl a ↦ Contains-append_left old back x (h.within x a)
    | inr b ↦ Contains-append_right old back x b
  ];
  fewer = omega (arith, h.fewer, length-append old back, length-append new back);
}

pub out_behind : (front old new : List Offer) (s : Strength) (f : Offer) → TakesOne old new s f → TakesOne (front ++ old) (front ++ new) s f
out_behind front old new s f h = record {
  strength = h.strength;
  made = Contains-append_right front old f h.made;
  left = λ x c. elim (Contains-append_cases front old x c) [
    | inl a ↦ inr (Contains-append_left front new x a)
    | inr b ↦ elim (h.left x b) [ inl same ↦ inl same | inr still ↦ inr (Contains-append_right front new x still) ]
  ];
  within = λ x c. elim (Contains-append_cases front new x c) [
    | inl a ↦ Contains-append_left front old x a
    | inr b ↦ Contains-append_right front old x (h.within x b)
  ];
  fewer = omega (arith, h.fewer, length-append front old, length-append front new);
}

-- no offer in a queue is of a strength: the queue is empty, if it is that of the strength
none_queued : (t s : Strength) (q : List Queued) → (t ≡ s → q ≡ []) → NoneOf (map (offer_at t) q) s
none_queued t s q empty x (k, lt, is) same =
    let of : x.strength ≡ t = ap (λ (y : Offer). y.strength)
    (sym is ∙ get_or-map (offer_at t) q k (record { target = x.target; support = x.support }) x (omega (arith, length-map q (offer_at t)))) in
    omega (arith, lt, length-map q (offer_at t), ap length (empty (sym of ∙ same)))

none_both : (s : Strength) (xs ys : List Offer) → NoneOf xs s → NoneOf ys s → NoneOf (xs ++ ys) s
none_both s xs ys h k x c = elim (Contains-append_cases xs ys x c) [ inl a ↦ h x a | inr b ↦ k x b ]

-- none in all queues
pub none_in : (a : Inside) (s : Strength) → (strengths.Strong ≡ s → a.strong.items ≡ []) → (strengths.Soft ≡ s → a.soft.items ≡ [])
    → (strengths.Weak ≡ s → a.weak.items ≡ []) → (strengths.Final ≡ s → a.finals.items ≡ []) → (strengths.Phantom ≡ s → a.phantom.items ≡ [])
    → NoneOf (offers_in a) s
none_in a s e1 e2 e3 e4 e5 =
    none_both s _ _ (none_queued strengths.Strong s a.strong.items e1)
    (none_both s _ _ (none_queued strengths.Soft s a.soft.items e2)
    (none_both s _ _ (none_queued strengths.Weak s a.weak.items e3)
    (none_both s _ _ (none_queued strengths.Final s a.finals.items e4) (none_queued strengths.Phantom s a.phantom.items e5))))

-- the most that is offered: a queue that has one comes first, and others follow that give no more
pub most_first : (n : ℕ) (s : Strength) (q : List Queued) (back : List Offer) → 0 < length q → n ≤ rank s → AtMost n back
    → IsMost (map (offer_at s) q ++ back) s
most_first n s [] back some le few = absurd (omega (arith, some))
most_first n s (x ∷ q) back some le few = record {
  offer = offer_at s x;
  made = (0, omega arith, refl);
  strength = refl;
  most = both_at_most (rank s) (map (offer_at s) (x ∷ q)) back (queue_at_most (rank s) s (x ∷ q) (omega arith))
      (λ y c. let most : rank y.strength ≤ n = few y c in omega arith);
}

pub most_last : (s : Strength) (q : List Queued) → 0 < length q → IsMost (map (offer_at s) q) s
most_last s [] some = absurd (omega (arith, some))
most_last s (x ∷ q) some = record {
  offer = offer_at s x;
  made = (0, omega arith, refl);
  strength = refl;
  most = queue_at_most (rank s) s (x ∷ q) (omega arith);
}

pub most_behind : (s t : Strength) (q : List Queued) (rest : List Offer) → length q ≡ 0 → IsMost rest t → IsMost (map (offer_at s) q ++ rest) t
most_behind s t [] rest none h = h
most_behind s t (x ∷ q) rest none h = absurd (omega (arith, none))

-- queues are joined
pub joins_queue : (s : Strength) (q q' q'' : List Queued) → q'' ≡ q ++ q'
    → JoinsOffers (map (offer_at s) q) (map (offer_at s) q') (map (offer_at s) q'')
joins_queue s q q' q'' is = rw (is, map-append (offer_at s) q q') (record {
  kept = λ x c. Contains-append_left (map (offer_at s) q) (map (offer_at s) q') x c;
  added = λ x c. Contains-append_right (map (offer_at s) q) (map (offer_at s) q') x c;
  made = λ x c. Contains-append_cases (map (offer_at s) q) (map (offer_at s) q') x c;
  count = length-append (map (offer_at s) q) (map (offer_at s) q');
})

pub joins_both : (a b c d e f : List Offer) → JoinsOffers a c e → JoinsOffers b d f → JoinsOffers (a ++ b) (c ++ d) (e ++ f)
joins_both a b c d e f h k = record {
  kept = λ x is. elim (Contains-append_cases a b x is) [
    | inl one ↦ Contains-append_left e f x (h.kept x one)
    | inr two ↦ Contains-append_right e f x (k.kept x two)
  ];
  added = λ x is. elim (Contains-append_cases c d x is) [
    | inl one ↦ Contains-append_left e f x (h.added x one)
    | inr two ↦ Contains-append_right e f x (k.added x two)
  ];
  made = λ x is. elim (Contains-append_cases e f x is) [
    | inl one ↦ elim (h.made x one) [
      | inl old ↦ inl (Contains-append_left a b x old)
      | inr other ↦ inr (Contains-append_left c d x other)
    ]
    | inr two ↦ elim (k.made x two) [
      | inl old ↦ inl (Contains-append_right a b x old)
      | inr other ↦ inr (Contains-append_right c d x other)
    ]
  ];
  count = omega (arith, h.count, k.count, length-append a b, length-append c d, length-append e f);
}

-- what the queues from one on give
pub from_phantom : (p : List Queued) → AtMost 1 (map (offer_at strengths.Phantom) p)
from_phantom p = queue_at_most 1 strengths.Phantom p (omega arith)

pub from_final : (f p : List Queued) → AtMost 2 (map (offer_at strengths.Final) f ++ map (offer_at strengths.Phantom) p)
from_final f p = both_at_most 2 _ _ (queue_at_most 2 strengths.Final f (omega arith)) (queue_at_most 2 strengths.Phantom p (omega arith))

pub from_weak : (w f p : List Queued) → AtMost 3 (map (offer_at strengths.Weak) w ++ (map (offer_at strengths.Final) f ++ map (offer_at strengths.Phantom) p))
from_weak w f p = both_at_most 3 _ _ (queue_at_most 3 strengths.Weak w (omega arith))
    (both_at_most 3 _ _ (queue_at_most 3 strengths.Final f (omega arith)) (queue_at_most 3 strengths.Phantom p (omega arith)))

pub from_soft : (s w f p : List Queued)
    → AtMost 4 (map (offer_at strengths.Soft) s
    ++ (map (offer_at strengths.Weak) w ++ (map (offer_at strengths.Final) f ++ map (offer_at strengths.Phantom) p)))
from_soft s w f p = both_at_most 4 _ _ (queue_at_most 4 strengths.Soft s (omega arith)) (λ x c. let le : rank x.strength ≤ 3 = from_weak w f p x c in
    omega arith)

-- of an answer that may be none
pub if_none : (x : Option Offer) (P Q : Type 0) → (P → Q) → IfNone x P → IfNone x Q
if_none None P Q f h = f h
if_none (Some a) P Q f h = tt

pub if_some : (x : Option Offer) (P Q : Offer → Type 0) → ((f : Offer) → P f → Q f) → IfSome x P → IfSome x Q
if_some None P Q f h = tt
if_some (Some a) P Q f h = f a h
