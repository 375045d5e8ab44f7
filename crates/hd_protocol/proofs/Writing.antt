-- Lemmas on what is written and read, where it is known.
use Rattle.std.proofs.Common.{◌∙◌, ℕ, ◌+◌, ◌-◌, List, [], ◌++◌, Option, None, Some, length, take, drop, refl, sym, ap, subst, append_assoc, append-nil}
use Rattle.std.specs.Io.KnownBytes.{Keeps, Appends, Consumes}
use Rattle.std.proofs.Math.Seq.{take-add}
use Rattle.std.proofs.lemmas.List.{take_rest}

-- nothing is appended
pub appends_nil : (a b : Option (List ℕ)) → Keeps a b → Appends a b []
appends_nil None b h = tt
appends_nil (Some xs) None h = h
appends_nil (Some xs) (Some ys) h = h ∙ sym (append-nil xs)

-- one after the other
pub appends_both : (a b c : Option (List ℕ)) (bs cs : List ℕ) → Appends a b bs → Appends b c cs → Appends a c (bs ++ cs)
appends_both None b c bs cs p q = tt
appends_both (Some xs) None c bs cs p q = absurd p
appends_both (Some xs) (Some ys) None bs cs p q = absurd q
appends_both (Some xs) (Some ys) (Some zs) bs cs p q = q ∙ ap (λ l. l ++ cs) p ∙ append_assoc xs bs cs

-- kept before
pub appends_after : (a b c : Option (List ℕ)) (bs : List ℕ) → Keeps a b → Appends b c bs → Appends a c bs
appends_after None b c bs p q = tt
appends_after (Some xs) None c bs p q = absurd p
appends_after (Some xs) (Some ys) None bs p q = absurd q
appends_after (Some xs) (Some ys) (Some zs) bs p q = q ∙ ap (λ l. l ++ bs) p

-- kept after
pub appends_kept : (a b c : Option (List ℕ)) (bs : List ℕ) → Appends a b bs → Keeps b c → Appends a c bs
appends_kept None b c bs p q = tt
appends_kept (Some xs) None c bs p q = absurd p
appends_kept (Some xs) (Some ys) None bs p q = absurd q
appends_kept (Some xs) (Some ys) (Some zs) bs p q = q ∙ p

-- nothing is consumed
pub consumes_nil : (a : Option (List ℕ)) → Consumes a a []
consumes_nil None = tt
consumes_nil (Some xs) = refl

-- one after the other
pub consumes_both : (a b c : Option (List ℕ)) (bs cs : List ℕ) → Consumes a b bs → Consumes b c cs → Consumes a c (bs ++ cs)
consumes_both None b c bs cs p q = tt
consumes_both (Some xs) None c bs cs p q = absurd p
consumes_both (Some xs) (Some ys) None bs cs p q = absurd q
consumes_both (Some xs) (Some ys) (Some zs) bs cs p q = p ∙ ap (λ l. bs ++ l) q ∙ sym (append_assoc bs cs zs)

-- kept after
pub consumes_kept : (a b c : Option (List ℕ)) (bs : List ℕ) → Consumes a b bs → Keeps b c → Consumes a c bs
consumes_kept None b c bs p q = tt
consumes_kept (Some xs) None c bs p q = absurd p
consumes_kept (Some xs) (Some ys) None bs p q = absurd q
consumes_kept (Some xs) (Some ys) (Some zs) bs p q = p ∙ ap (λ l. bs ++ l) (sym q)

-- n more bytes of a text
pub appends_more : (a b c : Option (List ℕ)) (text : List ℕ) (i n : ℕ) → Appends a b (take i text) → Appends b c (take n (take (length text - i) (drop i text)))
    → Appends a c (take (i + n) text)
appends_more a b c text i n p q =
    subst (Appends a c) (ap (λ l. take i text ++ take n l) (take_rest text i) ∙ sym (take-add i n text))
    (appends_both a b c (take i text) (take n (take (length text - i) (drop i text))) p q)
