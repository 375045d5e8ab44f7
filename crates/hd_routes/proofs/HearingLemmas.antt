-- What a stream is answered, by what its bytes are.
use Rattle.std.proofs.Common.{◌∙◌, ℕ, Bool, true, false, List, [], ◌++◌, Option, None, Some, inl, inr, refl, sym, ap, subst, append_assoc}
use Rattle.std.specs.Io.KnownBytes.{Consumes}
use Rattle.hd_routes.specs.declared.hearing.Heard.{Heard}
use Rattle.hd_routes.specs.Hearings.{IsWholeHead, IsNone, IsHeard, Grows}

-- no head, at the end of the input or before it
pub heard_none : (port : ℕ) (bytes : List ℕ) (is_end : Bool) (heard : Heard) → IsNone bytes heard → IsHeard port bytes is_end heard
heard_none port bytes true heard none = inr (inl none)
heard_none port bytes false heard none = inr none

-- a whole head, at the end of the input or before it
pub heard_whole : (port : ℕ) (bytes : List ℕ) (is_end : Bool) (heard : Heard) → IsWholeHead port bytes heard → IsHeard port bytes is_end heard
heard_whole port bytes true heard whole = inl whole
heard_whole port bytes false heard whole = inl whole

-- nothing is taken
pub consumes_none : (a : Option (List ℕ)) → Consumes a a []
consumes_none None = tt
consumes_none (Some xs) = refl

-- one after the other
pub consumes_more : (a b c : Option (List ℕ)) (bs cs : List ℕ) → Consumes a b bs → Consumes b c cs → Consumes a c (bs ++ cs)
consumes_more None b c bs cs p q = tt
consumes_more (Some xs) None c bs cs p q = absurd p
consumes_more (Some xs) (Some ys) None bs cs p q = absurd q
consumes_more (Some xs) (Some ys) (Some zs) bs cs p q = p ∙ ap (λ l. bs ++ l) q ∙ sym (append_assoc bs cs zs)

-- what was taken so far, and then some more
pub grown : (a b c : Option (List ℕ)) (old new : List ℕ) → Consumes a b old → Grows b c old new → Consumes a c new
grown a b c old new p (more, q, e) = subst (Consumes a c) (sym e) (consumes_more a b c old more p q)
