-- Beginnings of one log; a beginning of a lawful log is lawful.
use Rattle.std.proofs.Common.{◌≡◌, ◌∙◌, ℕ, zero, suc, ◌<◌, ◌≤◌, List, [], ◌∷◌, ◌++◌, length, drop, Some, slice_get, refl, ap, sym, arith, append_assoc}
use Rattle.std.proofs.Common.{length-append}
use Rattle.std.proofs.lemmas.List.{append-nil}
use Rattle.std.proofs.lemmas.Option.{slice_get_within}
use Rattle.hd_terms.specs.declared.Event.{Event}
use Rattle.hd_terms.specs.declared.What.{What}
use Rattle.hd_terms.specs.declared.What.TheVariants as whats
use Rattle.hd_terms.specs.Log.{IsEvent, IsLawful, begins_with}

-- each log begins with itself
pub begins_itself : (log : List Event) → begins_with log log
begins_itself log = ([], sym (append-nil log))

-- and with what it was before its last event
pub begins_before : (log : List Event) (e : Event) → begins_with (log ++ e ∷ []) log
begins_before log e = (e ∷ [], refl)

pub begins_trans : (log middle front : List Event) → begins_with log middle → begins_with middle front → begins_with log front
begins_trans log middle front q p = (p.0 ++ q.0, q.1 ∙ (ap (λ w. w ++ q.0) p.1 ∙ append_assoc front p.0 q.0))

pub begins_length : (log front : List Event) → begins_with log front → length front ≤ length log
begins_length log front p = omega (arith, ap length p.1 ∙ length-append front p.0)

-- of two beginnings of one log the longer begins with the shorter
pub begins_shorter : (log long short : List Event) → begins_with log long → begins_with log short → length short ≤ length long → begins_with long short
begins_shorter log long [] q p le = (long, refl)
begins_shorter log [] (x ∷ xs) q p le = absurd (omega arith)
begins_shorter [] (y ∷ ys) (x ∷ xs) q p le = absurd (cc (p.1))
begins_shorter (z ∷ zs) (y ∷ ys) (x ∷ xs) q p le =
    let heads : y ≡ x = cc (p.1, q.1) in
    let rest = begins_shorter zs ys xs (q.0, cc (q.1)) (p.0, cc (p.1)) (omega arith) in
    (rest.0, cc (heads, rest.1))

-- a beginning, and the event after it
pub begins_next : (log front : List Event) (e : Event) → begins_with log front → slice_get log (length front) ≡ Some e → begins_with log (front ++ e ∷ [])
begins_next [] [] e p at = absurd cc
begins_next (z ∷ log) [] e p at = (log, cc (at))
begins_next [] (x ∷ front) e p at = absurd cc
begins_next (z ∷ log) (x ∷ front) e p at =
    let rest = begins_next log front e (p.0, cc (p.1)) at in
    (rest.0, cc (p.1, rest.1))

-- what stands after a beginning
pub rest_after : (log front more : List Event) → log ≡ front ++ more → drop (length front) log ≡ more
rest_after log [] more is = is
rest_after [] (x ∷ front) more is = absurd cc
rest_after (z ∷ log) (x ∷ front) more is = rest_after log front more (cc (is))

-- what stands in a beginning stands in the whole, at the same place
pub begins_get : (log front : List Event) (k : ℕ) (e : Event) → begins_with log front → IsEvent front k e → IsEvent log k e
begins_get log [] k e p h = absurd cc
begins_get [] (x ∷ front) k e p h = absurd (cc (p.1))
begins_get (z ∷ log) (x ∷ front) zero e p h = cc (p.1, h)
begins_get (z ∷ log) (x ∷ front) (suc k) e p h = begins_get log front k e (p.0, cc (p.1)) h

-- and the other way round, where the beginning has that place
pub begins_got : (log front : List Event) (k : ℕ) (e : Event) → begins_with log front → k < length front → IsEvent log k e → IsEvent front k e
begins_got log [] k e p lt h = absurd (omega arith)
begins_got [] (x ∷ front) k e p lt h = absurd (cc (p.1))
begins_got (z ∷ log) (x ∷ front) zero e p lt h = cc (p.1, h)
begins_got (z ∷ log) (x ∷ front) (suc k) e p lt h = begins_got log front k e (p.0, cc (p.1)) (omega arith) h

-- an event
abbrev event : ℕ → What → Event
event who what = record { who = who; what = what }

pub lawful_beginning : (log front : List Event) → begins_with log front → IsLawful log → IsLawful front
lawful_beginning log front p law = record {
  short = omega (arith, begins_length log front p, law.short);
  undos = λ i k who is.
      let within : i < length front = slice_get_within front i (event who (whats.Undo k)) is in
      let u = law.undos i k who (begins_get log front i (event who (whats.Undo k)) p is) in
      record {
        earlier = u.earlier;
        edit = u.edit;
        own = begins_got log front k (event who (whats.Do u.edit)) p (omega (arith, u.earlier)) u.own;
        first = λ j w lt takes. u.first j w lt (begins_get log front j (event w (whats.Undo k)) p takes);
      };
}
