-- A session that leaves its board with events of its own analyst alone was undisturbed outside its private parts.
use Rattle.std.proofs.Common.{◌≡◌, ◌∙◌, ℕ, List, [], ◌∷◌, ◌++◌, true, Option, Some, None, refl, sym, ap, subst}
use Rattle.std.specs.Prelude.{◌==◌}
use Rattle.std.specs.List.{AllByRecursion}
use Rattle.hd_terms.specs.declared.Event.{Event}
use Rattle.hd_terms.specs.Log.{own}
use Rattle.hd_lines.specs.Memory.{Memory, at_log, board_log, home_or}
use Rattle.hd_lines.specs.Sessions.{Analyst, Turn, IsLater, IsRefreshed, IsTurn, IsSession, IsAlone, IsUndisturbed, memory_after}
use Rattle.hd_terms.specs.Appending.{event_by}
use Rattle.hd_lines.specs.Sessions as sessions

-- all events of the log are the analyst's
abbrev pub OnlyBy : ℕ → List Event → Type 0
OnlyBy who log = AllByRecursion (λ (e : Event). (e.who == who) ≡ true) log

-- so are those of its beginnings
pub only_front : (who : ℕ) (xs ys : List Event) → OnlyBy who (xs ++ ys) → OnlyBy who xs
only_front who [] ys h = tt
only_front who (x ∷ xs) ys h = (h.0, only_front who xs ys h.1)

-- and they are its own events
pub own_only : (who : ℕ) (log : List Event) → OnlyBy who log → own who log ≡ log
own_only who [] h = refl
own_only who (e ∷ log) h = rw h.0 (ap (λ (l : List Event). e ∷ l) (own_only who log h.1))

-- a later log with the analyst's events alone is the same log
later_is : (who : ℕ) (before after : List Event) → IsLater who before after → OnlyBy who after → OnlyBy who before × (after ≡ before)
later_is who before after l h =
    let front : OnlyBy who before = only_front who before l.more (subst (OnlyBy who) l.begins h) in
    (front, sym (own_only who after h) ∙ l.same_own ∙ own_only who before front)

some_none : {X : Type 0} (x : X) → Some x ≡ None → ⊥
some_none x h = absurd cc

some_same : {X : Type 0} (x y : X) → Some x ≡ Some y → x ≡ y
some_same x y h = cc

module _ (a : Analyst) (t : Turn) where
  -- outside a private part what the board is left with begins with the log that was found
  left : (after : Memory) (log : List Event) → after ≡ at_log t.before log → t.before.home ≡ None → OnlyBy a.who (board_log after) → OnlyBy a.who log
  left after log is none h = subst (λ (home : Option (List Event)). OnlyBy a.who (home_or home log)) none
      (subst (λ (m : Memory). OnlyBy a.who (board_log m)) is h)

  same_found : t.found ≡ t.before.log → OnlyBy a.who t.before.log → OnlyBy a.who t.found
  same_found is h = subst (OnlyBy a.who) (sym is) h

  found_only : IsTurn a t → t.before.home ≡ None → OnlyBy a.who (board_log t.after) → OnlyBy a.who t.found
  found_only (sessions.answered r f l) none h = left t.after t.found l none h
  found_only (sessions.declined c r is asks says f l) none h = left t.after t.found l none h
  found_only (sessions.rejected c what r is asks refuses says l) none h = left t.after t.found l none h
  found_only (sessions.accepted c what is asks takes done l) none h = only_front a.who t.found (event_by a.who what ∷ [])
      (left t.after (t.found ++ event_by a.who what ∷ []) l none h)
  found_only (sessions.unfinished c what is asks takes says l) none h = only_front a.who t.found (event_by a.who what ∷ [])
      (left t.after (t.found ++ event_by a.who what ∷ []) l none h)
  found_only (sessions.marked is room says f l) none h =
      same_found f (subst (λ (home : Option (List Event)). OnlyBy a.who (home_or home t.before.log)) none
      (subst (λ (m : Memory). OnlyBy a.who (board_log m)) l h))
  found_only (sessions.renamed on is says f l) none h =
      same_found f (subst (λ (home : Option (List Event)). OnlyBy a.who (home_or home t.before.log)) none
      (subst (λ (m : Memory). OnlyBy a.who (board_log m)) l h))
  found_only (sessions.gone_private is none_open says f l) none h = same_found f (subst (λ (m : Memory). OnlyBy a.who (board_log m)) l h)
  found_only (sessions.gone_back home is was_open says f l) none h = absurd (some_none home (sym was_open ∙ none))
  found_only (sessions.unserved needs says f l) none h = left t.after t.found l none h

  -- in a private part the board is left with its home
  stays : (after : Memory) (log home : List Event) → after ≡ at_log t.before log → t.before.home ≡ Some home → OnlyBy a.who (board_log after)
      → OnlyBy a.who home
  stays after log home is some h = subst (λ (o : Option (List Event)). OnlyBy a.who (home_or o log)) some
      (subst (λ (m : Memory). OnlyBy a.who (board_log m)) is h)

  home_only : (home : List Event) → IsTurn a t → t.before.home ≡ Some home → OnlyBy a.who (board_log t.after) → OnlyBy a.who home
  home_only home (sessions.answered r f l) some h = stays t.after t.found home l some h
  home_only home (sessions.declined c r is asks says f l) some h = stays t.after t.found home l some h
  home_only home (sessions.rejected c what r is asks refuses says l) some h = stays t.after t.found home l some h
  home_only home (sessions.accepted c what is asks takes done l) some h = stays t.after (t.found ++ event_by a.who what ∷ []) home l some h
  home_only home (sessions.unfinished c what is asks takes says l) some h = stays t.after (t.found ++ event_by a.who what ∷ []) home l some h
  home_only home (sessions.marked is room says f l) some h =
      subst (λ (o : Option (List Event)). OnlyBy a.who (home_or o t.before.log)) some (subst (λ (m : Memory). OnlyBy a.who (board_log m)) l h)
  home_only home (sessions.renamed on is says f l) some h =
      subst (λ (o : Option (List Event)). OnlyBy a.who (home_or o t.before.log)) some (subst (λ (m : Memory). OnlyBy a.who (board_log m)) l h)
  home_only home (sessions.gone_private is none_open says f l) some h = absurd (some_none home (sym some ∙ none_open))
  home_only home (sessions.gone_back back is was_open says f l) some h =
      subst (OnlyBy a.who) (some_same back home (sym was_open ∙ some)) (subst (λ (m : Memory). OnlyBy a.who (board_log m)) l h)
  home_only home (sessions.unserved needs says f l) some h = stays t.after t.found home l some h

  -- nothing came to a turn outside private parts that leaves the board with the analyst's events alone
  module _ (first : Memory) (refreshed : IsRefreshed a.who first t.before) (later : IsLater a.who t.before.log t.found) (turn : IsTurn a t)
      (h : OnlyBy a.who (board_log t.after)) where
    same_home : t.before.home ≡ first.home
    same_home = ap (λ (m : Memory). m.home) refreshed.same

    undisturbed : first.home ≡ None → OnlyBy a.who first.log × IsUndisturbed first t
    undisturbed none =
        let found = later_is a.who t.before.log t.found later (found_only turn (same_home ∙ none) h) in
        let before = later_is a.who first.log t.before.log refreshed.later found.0 in
        (before.0, (refreshed.same ∙ ap (at_log first) before.1, found.1 ∙ before.1))

    step : (home : Option (List Event)) → first.home ≡ home → OnlyBy a.who (home_or home first.log) × (first.home ≡ None → IsUndisturbed first t)
    step None none = ((undisturbed none).0, λ again. (undisturbed again).1)
    step (Some home) some = (home_only home turn (same_home ∙ some) h, λ none. absurd (some_none home (sym some ∙ none)))

-- nor to any
alone_from : (a : Analyst) (first : Memory) (ts : List Turn) → IsSession a first ts → OnlyBy a.who (board_log (memory_after first ts))
    → OnlyBy a.who (board_log first) × IsAlone first ts
alone_from a first [] h all = (all, tt)
alone_from a first (t ∷ ts) h all =
    let rest = alone_from a t.after ts h.3 all in
    let this = step a t first h.0 h.1 h.2 rest.0 first.home refl in
    (this.0, (this.1, rest.1))

pub alone : (a : Analyst) (first : Memory) (ts : List Turn) → IsSession a first ts → OnlyBy a.who (board_log (memory_after first ts)) → IsAlone first ts
alone a first ts h all = (alone_from a first ts h all).1
