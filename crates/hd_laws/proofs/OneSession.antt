-- What a plain session alone writes is one.
use Rattle.std.proofs.Common.{◌≡◌, ◌∙◌, ℕ, Bool, List, [], ◌∷◌, ◌++◌, None, refl, sym, ap, subst}
use Rattle.std.specs.Prelude.{map}
use Rattle.std.specs.List.{AllByRecursion}
use Rattle.hd_terms.specs.declared.Event.{Event}
use Rattle.hd_terms.specs.declared.Mode.{Mode}
use Rattle.hd_terms.specs.Dump.{Dump, without_classes}
use Rattle.hd_lines.specs.Lines.{command_of, last_word}
use Rattle.hd_lines.specs.Memory.{Memory, beginning}
use Rattle.hd_terms.specs.Objects.{IsDumpOf, IsNamelessDumpOf}
use Rattle.hd_lines.specs.Sessions.{Analyst, Turn, IsTurn, IsSession, IsAlone, IsUndisturbed, lone_analyst, replies}
use Rattle.hd_lines.specs.Stat.{IsStat}
use Rattle.hd_terms.proofs.OneReading.{same_dump}
use Rattle.hd_laws.specs.Plain.{AreAlike, AsksNoChain, IsPlain, IsServedPlainly}
use Rattle.hd_laws.proofs.OneList.{same_head, same_tail, no_items}
use Rattle.hd_laws.proofs.OneStat as stat
use Rattle.hd_laws.proofs.OneTurn.{Outcome, one_outcome, none_open, outcome_of}

module _ (a : Analyst) where
  -- how an undisturbed turn comes out, from what was remembered
  outcome_from : (m : Memory) (t : Turn) → m.home ≡ None → IsUndisturbed m t → IsTurn a t → IsPlain t
      → Outcome a m (last_word t.line) m.log (command_of t.line) t.reply t.after
  outcome_from m t none (before, found) turn plain =
      subst (λ (l : List Event). Outcome a m (last_word t.line) l (command_of t.line) t.reply t.after) found
      (subst (λ (k : Memory). Outcome a k (last_word t.line) t.found (command_of t.line) t.reply t.after) before
      (outcome_of a t turn plain (ap (λ (k : Memory). k.home) before ∙ none)))

  one_session : (m : Memory) (ts us : List Turn) → m.home ≡ None → IsSession a m ts → IsAlone m ts → AllByRecursion IsPlain ts → IsSession a m us → IsAlone m us
      → AllByRecursion IsPlain us
      → map (λ (t : Turn). t.line) ts ≡ map (λ (t : Turn). t.line) us → AreAlike ts us
  one_session m [] [] none s al p s' al' p' h = tt
  one_session m [] (u ∷ us) none s al p s' al' p' h = absurd (no_items u.line (map (λ (t : Turn). t.line) us) h)
  one_session m (t ∷ ts) [] none s al p s' al' p' h = absurd (no_items t.line (map (λ (t : Turn). t.line) ts) (sym h))
  one_session m (t ∷ ts) (u ∷ us) none (r, l, turn, s) (undisturbed, al) (plain, p) (r', l', turn', s') (undisturbed', al') (plain', p') h =
      let line = same_head t.line u.line (map (λ (t : Turn). t.line) ts) (map (λ (t : Turn). t.line) us) h in
      let lines = same_tail t.line u.line (map (λ (t : Turn). t.line) ts) (map (λ (t : Turn). t.line) us) h in
      let out = outcome_from m t none (undisturbed none) turn plain in
      let out' = subst (λ (x : List ℕ). Outcome a m (last_word x) m.log (command_of x) u.reply u.after) (sym line)
      (outcome_from m u none (undisturbed' none) turn' plain') in
      let both = one_outcome a m (last_word t.line) m.log (command_of t.line) t.reply u.reply t.after u.after out out' in
      let rest = one_session t.after ts us (none_open a m (last_word t.line) m.log (command_of t.line) t.reply t.after out none) s al p
      (subst (λ (k : Memory). IsSession a k us) (sym both.1) s') (subst (λ (k : Memory). IsAlone k us) (sym both.1) al') p' lines in
      (both.0, rest)

-- alike turns that ask for no chain write the same
same_replies : (ts us : List Turn) → AreAlike ts us → AllByRecursion (λ (t : Turn). AsksNoChain (command_of t.line)) ts → replies ts ≡ replies us
same_replies [] [] h no_chain = refl
same_replies [] (u ∷ us) h no_chain = absurd h
same_replies (t ∷ ts) [] h no_chain = absurd h
same_replies (t ∷ ts) (u ∷ us) (same, h) (first, no_chain) =
    ap (λ (x : List ℕ). x ++ replies ts) (same first) ∙ ap (λ (x : List ℕ). u.reply ++ x) (same_replies ts us h no_chain)

-- over one dump
over_dump : (dump : Dump) (names : Bool) (input written other : List ℕ) (ts us : List Turn) → IsServedPlainly dump names input written ts
    → IsServedPlainly dump names input other us → AreAlike ts us
over_dump dump names input written other ts us s t =
    let first = s.served.session in
    let second = t.served.session in
    one_session (lone_analyst dump) (beginning names [] []) ts us refl first.session.session first.alone s.plain second.session.session second.alone t.plain
    (first.session.over ∙ sym second.session.over)

-- over the bytes of a dump
pub alike_runs : (mode : Mode) (names : Bool) (bytes input written other : List ℕ) (a b : Dump) (ts us : List Turn) → IsDumpOf mode bytes a
    → IsDumpOf mode bytes b
    → IsServedPlainly a names input written ts → IsServedPlainly b names input other us → AreAlike ts us
alike_runs mode names bytes input written other a b ts us ha hb s t =
    over_dump a names input written other ts us s (subst (λ (dump : Dump). IsServedPlainly dump names input other us) (sym (same_dump mode bytes a b ha hb)) t)

pub same_runs : (mode : Mode) (names : Bool) (bytes input written other : List ℕ) (a b : Dump) (ts us : List Turn) → IsDumpOf mode bytes a
    → IsDumpOf mode bytes b
    → IsServedPlainly a names input written ts → IsServedPlainly b names input other us → AllByRecursion (λ (t : Turn). AsksNoChain (command_of t.line)) ts
    → written ≡ other
same_runs mode names bytes input written other a b ts us ha hb s t no_chain =
    s.served.written_is ∙ same_replies ts us (alike_runs mode names bytes input written other a b ts us ha hb s t) no_chain ∙ sym t.served.written_is

-- the bytes have one dump but for the names that go with class objects
same_nameless : (mode : Mode) (bytes : List ℕ) (a b : Dump) → IsNamelessDumpOf mode bytes a → IsNamelessDumpOf mode bytes b → a ≡ b
same_nameless mode bytes a b ha hb = ha.is ∙ ap without_classes (same_dump mode bytes ha.named hb.named ha.is_dump hb.is_dump) ∙ sym hb.is

pub one_stat : (mode : Mode) (bytes text other : List ℕ) (a b : Dump) → IsNamelessDumpOf mode bytes a → IsNamelessDumpOf mode bytes b → IsStat a text
    → IsStat b other → text ≡ other
one_stat mode bytes text other a b ha hb s t =
    stat.one_stat a text other s (subst (λ (dump : Dump). IsStat dump other) (sym (same_nameless mode bytes a b ha hb)) t)
