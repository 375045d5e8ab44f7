-- The walk goes from source to source: all objects on the way are where the one is that it has come to.
-- It ends at one that is known, or at one that no edge supports, which is outside.
use Rattle.std.proofs.Common.{◌∙◌, inl, inr, sym, refl}
use Rattle.std.proofs.lemmas.List.Elements.{Contains-push, Contains-push_cases, Contains-append_left}
use Rattle.hd_repair.proofs.MarkingLemmas.{chain_known, ends_outside, further_down, further_up, unknown_not_lost}
use Rattle.hd_repair.proofs.marking.follow.Goals as goal

pub returns-then-is_known-clause-followed : goal.returns-then-is_known-clause-followed
returns-then-is_known-clause-followed c lost known =
    chain_known c.args.kept.now lost c.args.known.now c.args.o c.loop.at known c.loop.path.items c.loop.invariant.first
    (c.loop.invariant.down lost known) (c.loop.invariant.up lost known)

pub returns-in_default : goal.returns-in_default
returns-in_default c =
    let pushed = c.in_ok-push.ensures.items in
    record {
      within = λ x is. elim (Contains-push_cases c.loop.path.items c.loop.at x (rw pushed at is)) [
        | inl old ↦ c.loop.invariant.within x old
        | inr this ↦ rw (← this) c.loop.invariant.at
      ];
      followed = λ lost known. record {
        right = λ x is. ends_outside c.args.kept.now c.loop.path.items c.loop.at lost
            (λ source slot e. c.in_default.not-Edge source slot (c.support.ensures ∙ e))
            (unknown_not_lost c.args.kept.now lost c.args.known.now c.loop.at known (c.is_known.ensures.no c.if-is_known.false))
            (c.loop.invariant.up lost known) x (rw pushed at is);
        first = λ some. inl (rw pushed (elim c.loop.invariant.first [
          | inl old ↦ Contains-append_left c.loop.path.items _ c.args.o old
          | inr this ↦ rw (← this) (Contains-push c.loop.path.items c.loop.at)
        ]));
      };
    }

pub loop-preserved : goal.loop-preserved
loop-preserved c =
    let pushed = c.in_ok-push.ensures.items in
    let is = sym c.support.ensures ∙ c.in-Edge.is in
    record {
      at = c.requires.sources c.loop.at c.in-Edge.source c.in-Edge.slot is;
      within = λ x c'. elim (Contains-push_cases c.loop.path.items c.loop.at x (rw pushed at c')) [
        | inl old ↦ c.loop.invariant.within x old
        | inr this ↦ rw (← this) c.loop.invariant.at
      ];
      first = inl (rw pushed (elim c.loop.invariant.first [
        | inl old ↦ Contains-append_left c.loop.path.items _ c.args.o old
        | inr this ↦ rw (← this) (Contains-push c.loop.path.items c.loop.at)
      ]));
      down = λ lost known x c' r. further_down c.args.kept.now c.loop.path.items c.loop.at lost c.in-Edge.source c.in-Edge.slot is
          (c.loop.invariant.down lost known) x (rw pushed at c') r;
      up = λ lost known x c' r. further_up c.args.kept.now c.loop.path.items c.loop.at lost c.in-Edge.source c.in-Edge.slot is
          (unknown_not_lost c.args.kept.now lost c.args.known.now c.loop.at known (c.is_known.ensures.no c.if-is_known.false))
          (c.loop.invariant.up lost known) x (rw pushed at c') r;
    }

pub returns-clause-followed : goal.returns-clause-followed
returns-clause-followed c lost known = record { right = λ x is. tt; first = λ some. absurd (some refl) }
