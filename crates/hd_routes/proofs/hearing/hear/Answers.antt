use Rattle.std.proofs.Common.{ℕ, List, subst}
use Rattle.hd_routes.specs.Hearings.{IsHeard}
use Rattle.hd_routes.proofs.HearingLemmas.{grown}
use Rattle.hd_routes.proofs.hearing.hear.Goals as goal

pub returns-in-Some : goal.returns-in-Some
returns-in-Some g c = (
  c.read_more.new.bytes.items,
  grown _ _ _ _ _ c.loop.invariant c.in_ok-is_end.ensures,
  (
    c.in_ok-is_end.is_end,
    subst (λ (xs : List ℕ). IsHeard c.args.port xs c.in_ok-is_end.is_end c.in-Some.heard) c.as_slice.ensures.value
        (rw c.in-Some.is at c.in_ok-heard.ensures),
  ),
)
