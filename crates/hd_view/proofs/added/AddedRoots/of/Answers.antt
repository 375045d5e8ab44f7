use Rattle.std.proofs.Common.{◌∙◌, List, ap, arith}
use Rattle.std.specs.List.{enumerate_from}
use Rattle.hd_reverse.specs.declared.numbers.NumberOn.{NumberOn}
use Rattle.hd_reverse.specs.Numbers.{numbers_on}
use Rattle.hd_view.proofs.AddedLemmas.{numbers_of_events}
use Rattle.hd_view.proofs.added.AddedRoots.of.Goals as goal

pub returns : goal.returns
returns c = record {
  events =
      λ o.
      c.in_ok-events.ensures o
      ∙ ap (λ (ns : List NumberOn). numbers_on ns o) c.in_ok-event_numbers.ensures.numbers
      ∙ numbers_of_events c.args.graph.now o (enumerate_from 0 c.args.front.now);
  few = omega (arith, c.len.ensures.len, c.roots_len.ensures);
}
