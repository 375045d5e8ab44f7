use Rattle.std.proofs.Common.{◌∙◌, List, ap}
use Rattle.std.specs.List.{enumerate_from}
use Rattle.hd_reverse.specs.declared.numbers.NumberOn.{NumberOn}
use Rattle.hd_reverse.specs.Numbers.{numbers_on}
use Rattle.hd_reverse.proofs.FillLemmas.{rows_are, cells_rise, cells_within}
use Rattle.hd_reverse.proofs.NumberLemmas.{numbers_of_roots}
use Rattle.hd_reverse.proofs.reverse.ReverseRows.of.Goals as goal

pub invariant_of-result : goal.invariant_of-result
invariant_of-result g c =
    let cells = c.in_ok-starts.starts.items in
    let places = c.in_ok-starts.referrers.items in
    record {
      order = cells_rise c.args.graph.now cells places c.in_ok-starts.ensures;
      within = cells_within c.args.graph.now cells places c.in_ok-starts.ensures;
    }

pub returns : goal.returns
returns g c =
    let dump = c.args.graph.now in
    record {
      objects = c.in_ok-starts.ensures.len;
      referrers = rows_are dump c.in_ok-starts.starts.items c.in_ok-starts.referrers.items c.in_ok-starts.ensures;
      roots =
          λ o.
          c.in_ok-roots.ensures o
          ∙ ap (λ (ns : List NumberOn). numbers_on ns o) c.in_ok-root_numbers.ensures.numbers
          ∙ numbers_of_roots dump o (enumerate_from 0 dump.roots);
      kinds = c.in_ok-kinds.ensures;
    }
