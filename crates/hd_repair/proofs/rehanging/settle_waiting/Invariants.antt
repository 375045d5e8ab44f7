use Rattle.std.proofs.Common.{◌≡◌, ◌+◌, ◌≤◌, List, length}
use Rattle.hd_terms.specs.Regions.{Holding}
use Rattle.hd_terms.specs.Settled.{Reached}
use Rattle.hd_repair.specs.Alone.{IsHalfway}
use Rattle.hd_repair.specs.Losing.{looks_due, progress_of, IsSince}
use Rattle.hd_repair.proofs.rehanging.settle_waiting.Given as goal

-- what is done so far
abbrev pub invariant-loop : goal.invariant-loop
invariant-loop g l =
    let r = g.E.Edges.rows l.fn.edges in
    record {
      same : g.E.Edges.rows l.edges ≡ r;
      count : length l.kept ≡ length l.fn.kept;
      looks : g.E.Edges.look_count l.edges + looks_due r (progress_of l.fn.losing) ≤ g.E.Edges.look_count l.fn.edges + looks_due r (progress_of l.losing);
      halfway : IsHalfway r l.kept l.losing;
      since : (ks0 : List Reached) (lost : List Holding) → IsSince ks0 lost l.fn.kept (progress_of l.fn.losing)
          → IsSince ks0 lost l.kept (progress_of l.losing);
    }
