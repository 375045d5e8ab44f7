use Rattle.std.proofs.Common.{ℕ, List, subst}
use Rattle.hd_ids.specs.Directory.{TellsRows}
use Rattle.hd_ids.proofs.paged.PagedIds.index_rows.Goals as goal

pub invariant_of-self : goal.invariant_of-self
invariant_of-self c = record {
  slots_are = c.self.invariant.slots_are;
  told_is = subst (λ (pages : List ℕ). TellsRows pages c.of.result) c.as_slice.ensures.keys c.of.ensures;
}
