use Rattle.std.proofs.Common.{subst, arith}
use Rattle.hd_terms.specs.Dump.{Dump}
use Rattle.hd_terms.specs.EditedDump.{standing}
use Rattle.hd_terms.specs.Fell.{Falls}
use Rattle.hd_terms.specs.Settled.{Settled}
use Rattle.hd_totals.specs.Fallen.{falls_from}
use Rattle.hd_totals.proofs.LastChangeLemmas.{same-not-falls}
use Rattle.hd_queries.proofs.FallenLemmas.{decides-falls}
use Rattle.hd_queries.proofs.ListedLemmas.{all-ids}
use Rattle.hd_queries.proofs.listing.fallen_ids.Goals as goal

pub ids_of-requires-clause-quiet : goal.ids_of-requires-clause-quiet
ids_of-requires-clause-quiet c = record {
  none = λ o lt quiet. same-not-falls c.compare.result.earlier.strengths.now c.compare.result.later.strengths.now o (c.compare.ensures.same o quiet);
  above = λ o lt. omega arith;
}

pub returns : goal.returns
returns c =
    let dump = c.args.later.graph.now in
    let before = c.args.earlier.front.now in
    let after = c.args.later.front.now in
    let ks = c.args.earlier.strengths.now in
    let ls = c.args.later.strengths.now in
    let settled : Settled (standing dump before) ks =
    subst (λ (d : Dump). Settled (standing d before) ks) c.requires.one_dump c.requires.kept_earlier.settled in
    let decides = decides-falls c.settled_supports_give_strengths.ensures.strengths c.one_strength.ensures dump before after ks ls settled
    c.requires.kept_later.settled in
    let found = c.in_ok-ids.ensures in (
      found.0,
      all-ids dump (falls_from ks ls) (Falls dump before after) found.0 decides
          (rw (c.compare.ensures.earlier, c.compare.ensures.later) at found.1.0) found.1.1,
      found.2,
    )
