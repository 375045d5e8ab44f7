use Rattle.hd_terms.specs.Totals.{IsMember}
use Rattle.hd_totals.specs.Members.{is_member}
use Rattle.hd_queries.proofs.ListedLemmas.{all-ids, decides-member, unmarked-not-member}
use Rattle.hd_queries.proofs.listing.member_ids.Goals as goal

pub ids_of-requires-clause-quiet : goal.ids_of-requires-clause-quiet
ids_of-requires-clause-quiet c =
    let dump = c.args.solved.graph.now in
    let pages = c.args.members.pages.now in
    record {
      none = λ o lt quiet. unmarked-not-member dump c.args.solved.strengths.now pages c.args.members.group c.args.members.strength o
          (c.requires.noted o lt) quiet;
      above = λ o lt. (c.requires.noted o lt).above;
    }

pub returns : goal.returns
returns c =
    let dump = c.args.solved.graph.now in
    let log = c.args.solved.front.now in
    let ks = c.args.solved.strengths.now in
    let group = c.args.members.group in
    let s = c.args.members.strength in
    let decides = decides-member c.settled_supports_give_strengths.ensures.strengths c.one_strength.ensures dump log ks c.requires.kept.settled group s in
    let found = c.in_ok-ids.ensures in
    (found.0, all-ids dump (is_member dump ks group s) (IsMember dump log group s) found.0 decides found.1.0 found.1.1, found.2)
