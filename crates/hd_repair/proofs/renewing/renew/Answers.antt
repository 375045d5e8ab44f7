-- Chains outside stand, so strengths there are those of the search, and all is settled (`renewed_settled`).
use Rattle.std.proofs.Common.{length, arith}
use Rattle.hd_repair.proofs.RenewLemmas.{all_noted, each_renewed, outside_kept, renewed_settled, stamps_renewed}
use Rattle.hd_repair.proofs.renewing.renew.Goals as goal

pub returns-clause-settled : goal.returns-clause-settled
returns-clause-settled c now lost was marks settled =
    let r = c.in_ok-renewal.ensures in
    let ks = c.args.kept.now in
    renewed_settled now was.before lost ks c.args.found.now _ c.args.marks.now.known.items r.base was.without was.settled settled marks.known marks.all
    r.greatest (each_renewed ks c.args.found.now _ c.args.marks.now.known.items r.base (length ks) r.renewed (omega (arith, c.requires.marks)))

pub returns-clause-changes : goal.returns-clause-changes
returns-clause-changes c =
    let r = c.in_ok-renewal.ensures in
    all_noted c.args.kept.now c.args.found.now _ c.args.marks.now.known.items r.base (length c.args.kept.now) r.renewed
    (omega (arith, c.requires.marks)) _ r.told

pub returns-clause-outside : goal.returns-clause-outside
returns-clause-outside c lost marks o out =
    let r = c.in_ok-renewal.ensures in
    outside_kept c.args.kept.now c.args.found.now _ c.args.marks.now.known.items r.base (length c.args.kept.now) r.renewed (omega (arith, c.requires.marks))
    lost marks.known o out

pub returns-clause-stamps : goal.returns-clause-stamps
returns-clause-stamps c m high o =
    let r = c.in_ok-renewal.ensures in
    stamps_renewed c.args.kept.now c.args.found.now _ c.args.marks.now.known.items r.base (length c.args.kept.now) r.renewed (omega (arith, c.requires.marks))
    r.greatest (length c.args.kept.now) c.requires.stamps m high o

pub returns-clause-count : goal.returns-clause-count
returns-clause-count c = c.in_ok-renewal.ensures.renewed.count
