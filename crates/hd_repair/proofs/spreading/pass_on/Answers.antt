use Rattle.std.proofs.Common.{◌≡◌, ◌∙◌, ap, arith}
use Rattle.hd_terms.specs.Ranks.{rank, least_passed_on}
use Rattle.hd_repair.proofs.FallLemmas.{each_within}
use Rattle.hd_repair.proofs.SpreadLemmas.{round_ended, round_passed}
use Rattle.hd_repair.proofs.spreading.pass_on.Goals as goal

pub returns-then-rank-clause-passed : goal.returns-then-rank-clause-passed
returns-then-rank-clause-passed g c ks0 h =
    let r = g.E.Edges.rows c.args.edges.now in
    let least : rank c.least_passed_on.result ≡ rank (least_passed_on r.standing.mode) =
    ap rank (c.least_passed_on.ensures ∙ ap least_passed_on c.mode.ensures) in
    round_ended r c.are_rows.ensures ks0 c.args.kept.now c.args.strength c.args.round.now h
    (λ passes. omega (arith, least, c.if-rank.true, c.rank.ensures, c.rank-2.ensures))

pub offer_out-requires-clause-objects : goal.offer_out-requires-clause-objects
offer_out-requires-clause-objects g c κs within =
    rw c.deref.ensures.value (each_within c.args.round.now.front.items (g.E.Edges.rows c.args.edges.now).objects
    (λ x is. (c.requires.in_round.front x is).0))

pub returns-clause-passed : goal.returns-clause-passed
returns-clause-passed g c ks0 h =
    let r = g.E.Edges.rows c.args.edges.now in
    let least : rank c.least_passed_on.result ≡ rank (least_passed_on r.standing.mode) =
    ap rank (c.least_passed_on.ensures ∙ ap least_passed_on c.mode.ensures) in
    round_passed r c.are_rows.ensures ks0 c.args.kept.now c.args.strength c.args.round.now h c.offer_out.new.offers
    (omega (arith, least, c.if-rank.false, c.rank.ensures, c.rank-2.ensures)) (rw c.deref.ensures.value at c.in_ok-offer_out.ensures.offers)
