-- The targets of what was gained are all that may lack something (`begin_gain`): each has its best offer,
-- and spreading settles the rest. Looks are those of the targets and of what became stronger.
use Rattle.std.proofs.Common.{◌≡◌, ◌+◌, ◌<◌, length, get_or, ap, arith}
use Rattle.std.proofs.lemmas.List.Elements.{All-contains, Contains-get_or}
use Rattle.hd_terms.specs.Regions.{Holding, as_target, by_change}
use Rattle.hd_terms.specs.Ranks.{rank}
use Rattle.hd_repair.specs.Spreading.{rank_at}
use Rattle.hd_repair.proofs.GainLemmas.{begin_gain, stamps_up, looks_up, told, outside_gain}
use Rattle.hd_repair.proofs.ResupportLemmas.{changes_since, region_since}
use Rattle.hd_repair.proofs.gaining.gain.Goals as goal

pub support_or_offer_each-requires-clause-objects : goal.support_or_offer_each-requires-clause-objects
support_or_offer_each-requires-clause-objects g c = rw c.deref.ensures.value (λ k d lt.
    let x = c.in_ok-targets.ensures.only (get_or c.in_ok-targets.targets.items k d) (Contains-get_or c.in_ok-targets.targets.items k d lt) in
    rw (← x.2) (All-contains (λ (h : Holding). h.target < (g.E.Edges.rows c.args.edges.now).objects) c.args.gained.now x.0 c.requires.targets x.1))

pub support_or_offer_each-requires-clause-spreading : goal.support_or_offer_each-requires-clause-spreading
support_or_offer_each-requires-clause-spreading g c = rw c.deref.ensures.value (begin_gain c.requires.settled.before
    (g.E.Edges.rows c.args.edges.now).standing c.args.gained.now c.args.kept.now c.in_ok-targets.targets.items c.requires.settled.without
    c.requires.settled.settled c.in_ok-targets.ensures.all)

pub spread-requires-clause-targets : goal.spread-requires-clause-targets
spread-requires-clause-targets g c κs within = rw c.support_or_offer_each.ensures.same c.in_ok-offers.ensures.targets

pub spread-requires-clause-room : goal.spread-requires-clause-room
spread-requires-clause-room g c κs within o = omega (arith, c.requires.room o, c.in_ok-offers.ensures.resupported.stamps o)

pub returns-clause-changes : goal.returns-clause-changes
returns-clause-changes g c = changes_since c.args.kept.now c.support_or_offer_each.new.kept c.spread.new.kept _ c.in_ok-offers.ensures.resupported
    c.in_ok-changes.changes.items
    (told c.support_or_offer_each.new.kept c.spread.new.kept c.in_ok-changes.changes.items c.in_ok-changes.ensures.changes)

pub returns-clause-outside : goal.returns-clause-outside
returns-clause-outside g c o = region_since c.args.kept.now c.support_or_offer_each.new.kept c.spread.new.kept c.in_ok-targets.targets.items
    (rw c.deref.ensures.value at c.in_ok-offers.ensures.resupported) c.args.gained.now c.in_ok-targets.ensures.only o
    (outside_gain c.support_or_offer_each.new.kept c.spread.new.kept c.in_ok-changes.changes.items c.in_ok-changes.ensures.changes c.args.gained.now o)

pub returns-clause-looks : goal.returns-clause-looks
returns-clause-looks g c =
    let rows = g.E.Edges.rows in
    let r = rows c.args.edges.now in
    let ks1 = c.support_or_offer_each.new.kept in
    let first = rw c.deref.ensures.value at c.in_ok-offers.ensures.looks in
    let second = rw c.support_or_offer_each.ensures.same at c.in_ok-changes.ensures.looks in
    λ region all. looks_up ks1 c.spread.new.kept c.in_ok-changes.changes.items c.in_ok-changes.ensures.changes c.in_ok-targets.targets.items
    c.in_ok-targets.ensures.once (λ o. length (r.out o)) (λ o. length (r.roots o) + length (r.into o)) _ _ _ first second region
    (λ o c'. let x = c.in_ok-targets.ensures.only o c' in rw (← x.2) (all x.0.target (as_target x.0 x.1)))
    (λ o more. all o (by_change (λ same.
    let one : rank_at c.args.kept.now o ≡ rank_at c.spread.new.kept o = ap rank same in
    let was : rank_at ks1 o ≡ rank_at c.args.kept.now o = ap rank (c.in_ok-offers.ensures.resupported.strengths o) in
    omega (arith, more, one, was))))

pub returns-clause-stamps : goal.returns-clause-stamps
returns-clause-stamps g c m small = stamps_up c.support_or_offer_each.new.kept c.spread.new.kept c.in_ok-changes.changes.items
    c.in_ok-changes.ensures.changes (g.E.Edges.rows c.args.edges.now).objects
    (omega (arith, c.spread.ensures.count, c.support_or_offer_each.ensures.count, c.requires.count)) m
    (λ o. omega (arith, small o, c.in_ok-offers.ensures.resupported.stamps o))
