-- A round accepts the greatest offers (`round_begins`), and offers in turn what that makes possible; what is left is no greater.
-- With nothing left no root and no edge gives more than its target has.
use Rattle.std.proofs.Common.{◌∙◌, ◌++◌, length, ap, refl, arith}
use Rattle.hd_repair.proofs.SpreadLemmas.{begins, looks_round, round_begins, settled_when_empty}
use Rattle.hd_repair.proofs.spreading.spread.Goals as goal

pub loop-strength-init : goal.loop-strength-init
loop-strength-init g c = record {
  count = refl;
  same = refl;
  looks = omega arith;
  repairing = rw c.new.ensures.items
      (begins (g.E.Edges.rows c.args.edges.now) c.args.kept.now c.args.offers c.requires.spreading c.requires.count c.requires.targets);
}

pub accept_all-requires : goal.accept_all-requires
accept_all-requires g c =
    let r = g.E.Edges.rows c.args.edges.now in
    let i = c.loop-strength.invariant in
    rw i.same (record {
      beginning = c.args.kept.now;
      small = record { few = c.are_few.ensures; room = c.requires.room };
      in_round = round_begins r c.args.kept.now c.loop-strength.kept c.in-Some.strength _ c.loop-strength.round.offers
          c.loop-strength.round.changes.items i.repairing c.in-Some.ensures.some refl refl c.clear.ensures.items;
    })

pub pass_on-requires-after_bounds : goal.pass_on-requires-after_bounds
pass_on-requires-after_bounds g c κs within =
    let r = g.E.Edges.rows c.args.edges.now in
    let i = c.loop-strength.invariant in
    let h = round_begins r c.args.kept.now c.loop-strength.kept c.in-Some.strength _ c.loop-strength.round.offers
    c.loop-strength.round.changes.items i.repairing c.in-Some.ensures.some refl refl c.clear.ensures.items in
    rw i.same (record {
      beginning = c.args.kept.now;
      small = record { few = c.are_few.ensures; room = c.requires.room };
      in_round = (rw i.same at c.in_ok-accept_all.ensures.in_round) c.args.kept.now h;
    })

pub loop-strength-smaller : goal.loop-strength-smaller
loop-strength-smaller g c =
    let m = c.in-Some.ensures.some in
    let fewer = c.in_ok-accept_all.ensures.fewer m.offer m.made m.strength in
    let on = c.in_ok-accept_all.ensures.goes_on in
    let front = ap length on.front ∙ ap (λ (xs : _). length (xs ++ on.more)) c.clear.ensures.items in
    omega (arith, fewer, on.deficit, front, c.in_ok-pass_on.ensures.few)

pub loop-strength-preserved : goal.loop-strength-preserved
loop-strength-preserved g c =
    let r = g.E.Edges.rows c.args.edges.now in
    let i = c.loop-strength.invariant in
    let h = round_begins r c.args.kept.now c.loop-strength.kept c.in-Some.strength _ c.loop-strength.round.offers
    c.loop-strength.round.changes.items i.repairing c.in-Some.ensures.some refl refl c.clear.ensures.items in
    let on = c.in_ok-accept_all.ensures.goes_on in
    let looks = rw i.same at c.in_ok-pass_on.ensures.looks in
    record {
      count = c.accept_all.ensures.count ∙ i.count;
      same = c.pass_on.ensures.same ∙ i.same;
      looks = rw c.pass_on.ensures.changes (looks_round (λ o. length (r.out o)) c.loop-strength.round.changes.items c.accept_all.new.round.changes.items
          on.more c.accept_all.new.round.front.items _ _ _ on.changes (on.front ∙ ap (λ (xs : _). xs ++ on.more) c.clear.ensures.items) i.looks looks);
      repairing = (rw i.same at c.in_ok-pass_on.ensures.passed) c.args.kept.now ((rw i.same at c.in_ok-accept_all.ensures.in_round) c.args.kept.now h);
    }

pub returns-clause-settled : goal.returns-clause-settled
returns-clause-settled g c = settled_when_empty (g.E.Edges.rows c.args.edges.now).standing c.loop-strength.kept c.loop-strength.round.offers
    (ap length c.in_default.ensures.none) c.loop-strength.invariant.repairing.spreading
