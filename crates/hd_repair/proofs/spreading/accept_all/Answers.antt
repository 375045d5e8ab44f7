-- Each offer that is taken out is declined or accepted, and the round goes on (`decline`, `accept`).
use Rattle.std.proofs.Common.{◌∙◌, inl, inr, length, refl, ap, arith}
use Rattle.hd_repair.proofs.SpreadLemmas.{accept, decline, goes_on_more, goes_on_same, none_goes_on, offer_within, stamp_room}
use Rattle.hd_repair.proofs.spreading.accept_all.Goals as goal

pub loop-offer-init : goal.loop-offer-init
loop-offer-init g c = record { count = refl; in_round = λ ks0 h. h; goes_on = none_goes_on c.args.kept.now c.args.round.now; fewer = inl refl }

pub accept_offer-requires-clause-target : goal.accept_offer-requires-clause-target
accept_offer-requires-clause-target g c =
    let s = c.requires in
    let h = c.loop-offer.invariant.in_round s.beginning s.in_round in
    rw h.count (h.targets c.in-Some.offer c.in-Some.ensures.some.made)

pub accept_offer-requires-clause-within : goal.accept_offer-requires-clause-within
accept_offer-requires-clause-within g c =
    let s = c.requires in
    offer_within (g.E.Edges.rows c.args.edges.now) s.beginning c.loop-offer.kept c.args.strength c.loop-offer.round
    (c.loop-offer.invariant.in_round s.beginning s.in_round) c.in-Some.offer c.in-Some.ensures.some.made

pub accept_offer-requires-clause-room : goal.accept_offer-requires-clause-room
accept_offer-requires-clause-room g c =
    let s = c.requires in
    stamp_room (g.E.Edges.rows c.args.edges.now) s.beginning c.loop-offer.kept c.args.strength c.loop-offer.round
    (c.loop-offer.invariant.in_round s.beginning s.in_round) s.small

pub loop-offer-preserved : goal.loop-offer-preserved
loop-offer-preserved g c =
    let r = g.E.Edges.rows c.args.edges.now in
    let i = c.loop-offer.invariant in
    let f = c.in-Some.offer in
    let t = c.in-Some.ensures.some in
    let s = c.requires in
    let h = i.in_round s.beginning s.in_round in
    record {
      count = c.accept_offer.ensures.count ∙ i.count;
      in_round = λ ks0 h0. elim c.in_ok-accept_offer.ensures.ok [
        | inl d ↦ rw (d.same_kept, d.same) (decline r ks0 c.loop-offer.kept c.loop-offer.kept c.args.strength c.loop-offer.round _ c.accept_offer.new.round f
            (i.in_round ks0 h0) t refl refl d.no_more)
        | inr d ↦ accept r ks0 c.loop-offer.kept c.accept_offer.new.kept c.args.strength c.loop-offer.round _ c.accept_offer.new.round f
            (i.in_round ks0 h0) t refl refl d
      ];
      goes_on = elim c.in_ok-accept_offer.ensures.ok [
        | inl d ↦ rw (d.same_kept, d.same) (goes_on_same c.args.kept.now c.loop-offer.kept c.args.round.now c.loop-offer.round _ refl refl i.goes_on)
        | inr d ↦ goes_on_more r s.beginning c.loop-offer.kept c.accept_offer.new.kept c.args.strength c.loop-offer.round _ c.accept_offer.new.round f
            h t refl refl d c.args.kept.now c.args.round.now i.goes_on
      ];
      fewer = inr (elim i.fewer [
        | inl same ↦ elim c.in_ok-accept_offer.ensures.ok [
          | inl d ↦ omega (arith, ap (λ (x : _). length x.offers) d.same, t.fewer, ap length same)
          | inr d ↦ omega (arith, ap length d.offers, t.fewer, ap length same)
        ]
        | inr less ↦ elim c.in_ok-accept_offer.ensures.ok [
          | inl d ↦ omega (arith, ap (λ (x : _). length x.offers) d.same, t.fewer, less)
          | inr d ↦ omega (arith, ap length d.offers, t.fewer, less)
        ]
      ]);
    }

pub loop-offer-smaller : goal.loop-offer-smaller
loop-offer-smaller g c =
    let t = c.in-Some.ensures.some in
    elim c.in_ok-accept_offer.ensures.ok [
      | inl d ↦ omega (arith, ap (λ (x : _). length x.offers) d.same, t.fewer)
      | inr d ↦ omega (arith, ap length d.offers, t.fewer)
    ]

pub returns-clause-fewer : goal.returns-clause-fewer
returns-clause-fewer g c x made same = elim c.loop-offer.invariant.fewer [
  | inr less ↦ rw c.in_default.ensures.none.0 less
  | inl still ↦ absurd (c.in_default.ensures.none.1 x (rw still made) same)
]
