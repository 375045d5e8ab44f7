use Rattle.std.proofs.Common.{◌≡◌, ◌+◌, ◌≤◌, take}
use Rattle.hd_repair.specs.Spreading.{AddsOffers}
use Rattle.hd_repair.proofs.offering.offer_out_of.Given as goal

-- the entries so far are offered
abbrev pub invariant-loop-i : goal.invariant-loop-i
invariant-loop-i g l = record {
  same : g.E.Edges.rows l.edges ≡ g.E.Edges.rows l.fn.edges;
  looks : g.E.Edges.look_count l.edges ≤ g.E.Edges.look_count l.fn.edges + l.i;
  adds : AddsOffers (g.E.Edges.rows l.fn.edges).standing l.kept l.o (take l.i ((g.E.Edges.rows l.fn.edges).out l.o)) l.fn.offers l.offers;
}
