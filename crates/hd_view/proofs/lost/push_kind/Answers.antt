use Rattle.std.proofs.Common.{◌≡◌, ◌∙◌, ◌<◌, ◌≤◌, ℕ, length, sym, ap, arith}
use Rattle.hd_terms.specs.declared.Slot.{Slot}
use Rattle.hd_terms.specs.Edges.{kind_edges}
use Rattle.hd_strength.specs.Cleared.{is_cleared}
use Rattle.hd_view.proofs.LostLemmas.{adds_more, none_stood, kind_source, next_of_kind, all_of_kind}
use Rattle.hd_view.proofs.lost.push_kind.Goals as goal

pub returns-then-clears-clause-all : goal.returns-then-clears-clause-all
returns-then-clears-clause-all c =
    none_stood c.args.more.graph.now c.args.more.front.now c.args.less.front.now c.args.more.removed.now c.args.kind c.clears.result c.args.items.now.items
    c.requires.more
    (c.clears.ensures ∙ ap (is_cleared c.args.more.removed.now.cleared) c.edge_kind.ensures) c.if-clears.true

pub push_edge-requires-clause-object : goal.push_edge-requires-clause-object
push_edge-requires-clause-object c =
    let (e, at, is) = c.kind_edge-o.ensures in
    let source : c.kind_edge-o.result.0 ≡ e.source = ap (λ (p : ℕ × Slot). p.0) is in
    let lt : e.source < length c.args.more.graph.now.objects = kind_source c.args.more.graph.now c.args.kind c.loop-j.j e at in
    omega (arith, source, lt)

pub loop-j-preserved : goal.loop-j-preserved
loop-j-preserved c =
    let dump = c.args.more.graph.now in
    let more = c.args.more.front.now in
    let less = c.args.less.front.now in
    let before = c.loop-j.items.items in
    let after = c.push_edge.new.items.items in
    let adds = c.in_ok-push_edge.ensures.adds in
    let (e, at, is) = c.kind_edge-o.ensures in (
      adds_more dump more less c.args.items.now.items before after c.loop-j.invariant.0 adds,
      next_of_kind dump more less c.args.kind c.loop-j.j c.kind_edge-o.result.0 c.kind_edge-o.result.1 e before after at (sym (ap (λ (p : ℕ × Slot). p.0) is))
          (sym (ap (λ (p : ℕ × Slot). p.1) is)) adds c.in_ok-push_edge.ensures.all c.loop-j.invariant.1,
    )

pub returns-clause-all : goal.returns-clause-all
returns-clause-all c =
    let le : length (kind_edges c.args.more.graph.now c.args.kind) ≤ c.loop-j.j = omega (arith, c.kind_len-j-end.ensures, c.loop-j-test.false) in
    all_of_kind c.args.more.graph.now c.args.more.front.now c.args.less.front.now c.args.kind c.loop-j.j c.loop-j.items.items le c.loop-j.invariant.1
