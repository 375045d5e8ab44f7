use Rattle.std.proofs.Common.{◌≡◌, ◌∙◌, ℕ, subst, sym, arith}
use Rattle.hd_view.specs.Losing.{HasFirstFields}
use Rattle.hd_view.proofs.LostLemmas.{adds_more, adds_none, next_of_class, next_of_others}
use Rattle.hd_view.proofs.lost.push_between.Goals as goal
use Rattle.hd_view.proofs.lost.push_between.Goals.{then-is_of_class+in_ok-push_edge, else-is_of_class}

pub loop-o-init : goal.loop-o-init
loop-o-init c = (adds_none c.args.more.graph.now c.args.more.front.now c.args.less.front.now c.args.items.now.items, λ has. has)

pub loop-o-preserved : goal.loop-o-preserved
loop-o-preserved c =
    let dump = c.args.more.graph.now in
    let more = c.args.more.front.now in
    let less = c.args.less.front.now in
    elim c.if-is_of_class.branch [
      | then-is_of_class+in_ok-push_edge w ↦
          let before = c.loop-o.items.items in
          let after = w.push_edge.new.items.items in
          let adds = w.in_ok-push_edge.ensures.adds in
          rw w.items-is (
            adds_more dump more less c.args.items.now.items before after c.loop-o.invariant.0 adds,
            λ has. next_of_class dump more less c.args.cut.class c.args.cut.field c.loop-o.o before after adds w.in_ok-push_edge.ensures.all
                (c.loop-o.invariant.1 has),
          )
      | else-is_of_class w ↦ rw w.items-is (
        c.loop-o.invariant.0,
        λ has. next_of_others dump more less c.args.cut.class c.args.cut.field c.loop-o.o c.loop-o.items.items
            (sym c.is_of_class.ensures ∙ w.if-is_of_class.false) (c.loop-o.invariant.1 has),
      )
    ]

pub returns-clause-all : goal.returns-clause-all
returns-clause-all c has =
    let end : c.loop-o.o ≡ c.args.end = omega arith in
    subst (λ (n : ℕ). HasFirstFields c.args.more.graph.now c.args.more.front.now c.args.less.front.now c.args.cut.class c.args.cut.field n c.loop-o.items.items)
    end (c.loop-o.invariant.1 has)
