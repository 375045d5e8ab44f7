use Rattle.std.proofs.Common.{◌≡◌, ◌∙◌, ℕ, length, sym, subst, arith}
use Rattle.std.specs.Vec.{with_items}
use Rattle.std.proofs.lemmas.List.{with_items_is}
use Rattle.hd_strength.specs.Parts.{AreHolding, IsHeldBy}
use Rattle.hd_strength.proofs.RowLemmas.{root_none, root_some, held_within}
use Rattle.hd_strength.proofs.Holding.{is_held_in, one_holds, none_holds, held_count}
use Rattle.hd_strength.proofs.roots.apply_dump_roots.Goals as goal
use Rattle.hd_strength.proofs.roots.apply_dump_roots.Goals.{in-Some, in_default}

pub hold-requires : goal.hold-requires
hold-requires g c =
    let dump = c.args.edited.graph.now in
    let log = c.args.edited.front.now in
    rw c.deref_mut.ensures.value (is_held_in dump log c.args.whole c.loop-r.r c.loop-r.parts.items c.in-Some.o c.loop-r.invariant
    (held_within dump log c.loop-r.r c.in-Some.o (sym c.in-Some.is ∙ c.root_object.ensures)))

pub loop-r-preserved : goal.loop-r-preserved
loop-r-preserved g c =
    let dump = c.args.edited.graph.now in
    let log = c.args.edited.front.now in
    let r = c.loop-r.r in
    let parts = c.loop-r.parts.items in
    elim c.match-root_object.branch [
      | in-Some w ↦
          let t = w.in-Some.o in
          let some = sym w.in-Some.is ∙ c.root_object.ensures in
          let by : IsHeldBy parts w.hold.new.parts t r = rw (w.deref_mut.ensures.value, w.from.ensures) at w.hold.ensures in
          let items : (with_items c.loop-r.parts w.hold.new.parts).items ≡ w.hold.new.parts =
          with_items_is c.loop-r.parts w.hold.new.parts (held_count parts w.hold.new.parts t r by ∙ sym c.loop-r.parts.ok.0) in
          rw (w.parts-is, items) (one_holds dump log c.args.whole r t parts w.hold.new.parts c.loop-r.invariant (held_within dump log r t some)
          (root_some dump log r t some) by)
      | in_default w ↦ rw w.parts-is
          (none_holds dump log c.args.whole r parts c.loop-r.invariant (root_none dump log r (sym w.in_default.is ∙ c.root_object.ensures)))
    ]

pub returns : goal.returns
returns g c =
    let end : c.loop-r.r ≡ length c.args.edited.graph.now.roots = omega arith in
    subst (λ (n : ℕ). AreHolding c.args.edited.graph.now c.args.edited.front.now c.args.whole n c.loop-r.parts.items) end c.loop-r.invariant
