-- The roots of events follow those of the dump: root `length dump.roots + k` is the one that event k adds, if it adds one.
-- An added object is one of the dump, so a part has it, and `hold` notes the root there.
use Rattle.std.proofs.Common.{◌≡◌, ◌∙◌, ◌+◌, length, sym, subst, arith, ℕ}
use Rattle.std.specs.Vec.{with_items}
use Rattle.std.proofs.lemmas.List.{with_items_is}
use Rattle.hd_strength.specs.Rows.{root_count}
use Rattle.hd_strength.specs.Parts.{AreHolding, IsHeldBy}
use Rattle.hd_strength.proofs.RowLemmas.{root_none, root_some, held_within}
use Rattle.hd_strength.proofs.Holding.{is_held_in, one_holds, none_holds, held_count}
use Rattle.hd_strength.proofs.roots.apply_roots.Goals as goal
use Rattle.hd_strength.proofs.roots.apply_roots.Goals.{in-Some, in_default}

pub loop-k-init : goal.loop-k-init
loop-k-init g c =
    let none : length c.args.edited.graph.now.roots + 0 ≡ length c.args.edited.graph.now.roots = omega arith in
    rw none c.in_ok-parts.ensures

pub hold-requires : goal.hold-requires
hold-requires g c =
    let dump = c.args.edited.graph.now in
    let log = c.args.edited.front.now in
    let r : ℕ = length dump.roots + c.loop-k.k in
    rw c.deref_mut.ensures.value
    (is_held_in dump log c.args.whole r c.loop-k.parts.items c.in-Some.o c.loop-k.invariant
    (held_within dump log r c.in-Some.o (sym c.in-Some.is ∙ c.added_object.ensures)))

pub loop-k-preserved : goal.loop-k-preserved
loop-k-preserved g c =
    let dump = c.args.edited.graph.now in
    let log = c.args.edited.front.now in
    let r : ℕ = length dump.roots + c.loop-k.k in
    let next : length dump.roots + (c.loop-k.k + 1) ≡ (length dump.roots + c.loop-k.k) + 1 = omega arith in
    let parts = c.loop-k.parts.items in
    elim c.match-added_object.branch [
      | in-Some w ↦
          let t = w.in-Some.o in
          let some = sym w.in-Some.is ∙ c.added_object.ensures in
          let number : w.from.result + w.from-in-Some.result ≡ r = omega (arith, w.from.ensures, w.from-in-Some.ensures, w.roots_len.ensures) in
          let by : IsHeldBy parts w.hold.new.parts t r = rw (w.deref_mut.ensures.value, number) at w.hold.ensures in
          let items : (with_items c.loop-k.parts w.hold.new.parts).items ≡ w.hold.new.parts =
          with_items_is c.loop-k.parts w.hold.new.parts (held_count parts w.hold.new.parts t r by ∙ sym c.loop-k.parts.ok.0) in
          rw (w.parts-is, items, next) (one_holds dump log c.args.whole r t parts w.hold.new.parts c.loop-k.invariant (held_within dump log r t some)
          (root_some dump log r t some) by)
      | in_default w ↦ rw (w.parts-is, next)
          (none_holds dump log c.args.whole r parts c.loop-k.invariant (root_none dump log r (sym w.in_default.is ∙ c.added_object.ensures)))
    ]

pub returns : goal.returns
returns g c =
    let dump = c.args.edited.graph.now in
    let log = c.args.edited.front.now in
    let end : length dump.roots + c.loop-k.k ≡ root_count dump log = omega (arith, c.len-k-end.ensures.len) in
    subst (λ (n : ℕ). AreHolding dump log c.args.whole n c.loop-k.parts.items) end c.loop-k.invariant
