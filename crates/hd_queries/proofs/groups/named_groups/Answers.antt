use Rattle.std.proofs.Common.{◌∙◌, ◌+◌, ◌≤◌, List, ◌++◌, map, sym, ap, subst, arith}
use Rattle.hd_terms.specs.declared.ClassRow.{ClassRow}
use Rattle.hd_totals.specs.Rows.{row_group}
use Rattle.hd_queries.specs.Groups.{AreGroupsAbove}
use Rattle.hd_queries.proofs.GroupLemmas.{none-above, more-above, all-named}
use Rattle.hd_queries.proofs.groups.named_groups.Goals as goal

pub loop-place-init : goal.loop-place-init
loop-place-init c = λ ks totals. subst (AreGroupsAbove c.args.graph.now ks 0) (sym c.in_ok-groups.ensures) (none-above c.args.graph.now ks)

pub loop-place-preserved : goal.loop-place-preserved
loop-place-preserved c = λ ks totals.
    let dump = c.args.graph.now in
    let place = c.loop-place.place in
    let gs = c.loop-place.groups.items in
    let rows = c.in_ok-rows.rows.items in
    subst (AreGroupsAbove dump ks (place + 1))
    (sym (c.in_ok-push_groups.ensures ∙ ap (λ (more : List ClassRow). gs ++ map row_group more) c.as_slice.ensures.value))
    (more-above dump ks c.strength_at.result rows place c.strength_at.ensures (c.in_ok-rows.ensures.members dump ks totals) gs
    (c.loop-place.invariant ks totals))

pub returns : goal.returns
returns c =
    let dump = c.args.graph.now in
    let ks = c.requires.totals.0 in
    let gs = c.loop-place.groups.items in
    let place = c.loop-place.place in
    let enough : 6 ≤ place = omega (arith, c.loop-place-test.false) in
    let all : AreGroupsAbove dump ks place gs = c.loop-place.invariant ks c.requires.totals.1 in
    all-named dump ks place enough gs c.in_ok-ordered.ordered.items all c.in_ok-ordered.ensures.in_order
    (rw (sym c.as_slice-2.ensures.value) c.in_ok-ordered.ensures.same)
