use Rattle.std.proofs.Common.{◌≡◌, ◌∙◌, List, Some, slice_get, length, refl, sym, ap, subst, arith}
use Rattle.hd_strength.specs.declared.part.Part.{Part}
use Rattle.hd_strength.specs.Parts.{AreHolding}
use Rattle.hd_strength.proofs.Ending.{lent}
use Rattle.hd_strength.proofs.Holding.{all_parts, filled}
use Rattle.hd_strength.proofs.roots.parts_of.Goals as goal

pub returns : goal.returns
returns g c =
    let dump = c.args.edited.graph.now in
    let log = c.args.edited.front.now in
    let n = c.objects-objects.result in
    let old = c.in_ok-parts.parts.items in
    let new = c.fill_parts.new.parts in
    let is = lent old new c.in_ok-parts.parts.len c.in_ok-parts.parts.ok.0 (c.fill_parts.ensures.count ∙ ap length c.deref_mut.ensures.value) in
    let well = c.has_failed.ensures c.if-has_failed.false in
    subst (AreHolding dump log c.args.whole 0) (sym is)
    (all_parts dump log c.args.whole n new n
    (filled dump _ n c.args.whole old new n c.in_ok-parts.ensures (c.fill_parts.ensures.count ∙ ap length c.deref_mut.ensures.value)
    (λ k p q there here. c.fill_parts.ensures.each k p q (subst (λ (ps : List Part). slice_get ps k ≡ Some p) (sym c.deref_mut.ensures.value) there) here
    (well k q (subst (λ (ps : List Part). slice_get ps k ≡ Some q) (sym (c.deref.ensures.value ∙ is)) here)))
    c.objects-objects.ensures)
    (omega arith) c.objects-objects.ensures refl)
