use Rattle.std.proofs.Common.{◌≡◌, ◌∙◌, List, Option, Some, None, Vec, ℕ, get_or, sym, ap}
use Rattle.std.specs.declared.alloc.Global.{Global}
use Rattle.hd_classes.proofs.fit.LayoutBytes.places.Goals as goal

pub returns-in-Some-Some : goal.returns-in-Some-Some
returns-in-Some-Some c =
    let places = c.self.inside.places.items in
    let noted = c.in-Some-Some.places in
    let at : get_or places c.args.class None ≡ Some noted =
    ap (λ (ps : List (Option (Vec ℕ Global))). get_or ps c.args.class None) (sym c.deref.ensures.value) ∙ sym (c.in-Some-Some.ensures.lookup.3.1 None)
    ∙ c.in-Some-Some.field-0-is in
    rw (← c.self.view_is) (c.as_slice.ensures.value ∙ c.self.invariant.places.are c.args.class noted at)
