-- The item lies in one page, which is copied if it is shared, and written; all other pages stay.
-- Where the copy is refused the pages hold what they held (`refused`).
use Rattle.std.proofs.Common.{◌≡◌, ◌∙◌, ◌/◌, map, set, ap, arith, lit<, is_ok}
use Rattle.std.specs.Arc.{arc_value}
use Rattle.std.proofs.lemmas.Result.{IfErr-at_err}
use Rattle.hd_pages.specs.Parts.{joined}
use Rattle.hd_pages.proofs.PartLemmas.{either, on_err, kept_within, kept_place_within, kept_same, kept_put, IsFilled-kept_put}
use Rattle.hd_pages.proofs.group.Group.put.Goals as goal

pub index_mut-requires : goal.index_mut-requires
index_mut-requires g c =
    omega (
      arith,
      c.self.inside.pages.ok.0,
      kept_within arc_value 1024 c.self.inside.pages.items c.args.i (lit< tt) c.self.invariant
          (rw c.self.view_is c.requires),
    )

-- a refused write: the pages hold what they held
refused : (g : _) (c : goal.After-from_residual g)
    → map arc_value (set c.self.inside.pages.items (c.args.i / 1024) c.make_mut.follows.lender-at-none) ≡ map arc_value c.self.inside.pages.items
refused g c =
    let same : arc_value c.make_mut.follows.lender-at-none ≡ _ = either (IfErr-at_err (λ _. _) c.in_err-page.was c.make_mut.follows.holds-at-none)
    ∙ ap arc_value c.index_mut.ensures.value in
    kept_same arc_value 1024 c.self.inside.pages.items c.args.i (lit< tt) c.self.invariant
    (rw c.self.view_is c.requires) c.index_mut.result.now c.make_mut.follows.lender-at-none same

pub invariant_of-self : goal.invariant_of-self
invariant_of-self g c = rw (refused g c) c.self.invariant

pub returns-in_err-page-clause-err : goal.returns-in_err-page-clause-err
returns-in_err-page-clause-err g c = on_err c.from_residual.result (rw (← c.self.view_is) (ap joined (refused g c)))

pub put-requires : goal.put-requires
put-requires g c =
    let page : c.in_ok-page.page.now ≡ _ = either c.in_ok-page.ensures.value ∙ ap arc_value c.index_mut.ensures.value in
    rw page (kept_place_within arc_value 1024 c.self.inside.pages.items c.args.i (lit< tt) c.self.invariant
    (rw c.self.view_is c.requires) c.index_mut.result.now)

pub invariant_of-self-2 : goal.invariant_of-self-2
invariant_of-self-2 g c =
    let page : c.in_ok-page.page.now ≡ _ = either c.in_ok-page.ensures.value ∙ ap arc_value c.index_mut.ensures.value in
    let put : arc_value (c.make_mut.follows.lender c.put.new.self) ≡ _ = c.make_mut.follows.holds c.put.new.self (ap is_ok c.in_ok-page.was)
    ∙ rw page at c.put.ensures in
    IsFilled-kept_put arc_value 1024 c.self.inside.pages.items c.args.i (lit< tt) c.self.invariant (rw c.self.view_is c.requires) c.index_mut.result.now
    (c.make_mut.follows.lender c.put.new.self) c.args.item put

pub returns-clause-ok : goal.returns-clause-ok
returns-clause-ok g c =
    let page : c.in_ok-page.page.now ≡ _ = either c.in_ok-page.ensures.value ∙ ap arc_value c.index_mut.ensures.value in
    let put : arc_value (c.make_mut.follows.lender c.put.new.self) ≡ _ = c.make_mut.follows.holds c.put.new.self (ap is_ok c.in_ok-page.was)
    ∙ rw page at c.put.ensures in
    rw (← c.self.view_is) (kept_put arc_value 1024 c.self.inside.pages.items c.args.i (lit< tt) c.self.invariant
    (rw c.self.view_is c.requires) c.index_mut.result.now (c.make_mut.follows.lender c.put.new.self) c.args.item put)
