use Rattle.std.proofs.Common.{◌≡◌, ◌∙◌, ap, arith, lit<}
use Rattle.std.specs.Arc.{arc_value}
use Rattle.hd_pages.proofs.PartLemmas.{kept_within, kept_place_within, kept_read}
use Rattle.hd_pages.proofs.group.Group.get.Goals as goal

pub index-requires : goal.index-requires
index-requires g c =
    omega (
      arith,
      c.self.inside.pages.ok.0,
      kept_within arc_value 1024 c.self.inside.pages.items c.args.i (lit< tt) c.self.invariant
          (rw c.self.view_is c.requires),
    )

pub get-requires : goal.get-requires
get-requires g c =
    let page : c.deref.result.now ≡ _ = c.deref.ensures ∙ ap arc_value c.index.ensures in
    rw page (kept_place_within arc_value 1024 c.self.inside.pages.items c.args.i (lit< tt) c.self.invariant (rw c.self.view_is c.requires) c.index.result.now)

pub returns : goal.returns
returns g c =
    let page : c.deref.result.now ≡ _ = c.deref.ensures ∙ ap arc_value c.index.ensures in
    rw (← c.self.view_is) (kept_read arc_value 1024 c.self.inside.pages.items c.args.i (lit< tt) c.self.invariant
    (rw c.self.view_is c.requires) c.index.result.now
    ∙ rw page at c.get.ensures)
