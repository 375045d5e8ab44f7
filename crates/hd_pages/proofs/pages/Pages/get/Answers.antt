use Rattle.std.proofs.Common.{◌≡◌, ◌∙◌, ap, arith, lit<}
use Rattle.std.specs.Arc.{arc_value}
use Rattle.hd_pages.proofs.PartLemmas.{kept_within, kept_place_within, kept_read}
use Rattle.hd_pages.proofs.pages.Pages.get.Goals as goal

pub index-requires : goal.index-requires
index-requires g c =
    omega (
      arith,
      c.self.inside.groups.ok.0,
      kept_within arc_value 262144 c.self.inside.groups.items c.args.i (lit< tt) c.self.invariant.filled
          (rw c.self.view_is c.requires),
    )

pub get-requires : goal.get-requires
get-requires g c =
    let group : c.deref.result.now ≡ _ = c.deref.ensures ∙ ap arc_value c.index.ensures in
    rw group (kept_place_within arc_value 262144 c.self.inside.groups.items c.args.i (lit< tt) c.self.invariant.filled
    (rw c.self.view_is c.requires) c.index.result.now)

pub returns : goal.returns
returns g c =
    let group : c.deref.result.now ≡ _ = c.deref.ensures ∙ ap arc_value c.index.ensures in
    rw (← c.self.view_is) (kept_read arc_value 262144 c.self.inside.groups.items c.args.i (lit< tt) c.self.invariant.filled
    (rw c.self.view_is c.requires) c.index.result.now
    ∙ rw group at c.get.ensures)
