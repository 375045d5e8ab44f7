use Rattle.std.proofs.Common.{List, [], length, ap, arith}
use Rattle.hd_classes.specs.Known.{Known}
use Rattle.hd_classes.specs.Links.{View}
use Rattle.hd_classes.proofs.LinkLemmas.{views-length, nil-from_length}
use Rattle.hd_classes.proofs.classes.Classes.is_empty.Goals as goal

pub returns : goal.returns
returns c =
    let same = views-length c.self.inside.known.entries [] in
    let seen = ap (λ (k : Known). length k.classes) c.self.view_is in (
      λ t. let none = c.is_empty.ensures.0 t in nil-from_length c.args.self.now.classes (omega (arith, none, same, seen)),
      λ none. c.is_empty.ensures.1 (omega (arith, ap (λ (ks : List View). length ks) none, same, seen)),
    )
