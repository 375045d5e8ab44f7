use Rattle.std.proofs.Common.{[], length, ap, arith}
use Rattle.hd_classes.specs.Known.{Known}
use Rattle.hd_classes.proofs.LinkLemmas.{views-length}
use Rattle.hd_classes.proofs.classes.Classes.len.Goals as goal

pub returns : goal.returns
returns c = omega (arith, c.len.ensures.len, views-length c.self.inside.known.entries [], ap (λ (k : Known). length k.classes) c.self.view_is)
