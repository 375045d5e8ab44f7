use Rattle.std.proofs.Common.{refl}
use Rattle.hd_strength.proofs.Going.{noted}
use Rattle.hd_strength.proofs.relaxing.relax_round.Goals as goal

pub returns-in-Ok : goal.returns-in-Ok
returns-in-Ok c = λ well.
    noted c.args.edited.graph.now c.args.edited.front.now c.args.strength c.args.part.now c.relax_objects.new.part _ c.in-Ok.ensures
    (record { first = refl; found = refl; buckets = refl; handed = λ o is. is; count = refl }) refl
