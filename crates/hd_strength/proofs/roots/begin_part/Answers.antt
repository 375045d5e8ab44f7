use Rattle.std.proofs.Common.{refl}
use Rattle.hd_strength.proofs.Holding.{queued_noted}
use Rattle.hd_strength.proofs.roots.begin_part.Goals as goal

pub returns-in-Ok : goal.returns-in-Ok
returns-in-Ok c = λ well.
    queued_noted c.args.part.now c.prepare.new.part _ c.in-Ok.ensures
    (record { first = refl; found = refl; buckets = refl; handed = λ o is. is; count = refl }) refl
