use Rattle.std.proofs.Common.{refl}
use Rattle.std.specs.Fork.{ChangesAt}
use Rattle.hd_threads.proofs.PlaceLemmas.{from_nought}
use Rattle.hd_threads.proofs.places.for_each_mut.Goals as goal

pub returns-then-threads-eq1 : goal.returns-then-threads-eq1
returns-then-threads-eq1 g c = λ i d lt. (refl, from_nought (ChangesAt g.F.Fn c.args.f.now) c.args.s.now c.in_turn.new.s c.in_turn.ensures.each i d lt)

pub returns : goal.returns
returns g c = λ i d lt. (refl, from_nought (ChangesAt g.F.Fn c.args.f.now) c.args.s.now c.stretches_from.new.s c.stretches_from.ensures.each i d lt)
