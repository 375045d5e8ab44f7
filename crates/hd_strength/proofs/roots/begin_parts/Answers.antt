use Rattle.std.proofs.Common.{◌≡◌, length, false, refl}
use Rattle.std.proofs.lemmas.Option.{slice_get_read, slice_get_within}
use Rattle.hd_strength.specs.declared.part.Part.{Part}
use Rattle.hd_strength.specs.Parts.{HasQueued}
use Rattle.hd_strength.proofs.Rowed.{at_place}
use Rattle.hd_strength.proofs.roots.begin_parts.Goals as goal

pub for_each_mut-requires-clause-accepts : goal.for_each_mut-requires-clause-accepts
for_each_mut-requires-clause-accepts g c κs within =
    λ i p lt read. c.requires.ready i p.now (slice_get_read c.args.parts.now (length c.args.parts.now) i p.now refl lt read)

pub returns-clause-each : goal.returns-clause-each
returns-clause-each g c = λ k p q there here well.
    let at = (c.for_each_mut.ensures k p (slice_get_within c.args.parts.now k p there)).1 in
    at_place (λ (p q : Part). q.failed ≡ false → HasQueued p q) c.args.parts.now c.for_each_mut.new.s k p q _ _ there here at.argument_is at.left at.call well
