use Rattle.std.proofs.Common.{◌≡◌}
use Rattle.hd_slots.specs.Shared.{found_item}
use Rattle.hd_slots.proofs.ResolvingLemmas.{AreMapped}
use Rattle.hd_slots.proofs.resolving.find_part.Given as goal

-- what is kept before the index is found
abbrev pub invariant-loop-i : goal.invariant-loop-i
invariant-loop-i l = AreMapped (found_item l.ids l.bytes l.id_size l.shared) l.initial.part l.part l.i × (l.finder ≡ l.ids)
