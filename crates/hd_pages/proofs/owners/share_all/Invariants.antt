use Rattle.std.proofs.Common.{◌≡◌, map, take}
use Rattle.std.specs.Arc.{arc_value}
use Rattle.hd_pages.proofs.owners.share_all.Given as goal

-- the owners so far
abbrev pub invariant-loop-owner : goal.invariant-loop-owner
invariant-loop-owner g l = map arc_value l.shared.items ≡ map arc_value (take l.owner-index l.owners)
