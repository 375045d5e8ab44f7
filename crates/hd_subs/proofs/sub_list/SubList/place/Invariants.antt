use Rattle.std.proofs.Common.{◌≡◌, ◌<◌, length, slice_get, drop}
use Rattle.hd_subs.specs.Joined.{joined}
use Rattle.hd_subs.proofs.sub_list.SubList.place.Given as goal

-- what is looked for is at the index in the parts that are left
abbrev pub invariant-loop-part : goal.invariant-loop-part
invariant-loop-part l = (l.index < length (joined (drop l.part-index l.part-items)))
    × (slice_get (joined (drop l.part-index l.part-items)) l.index ≡ slice_get l.self l.i)
