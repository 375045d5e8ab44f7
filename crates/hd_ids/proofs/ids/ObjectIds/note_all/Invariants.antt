use Rattle.std.proofs.Common.{◌≡◌, false, ◌++◌, take}
use Rattle.std.specs.List.{list_any}
use Rattle.hd_ids.specs.Noted.{is_noted}
use Rattle.hd_ids.proofs.ids.ObjectIds.note_all.Given as goal

-- the IDs so far are noted, and none of them was one of those before
abbrev pub invariant-loop-number : goal.invariant-loop-number
invariant-loop-number l = (l.self ≡ l.initial.self ++ take l.number l.back) × (list_any (is_noted l.initial.self) (take l.number l.back) ≡ false)
