use Rattle.std.proofs.Common.{◌≡◌, ◌+◌, ◌-◌, ◌≤◌, ◌++◌, map}
use Rattle.std.specs.List.{range_with_len}
use Rattle.hd_ids.specs.Numbers.{number_by}
use Rattle.hd_ids.proofs.numbers.push_row.Given as goal

-- the numbers of the places so far are added, and there is room for the others
abbrev pub invariant-loop-place : goal.invariant-loop-place
invariant-loop-place l = (l.scattered.items ≡ l.fn.scattered.items ++ map (number_by l.block) (range_with_len 0 l.place))
    × (l.scattered.len + (32 - l.place) ≤ l.scattered.cap)
