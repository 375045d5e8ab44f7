use Rattle.std.proofs.Common.{◌≡◌, map, take}
use Rattle.std.specs.Prelude.{All}
use Rattle.hd_terms.specs.Listed.{group_key}
use Rattle.hd_totals.specs.Members.{InRange}
use Rattle.hd_totals.proofs.groups.groups_of.Given as goal

-- the groups of the keys that were passed
abbrev pub invariant-loop-key : goal.invariant-loop-key
invariant-loop-key l = record {
  keys : map group_key l.groups.items ≡ take l.key-index l.keys;
  range : All InRange l.groups.items;
}
