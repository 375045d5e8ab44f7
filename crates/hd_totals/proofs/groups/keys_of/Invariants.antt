use Rattle.std.proofs.Common.{◌≡◌, ◌≤◌, map, take}
use Rattle.std.specs.Prelude.{All}
use Rattle.hd_terms.specs.Listed.{group_key}
use Rattle.hd_totals.specs.Members.{InRange}
use Rattle.hd_totals.proofs.groups.keys_of.Given as goal

-- the keys of the groups that were passed
abbrev pub invariant-loop-group : goal.invariant-loop-group
invariant-loop-group l = record {
  keys : l.keys.items ≡ map group_key (take l.group-index l.groups);
  range : All InRange (take l.group-index l.groups);
  small : All (λ key. key ≤ 18446744073709551872) l.keys.items;
}
