use Rattle.std.proofs.Common.{◌≡◌, true, take}
use Rattle.std.specs.Prelude.{◌↔◌, All, filter}
use Rattle.hd_lines.specs.Names.{IsNamedWith}
use Rattle.hd_analyst.specs.Found.{is_named}
use Rattle.hd_analyst.proofs.found_lines.named_groups.Given as goal

-- those of the groups so far are there
abbrev pub invariant-loop-group : goal.invariant-loop-group
invariant-loop-group l = record {
  is : l.named.items ≡ filter (is_named l.graph l.text) (take l.group-index l.groups);
  contains : All (λ group. (is_named l.graph l.text group ≡ true) ↔ IsNamedWith l.graph l.text group) (take l.group-index l.groups);
}
