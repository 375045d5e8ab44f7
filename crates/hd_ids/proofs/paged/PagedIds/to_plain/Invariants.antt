use Rattle.std.proofs.Common.{◌≡◌, nat_eq, [], take}
use Rattle.indexmap.specs.IndexSet.{insert_all}
use Rattle.hd_ids.proofs.paged.PagedIds.to_plain.Given as goal

-- the IDs so far are inserted
abbrev pub invariant-loop-number : goal.invariant-loop-number
invariant-loop-number l = l.plain ≡ insert_all nat_eq [] (take l.number l.self)
