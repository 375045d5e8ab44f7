use Rattle.hd_ids.specs.Put.{HaveGotRows}
use Rattle.hd_ids.proofs.following.add_rows.Given as goal

-- the pages so far have their rows
abbrev pub invariant-loop-i : goal.invariant-loop-i
invariant-loop-i l = HaveGotRows l.initial.pages.keys l.initial.numbers l.pages.keys l.numbers l.rows.items l.more l.i
