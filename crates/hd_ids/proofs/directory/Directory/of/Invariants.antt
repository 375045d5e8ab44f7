use Rattle.hd_ids.specs.Directory.{TellsRows}
use Rattle.hd_ids.proofs.directory.Directory.of.Given as goal

-- each row that is told so far is its page's
abbrev pub invariant-loop-row : goal.invariant-loop-row
invariant-loop-row l = TellsRows l.pages l.directory
