use Rattle.std.proofs.Common.{◌∙◌, arith}
use Rattle.hd_terms.specs.Classes.{slashed}
use Rattle.hd_classes.proofs.SearchLemmas.{bytes-alike, bytes-differ}
use Rattle.hd_classes.proofs.names.is_named.Goals as goal

pub returns-then-slashed-wanted : goal.returns-then-slashed-wanted
returns-then-slashed-wanted c = bytes-differ slashed c.args.name.now c.args.wanted.now c.loop-i.i (omega arith)
    (λ e. c.if-slashed-wanted.true (c.slashed.ensures ∙ e))

pub returns : goal.returns
returns c = bytes-alike slashed c.args.name.now c.args.wanted.now (omega arith) (λ k lt. c.loop-i.invariant k (omega arith))
