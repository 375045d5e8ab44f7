use Rattle.hd_ids.specs.Put.{ArePut}
use Rattle.hd_ids.proofs.numbers.Numbers.put_places.Given as goal

-- the numbers of the places so far are put
abbrev pub invariant-loop-i : goal.invariant-loop-i
invariant-loop-i l = ArePut l.initial.self l.self l.start l.more l.from l.base l.i
