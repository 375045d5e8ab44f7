use Rattle.hd_web.specs.Talks.{GoesOn}
use Rattle.hd_web.proofs.talking.talk.Given as goal

-- the messages so far were served, and none of them ended the talk
abbrev pub invariant-loop : goal.invariant-loop
invariant-loop g l = GoesOn g.S.Read.remaining g.S.Write.contents l.fn.seat.analyst l.fn.socket l.seat.analyst l.socket
