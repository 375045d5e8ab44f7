use Rattle.std.specs.Io.KnownBytes.{Consumes}
use Rattle.hd_routes.proofs.hearing.hear.Given as goal

abbrev pub invariant-loop : goal.invariant-loop
invariant-loop g l = Consumes (g.S.Read.remaining l.fn.stream) (g.S.Read.remaining l.stream) l.bytes.items
