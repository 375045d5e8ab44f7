use Rattle.std.proofs.Common.{◌≡◌, ◌+◌}
use denote.RawPtr.{◌+ₚ◌}
use Rattle.hd_buffer.specs.Filling.{FilledFrom}
use Rattle.hd_buffer.proofs.filling.fill_runs.Given as goal

abbrev pub invariant-loop-rest : goal.invariant-loop-rest
invariant-loop-rest g l =
    (l.done.len ≡ l.done.cap) × (l.done.ptr ≡ l.fn.piece.ptr) × (l.rest.len ≡ 0) × (l.rest.ptr ≡ l.done.ptr +ₚ l.done.cap)
    × (l.done.cap + l.rest.cap ≡ l.fn.piece.cap)
    × FilledFrom g.F.Fn l.f l.offset l.done.items

abbrev pub decreases-loop-rest : goal.decreases-loop-rest
decreases-loop-rest g l = l.rest.cap
