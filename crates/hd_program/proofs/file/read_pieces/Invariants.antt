use Rattle.std.proofs.Common.{◌≡◌, ◌+◌, length}
use Rattle.hd_program.proofs.file.read_pieces.Given as goal

-- what is read takes up what was room
abbrev pub invariant-loop-read : goal.invariant-loop-read
invariant-loop-read g l = length l.buffer.items + l.buffer.room ≡ length l.fn.buffer.items + l.fn.buffer.room

abbrev pub decreases-loop-read : goal.decreases-loop-read
decreases-loop-read g l = l.buffer.room
