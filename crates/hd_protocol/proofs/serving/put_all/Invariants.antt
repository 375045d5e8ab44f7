use Rattle.std.proofs.Common.{◌-◌, ◌≤◌, length, take}
use Rattle.std.specs.Io.KnownBytes.{Appends}
use Rattle.hd_protocol.proofs.serving.put_all.Given as goal

-- a front of the text was written
abbrev pub invariant-loop-at : goal.invariant-loop-at
invariant-loop-at g l = record {
  within : l.at ≤ length l.text;
  front : Appends (g.W.Write.contents l.initial.writer) (g.W.Write.contents l.writer) (take l.at l.text);
}

-- what is left of the text
abbrev pub decreases-loop-at : goal.decreases-loop-at
decreases-loop-at g l = length l.text - l.at
