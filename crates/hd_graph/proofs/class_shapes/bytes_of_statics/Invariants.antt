use Rattle.std.proofs.Common.{◌≡◌, map, take}
use Rattle.hd_subs.specs.Views.{static_view}
use Rattle.hd_graph.specs.ArrayRows.{static_bytes}
use Rattle.hd_graph.proofs.class_shapes.bytes_of_statics.Given as goal

-- the bytes of the statics so far
abbrev pub invariant-loop-i : goal.invariant-loop-i
invariant-loop-i l = l.bytes ≡ static_bytes (map static_view (take l.i l.statics))
