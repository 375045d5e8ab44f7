use Rattle.std.proofs.Common.{◌∙◌, ◌+◌, List, map, ap, arith}
use Rattle.std.proofs.lemmas.List.{take_all}
use Rattle.hd_subs.specs.declared.class.Static.{Static}
use Rattle.hd_subs.specs.Views.{static_view}
use Rattle.hd_graph.specs.ArrayRows.{static_bytes}
use Rattle.hd_graph.proofs.ValueLemmas.{bytes-more, bytes-part}
use Rattle.hd_graph.proofs.class_shapes.bytes_of_statics.Goals as goal

abbrev none : Static
none = record { name = 0; code = 0; value = record { start = 0; len = 0 } }

pub overflow_cast-bytes : goal.overflow_cast-bytes
overflow_cast-bytes c = omega (
  arith,
  bytes-more c.args.statics.now c.loop-i.i none c.loop-i-test.true,
  bytes-part c.args.statics.now
      (c.loop-i.i + 1),
  c.requires,
)

pub overflow_add-bytes : goal.overflow_add-bytes
overflow_add-bytes c = omega (
  arith,
  bytes-more c.args.statics.now c.loop-i.i none c.loop-i-test.true,
  bytes-part c.args.statics.now
      (c.loop-i.i + 1),
  c.loop-i.invariant,
  c.requires,
)

pub loop-i-preserved : goal.loop-i-preserved
loop-i-preserved c = omega (arith, bytes-more c.args.statics.now c.loop-i.i none c.loop-i-test.true, c.loop-i.invariant)

pub returns : goal.returns
returns c = c.loop-i.invariant ∙ ap (λ (xs : List Static). static_bytes (map static_view xs)) (take_all c.loop-i.i c.args.statics.now (omega arith))
