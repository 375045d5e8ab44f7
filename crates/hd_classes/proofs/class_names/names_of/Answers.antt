use Rattle.std.proofs.Common.{arith}
use Rattle.hd_classes.proofs.ClassNameLemmas.{load-next}
use Rattle.hd_classes.proofs.class_names.names_of.Goals as goal

pub loop-load-preserved : goal.loop-load-preserved
loop-load-preserved c =
    load-next c.args.bytes.now c.args.classes.now c.as_slice-load-items.result.now c.loop-load.load-index _ c.name.result c.loop-load.copied
    c.add_name.new.copied (omega arith) c.name.ensures c.in_ok-add_name.ensures
    c.loop-load.invariant
