use Rattle.std.proofs.Common.{length, ap, arith}
use Rattle.hd_web.proofs.TableLemmas.{kept_at, none_below, none_left}
use Rattle.hd_web.proofs.table.Table.take.Goals as goal

pub loop-number-preserved : goal.loop-number-preserved
loop-number-preserved g c =
    let all = c.args.self.now.places in
    let now = c.loop-number.self.places.items in (
      kept_at now all.items c.loop-number.number c.take.new.self c.index_mut.result.now c.loop-number.invariant.0 c.index_mut.ensures.value c.in-None.ensures.0,
      none_below now all.items c.loop-number.number c.index_mut.result.now c.loop-number.invariant.0 c.index_mut.ensures.value
          (omega (arith, ap length c.loop-number.invariant.0, all.ok.0)) c.in-None.ensures.1 c.loop-number.invariant.1,
    )

pub returns : goal.returns
returns g c =
    let all = c.args.self.now.places in
    none_left c.loop-number.self.places.items all.items c.loop-number.number c.loop-number.invariant.0 (omega (arith, all.ok.0)) c.loop-number.invariant.1
