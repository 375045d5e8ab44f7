use Rattle.std.proofs.Common.{arith}
use Rattle.std.specs.Fork.{AcceptsAt, ChangesAt}
use Rattle.hd_threads.proofs.PlaceLemmas.{at_both, holds_back}
use Rattle.hd_threads.proofs.places.+stretches.Goals as goal

pub stretches_from-stretch_and_rest-requires-clause-back : goal.stretches_from-stretch_and_rest-requires-clause-back
stretches_from-stretch_and_rest-requires-clause-back g t c κs within =
    let cut = c.split_at_mut-a in
    record {
      each = holds_back (AcceptsAt g.F.Fn c.args.f.now) c.args.base _ c.args.s.now cut.result.0.now cut.result.1.now cut.ensures.value
          (omega (arith, cut.ensures.front_len)) c.requires.accepts.each;
    }

pub stretches_from-returns : goal.stretches_from-returns
stretches_from-returns g t c =
    let cut = c.split_at_mut-a in
    let xs = cut.result.0.now in
    let ys = cut.result.1.now in
    record {
      each = at_both (ChangesAt g.F.Fn c.args.f.now) c.args.base _ c.args.s.now xs ys c.stretch_and_rest.new.a c.stretch_and_rest.new.b cut.ensures.value
          c.stretch_and_rest.auto.a (omega (arith, cut.ensures.front_len)) c.stretch_and_rest.ensures.front.each c.stretch_and_rest.ensures.back.each;
    }
