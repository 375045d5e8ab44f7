use Rattle.std.proofs.Common.{◌≡◌, ◌∙◌, arith, length, replicate, sym, ap}
use lib.ListN.{drop as drop_l}
use lib.Seq.{take_at}
use denote.MutBor.{at_last}
use Rattle.hd_buffer.proofs.filling.fill_run.Goals as goal

pub returns-clause-filled : goal.returns-clause-filled
returns-clause-filled g c =
    let run = c.loop-run.run in
    let bytes = c.f.new.arg3 in
    let kept : length bytes ≡ length c.as_mut_slice.result.now = c.f.auto.arg3 in
    let lent = ap length c.as_mut_slice.ensures.value in
    let long : length bytes ≡ run.len = omega (arith, kept, lent, run.ok.0) in
    let same = take_at bytes (drop_l (length bytes) run.items) run.len long in
    record {
      argument = c.as_mut_slice.result;
      argument_is = c.as_mut_slice.ensures.value ∙ c.loop-run.invariant.2 ∙ ap (λ n. replicate n 0) (sym (ap length same ∙ long));
      after_call = at_last c.as_mut_slice.result bytes;
      call = c.f.ensures;
      left = sym same;
    }
