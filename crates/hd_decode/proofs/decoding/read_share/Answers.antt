use Rattle.std.proofs.Common.{◌∙◌, ap, arith}
use Rattle.std.proofs.lemmas.Result.{err_from_is_err_and}
use Rattle.hd_subs.specs.Reading.{Reader}
use Rattle.hd_decode.proofs.BodyLemmas.{reads-next, fault-here}
use Rattle.hd_decode.proofs.decoding.read_share.Goals as goal

pub loop-span-preserved : goal.loop-span-preserved
loop-span-preserved c =
    let i = c.loop-span.invariant in
    let e = c.in_ok-read.ensures in
    record {
      read = reads-next c.args.id_size c.args.bytes.now c.args.share.now c.loop-span.span-index _ c.loop-span.reader.subs c.read.new.self.subs
          (omega arith) i.read (rw (i.bytes, i.size) at e.ok);
      bytes = ap (λ (r : Reader). r.bytes) e.same_file ∙ i.bytes;
      size = ap (λ (r : Reader). r.size) e.same_file ∙ i.size;
    }

pub returns-in_err-read : goal.returns-in_err-read
returns-in_err-read c =
    let i = c.loop-span.invariant in
    let p = err_from_is_err_and c.from_residual.result c.from_residual.ensures.1 in
    rw (p.1, p.2)
    (fault-here c.args.id_size c.args.bytes.now c.args.share.now c.loop-span.span-index _ c.loop-span.reader.subs c.in_err-read.field-0.0 (omega arith) i.read
    (rw (i.bytes, i.size) at c.in_err-read.ensures.err))
