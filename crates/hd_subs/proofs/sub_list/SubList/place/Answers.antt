use Rattle.std.proofs.Common.{◌∙◌, ◌≤◌, ◌+◌, ◌-◌, drop, slice_index_or, length, slice_get, sym, ap, arith}
use Rattle.hd_subs.specs.Joined.{joined}
use Rattle.hd_subs.proofs.JoinedLemmas.{found-here, found-behind, length-behind}
use Rattle.hd_subs.proofs.sub_list.SubList.place.Goals as goal

pub returns-then-index-len-clause-same : goal.returns-then-index-len-clause-same
returns-then-index-len-clause-same c =
    let parts = c.self.inside.parts.now in
    let k = c.loop-part.part-index in
    let d = c.part-item.result in
    sym (
    sym c.loop-part.invariant.1
    ∙ found-here parts k d (omega arith) c.loop-part.index (rw (← c.part-item.is) (omega arith))
    ∙ ap (λ part. slice_get part c.loop-part.index) (sym c.part-item.is)
    )

pub loop-part-preserved : goal.loop-part-preserved
loop-part-preserved c =
    let parts = c.self.inside.parts.now in
    let k = c.loop-part.part-index in
    let d = c.part-item.result in
    let past : length (slice_index_or parts k d) ≤ c.loop-part.index = rw (← c.part-item.is) (omega arith) in (
      omega (arith, c.loop-part.invariant.0, length-behind parts k d (omega arith), ap (λ part. length part) c.part-item.is, past),
      ap (λ n. slice_get (joined (drop (k + 1) parts)) (c.loop-part.index - n)) (c.len-index.ensures ∙ ap (λ part. length part) c.part-item.is)
          ∙ sym (found-behind parts k d (omega arith) c.loop-part.index past) ∙ c.loop-part.invariant.1,
    )
