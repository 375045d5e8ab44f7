-- The greater one of two stamps after the other.
use Rattle.std.proofs.Common.{◌<◌, inl, inr, arith}
use Rattle.std.proofs.lemmas.Bool.{cases_eq}
use Rattle.hd_repair.proofs.renewing.greatest_stamp.Goals as goal

pub loop-o-preserved : goal.loop-o-preserved
loop-o-preserved c =
    let stamp = c.stamp.ensures.stamp in
    record {
      greatest = λ x lt. elim (cases_eq x c.loop-o.o) [
        | inl same ↦ rw same (omega (arith, stamp, c.max-greatest.ensures))
        | inr other ↦ let before : x < c.loop-o.o = omega (arith, lt, other) in omega (arith, c.loop-o.invariant.greatest x before, c.max-greatest.ensures)
      ];
      least = λ n high. omega (arith, high c.loop-o.o, c.loop-o.invariant.least n high, stamp, c.max-greatest.ensures);
      small = omega (arith, c.loop-o.invariant.small, c.stamp.ensures.small, c.max-greatest.ensures);
    }
