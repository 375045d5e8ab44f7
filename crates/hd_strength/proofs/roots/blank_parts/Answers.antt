use Rattle.std.proofs.Common.{◌+◌, sym, subst, arith, ℕ}
use Rattle.hd_strength.specs.Parts.{AreBlank}
use Rattle.hd_strength.proofs.Holding.{one_part}
use Rattle.hd_strength.proofs.roots.blank_parts.Goals as goal

pub loop-first-preserved : goal.loop-first-preserved
loop-first-preserved c =
    let first = c.loop-first.first in
    let h = c.loop-first.invariant in
    record {
      blank = subst (λ (m : ℕ). AreBlank c.args.len c.args.objects c.args.whole c.push.new.self.items (first + m)) (sym c.min-first.ensures)
          (one_part c.args.len c.args.objects c.args.whole c.loop-first.parts.items c.push.new.self.items first c.new.result h.blank c.new.ensures h.within
          c.in_ok-push.ensures.items);
      within = omega (arith, c.min-first.ensures);
    }
