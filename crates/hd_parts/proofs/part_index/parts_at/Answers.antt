use Rattle.std.proofs.Common.{◌≡◌, ◌+◌, ◌∙◌, ℕ, List, length, take, sum, get_or, refl, sym, ap, arith}
use Rattle.std.proofs.lemmas.Grind.{div_ceil_times}
use Rattle.hd_parts.proofs.FirstLemmas.{length-firsts, first-at, lead-more}
use Rattle.hd_parts.proofs.part_index.parts_at.Goals as goal

pub bounds-firsts-lens : goal.bounds-firsts-lens
bounds-firsts-lens c = omega (arith, length-firsts c.args.lens.now, ap length c.requires.firsts)

pub bounds-firsts-part : goal.bounds-firsts-part
bounds-firsts-part c = omega (arith, length-firsts c.args.lens.now, ap length c.requires.firsts)

pub loop-part-preserved : goal.loop-part-preserved
loop-part-preserved c =
    let part = c.loop-part.part in
    let blocks = c.div_ceil-in-loop-part.result in
    let end : get_or c.args.firsts.now (part + 1) 0 ≡ sum (take (part + 1) c.args.lens.now) =
    ap (λ (ns : List ℕ). get_or ns (part + 1) 0) c.requires.firsts ∙ first-at c.args.lens.now (part + 1) (omega arith) in
    let enough = (div_ceil_times (get_or c.args.firsts.now (part + 1) 0) 65536 (omega arith)).0 in
    let old = c.loop-part.at.ok.0 in
    lead-more c.args.lens.now c.loop-part.at.items c.resize.new.self.items part blocks c.loop-part.invariant
    (omega (arith, end, enough, c.div_ceil-in-loop-part.ensures))
    (sym c.resize.new.self.ok.0 ∙ c.in_ok-resize.ensures.len)
    (λ j d lt here. c.resize.ensures.by_index.0 j d lt (omega (arith, here, old)))
    (λ j d past lt. c.in_ok-resize.ensures.by_index.1 j d refl (omega (arith, past, old)) lt)
