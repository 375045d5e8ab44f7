use Rattle.std.proofs.Common.{◌≡◌, ◌/◌, arith, length, sym, subst}
use Rattle.hd_buffer.specs.Filling.{FilledFrom}
use Rattle.hd_buffer.proofs.FillingLemmas.{both-filled}
use Rattle.hd_buffer.proofs.filling.+parts.Goals as goal

pub returns-clause-filled : goal.returns-clause-filled
returns-clause-filled g t c =
    let first = c.join-first.result.0 in
    let second = c.join-first.result.1 in
    let long : c.capacity-2.result / c.args.threads ≡ length first.items = omega (arith, first.ok.0) in
    subst (FilledFrom g.F.Fn c.args.f.now c.args.offset) (sym c.unite.ensures.items)
    (both-filled g.F.Fn c.args.f.now c.args.offset first.items
    (c.capacity-2.result / c.args.threads) long c.join-first.ensures.first.1 second.items c.join-first.ensures.second.1)
