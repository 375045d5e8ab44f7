use Rattle.std.proofs.Common.{◌∙◌, ◌<◌, ap, length, arith}
use Rattle.hd_board.specs.Replicas.{Replica}
use Rattle.hd_board.proofs.Steps.{sets_out, goes_on}
use Rattle.hd_board.proofs.desk.Desk.step_to.Goals as goal

pub loop-alloc-init : goal.loop-alloc-init
loop-alloc-init g c = sets_out c.args.self.now c.args.count c.requires.least

pub loop-alloc-preserved : goal.loop-alloc-preserved
loop-alloc-preserved g c =
    let at = c.len.ensures.len ∙ ap length c.front.ensures in
    let lt : length c.self.inside.state.log < c.args.count = omega (arith, at) in
    let before : length c.loop-alloc.self.front < c.args.count = omega (arith, lt, ap (λ (d : Replica). length d.front) c.self.view_is) in
    goes_on c.args.self.now c.loop-alloc.self c.step_once.new.self c.args.count c.in_ok-step_once.field-0 c.loop-alloc.invariant before
    c.in_ok-step_once.ensures.ok
