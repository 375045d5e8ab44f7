use Rattle.std.proofs.Common.{arith}
use Rattle.hd_subs.proofs.ParsedSubs.{is_unknown}
use Rattle.hd_subs.proofs.reading.read_row.Goals as goal

pub returns-in-None-2-clause-err : goal.returns-in-None-2-clause-err
returns-in-None-2-clause-err c =
    is_unknown c.args.id_size c.args.tag c.args.fields.now c.in-None.ensures.none (λ e. absurd (omega arith)) (λ e. absurd (omega arith))
    (λ e. absurd (omega arith)) (λ e. absurd (omega arith))
