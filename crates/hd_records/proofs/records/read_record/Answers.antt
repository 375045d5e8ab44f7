use Rattle.hd_terms.specs.ReadFaults.{IsStuckRecord}
use Rattle.hd_records.proofs.Steps.{is_short}
use Rattle.hd_records.proofs.records.read_record.Goals as goal

pub returns-in_default-clause-err : goal.returns-in_default-clause-err
returns-in_default-clause-err c = IsStuckRecord.cut c.in_default.ensures.r c.in_default.ensures.framed c.in_default.ensures.cut

pub returns-then-parsed-least_body-clause-err : goal.returns-then-parsed-least_body-clause-err
returns-then-parsed-least_body-clause-err c =
    is_short c.args.id_size c.args.rest.now c.in-Some.parsed.tag c.in-Some.parsed.body.now c.in-Some.parsed.after.now c.in-Some.ensures
    (rw (← c.least_body.ensures) c.if-parsed-least_body.true)
