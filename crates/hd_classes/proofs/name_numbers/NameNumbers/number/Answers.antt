use Rattle.hd_classes.specs.Sources.{table_of}
use Rattle.hd_classes.proofs.NamingLemmas.{number-new, number-none, notes-new}
use Rattle.hd_classes.proofs.name_numbers.NameNumbers.number.Goals as goal

pub returns-in_ok-insert-in-Some-text_of-clause-more : goal.returns-in_ok-insert-in-Some-text_of-clause-more
returns-in_ok-insert-in-Some-text_of-clause-more c =
    let put = c.in_ok-number-in-Some-text_of.ensures in
    notes-new (table_of c.args.source.now) c.args.self.now (record { texts = c.push.new.self; numbers = c.insert.new.self }) c.args.id
    c.in_ok-number-in-Some-text_of.number c.in-Some-text_of.text.now c.requires.noted
    put.added put.few put.number c.in-Some-text_of.ensures c.in_ok-insert-in-Some-text_of.ensures.updates.0

pub returns-in_ok-insert-in-Some-text_of-clause-is : goal.returns-in_ok-insert-in-Some-text_of-clause-is
returns-in_ok-insert-in-Some-text_of-clause-is c =
    let put = c.in_ok-number-in-Some-text_of.ensures in
    number-new (table_of c.args.source.now) c.args.self.now (record { texts = c.push.new.self; numbers = c.insert.new.self }) c.args.id
    c.in_ok-number-in-Some-text_of.number c.in-Some-text_of.text.now c.requires.noted
    put.added put.few put.number c.in-Some-text_of.ensures c.in_ok-insert-in-Some-text_of.ensures.updates.0

pub returns-in-None-clause-is : goal.returns-in-None-clause-is
returns-in-None-clause-is c = number-none (table_of c.args.source.now) c.args.self.now.texts c.args.id c.in-None.ensures
