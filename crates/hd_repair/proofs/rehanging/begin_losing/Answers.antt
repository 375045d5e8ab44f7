-- What the lost items held waits (`begin_losing`), and nothing else has happened.
use Rattle.hd_repair.proofs.AloneLemmas.{none_alone, none_sought}
use Rattle.hd_repair.proofs.BeginLemmas.{begin_losing, begin_since}
use Rattle.hd_repair.proofs.rehanging.begin_losing.Goals as goal

pub returns-clause-halfway : goal.returns-clause-halfway
returns-clause-halfway c r count w = record {
  underway = rw (c.new.ensures.items, c.new-2.ensures.items, c.new-3.ensures.items, c.new-4.ensures.items)
      (begin_losing r.standing w.before c.args.lost.now r.objects c.args.kept.now c.loosen_lost.new.kept c.in_ok-waiting.waiting.items w.without
      w.settled count c.requires.room c.in_ok-waiting.ensures.loosened c.in_ok-waiting.ensures.none);
  first = none_alone r.standing c.loosen_lost.new.kept c.in_ok-waiting.waiting.items;
  sought = rw (c.new-3.ensures.items, c.new-5.ensures.items) (none_sought r.standing c.loosen_lost.new.kept);
}

pub returns-clause-since : goal.returns-clause-since
returns-clause-since c r count w = rw (c.new.ensures.items, c.new-2.ensures.items, c.new-3.ensures.items, c.new-4.ensures.items)
    (begin_since r.standing w.before c.args.lost.now r.objects c.args.kept.now c.loosen_lost.new.kept c.in_ok-waiting.waiting.items w.without
    w.settled count c.requires.room c.in_ok-waiting.ensures.loosened c.in_ok-waiting.ensures.none)
