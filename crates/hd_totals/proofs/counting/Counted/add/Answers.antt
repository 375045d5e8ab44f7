use Rattle.hd_totals.proofs.counting.Counted.add.Goals as goal

pub count_object-requires-clause-count : goal.count_object-requires-clause-count
count_object-requires-clause-count c = rw c.key_of-key.ensures.key (c.requires.count c.args.group c.args.strength c.key_of-key.ensures.range)

pub count_object-requires-clause-bytes : goal.count_object-requires-clause-bytes
count_object-requires-clause-bytes c = rw c.key_of-key.ensures.key (c.requires.bytes c.args.group c.args.strength c.key_of-key.ensures.range)
