use Rattle.hd_graph.proofs.sharing.join_part.Goals as goal

pub returns-clause-ok : goal.returns-clause-ok
returns-clause-ok c = record {
  made = c.in-Ok.made;
  is = c.in-Ok.is;
  numbers = rw c.in-Some.is at c.in_ok-joined.ensures;
  tables_are = c.in_ok-push.ensures.slot_tables;
  lists_are = c.in_ok-push.ensures.shapes;
}
