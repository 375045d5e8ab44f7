use Rattle.hd_classes.specs.Known.{known_at}
use Rattle.hd_graph.proofs.PartLemmas.{IsJoining}
use Rattle.hd_graph.proofs.sharing.numbers_and_rows.Given as goal

-- the parts so far are joined, and the iterator has the answers for the others
abbrev pub invariant-loop-part : goal.invariant-loop-part
invariant-loop-part g l =
    let rest = l.part-iterator.rest.items in
    IsJoining (known_at l.classes) l.bytes l.fn.id_size l.list l.fn.parts rest l.numbers l.rows.slot_tables.items l.rows.shapes.items
