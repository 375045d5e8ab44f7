use Rattle.hd_graph.specs.declared.kinds.KindLists.{KindLists}
use Rattle.hd_graph.proofs.KindLemmas.{all-empty}
use Rattle.hd_graph.proofs.kinds.KindLists.none.Goals as goal

pub returns : goal.returns
returns c =
    let empty : KindLists = record { soft = c.new.result; weak = c.new-2.result; finals = c.new-3.result; phantom = c.new-4.result } in
    all-empty empty c.new.ensures.items c.new-2.ensures.items c.new-3.ensures.items c.new-4.ensures.items
