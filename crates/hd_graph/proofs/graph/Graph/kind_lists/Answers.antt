use Rattle.std.proofs.Common.{IfOk, subst}
use Rattle.hd_terms.specs.Dump.{Dump}
use Rattle.hd_graph.specs.Kinds.{AreKinds}
use Rattle.hd_graph.proofs.graph.Graph.kind_lists.Goals as goal

pub returns : goal.returns
returns g c = subst (λ (d : Dump). IfOk c.kinds_of.result (AreKinds d.objects)) c.self.view_is c.kinds_of.ensures
