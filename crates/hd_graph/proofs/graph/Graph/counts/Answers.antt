use Rattle.std.proofs.Common.{◌∙◌, ap}
use Rattle.hd_terms.specs.Dump.{Repeated}
use Rattle.hd_graph.proofs.CountLemmas.{counts-are}
use Rattle.hd_graph.proofs.graph.Graph.counts.Goals as goal

pub returns : goal.returns
returns c =
    counts-are c.args.self.now _ _ _ _ _ _ _ _ (c.from.ensures ∙ c.objects.ensures)
    (c.from-2.ensures ∙ c.roots_len.ensures) c.id_counts-slots.ensures.objects c.id_counts-slots.ensures.others
    (ap (λ (r : Repeated). r.objects) c.repeats-repeats.ensures) (ap (λ (r : Repeated). r.strings) c.repeats-repeats.ensures)
    (ap (λ (r : Repeated). r.loads) c.repeats-repeats.ensures) c.opaque.ensures
