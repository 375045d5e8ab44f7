use Rattle.std.proofs.Common.{◌∙◌, ◌<◌, List, length, sym, ap}
use Rattle.hd_terms.specs.EdgeRows.{edges_into}
use Rattle.hd_reverse.specs.declared.referrer.Referrer.{Referrer}
use Rattle.hd_view.specs.Viewed.{Viewed}
use Rattle.hd_view.proofs.IntoLemmas.{length_into}
use Rattle.hd_view.proofs.view.ViewEdges.into_len.Goals as goal

pub returns : goal.returns
returns c =
    let dump = c.self.inside.edited.graph.now in
    let log = c.self.inside.edited.front.now in
    let lt : c.args.o < length dump.objects = rw (← c.self.view_is) at c.requires in
    c.into_len.ensures
    ∙ ap (λ (rs : List Referrer). length rs) (c.self.invariant.reverse.referrers c.args.o lt)
    ∙ sym (length_into dump log c.args.o)
    ∙ ap (λ (v : Viewed). length (edges_into v.dump v.log c.args.o)) c.self.view_is
