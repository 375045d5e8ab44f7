use Rattle.std.proofs.Common.{◌≡◌, ◌∙◌, sym, ap}
use Rattle.hd_terms.specs.declared.Strength.{Strength}
use Rattle.hd_terms.specs.Ranks.{rank, given_by, weaker_of}
use Rattle.hd_terms.specs.Settled.{reached_at}
use Rattle.hd_settled.proofs.Checked.{one_gives}
use Rattle.hd_settled.proofs.checking.edge_gives_no_more.Goals as goal

pub returns : goal.returns
returns c =
    let ks = c.args.strengths.now in
    let given : c.weaker-given.result ≡ weaker_of (reached_at ks c.args.o).strength (given_by c.in-Some.read.kind) =
    c.weaker-given.ensures ∙ ap (λ (s : Strength). weaker_of s c.strength-2.result) c.strength.ensures
    ∙ ap (weaker_of (reached_at ks c.args.o).strength) c.strength-2.ensures in
    one_gives c.args.edited.graph.now c.args.edited.front.now ks c.args.o c.args.index c.in-Some.read c.rank.result c.rank-2.result
    (sym c.in-Some.is ∙ c.standing_read.ensures.edge)
    (c.rank.ensures ∙ ap rank given) (c.rank-2.ensures ∙ ap rank c.strength-3.ensures)
