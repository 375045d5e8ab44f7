use Rattle.std.proofs.Common.{◌∙◌, ap, subst}
use Rattle.hd_terms.specs.Dump.{Dump}
use Rattle.hd_lines.specs.Replies.{answered}
use Rattle.hd_terms.specs.Listed.{first_items}
use Rattle.hd_queries.specs.ChainFound.{IsChainFound}
use Rattle.hd_analyst.specs.ChainLines.{lines_of}
use Rattle.hd_analyst.proofs.ChainReplies.{unreachable_reply, chain_reply}
use Rattle.hd_analyst.proofs.texts.chain_text.Goals as goal

pub returns-in_ok-text-in-Some : goal.returns-in_ok-text-in-Some
returns-in_ok-text-in-Some c =
    let state = c.args.state.now in
    chain_reply state.dump c.args.showing.names state.log state.kept c.args.object c.args.showing.most _ c.in-Some.chain
    (subst (IsChainFound state.dump state.log state.kept c.args.object) c.in-Some.is c.in_ok-chain.ensures)
    (c.in_ok-text-in-Some.ensures
    ∙ ap (λ (dump : Dump). answered (first_items c.args.showing.most (lines_of dump c.args.showing.names c.in-Some.chain))) c.graph.ensures)

pub returns-in_ok-text-in-None : goal.returns-in_ok-text-in-None
returns-in_ok-text-in-None c =
    let state = c.args.state.now in
    unreachable_reply state.dump c.args.showing.names state.log state.kept c.args.object c.args.showing.most _
    (subst (IsChainFound state.dump state.log state.kept c.args.object) c.in-None.is c.in_ok-chain.ensures)
    c.in_ok-text-in-None.ensures.lines
