-- The chain is followed back by supports: each is a standing edge, and the way to the root gets shorter (`next-nearer`).
-- At a root the links, turned round, are a root path of the object's strength (`whole-chain`).
use Rattle.std.proofs.Common.{◌∙◌, ◌++◌, ◌∷◌, [], List, ap, refl, subst, sym}
use Rattle.hd_queries.specs.declared.chain.Link.{Link}
use Rattle.hd_queries.proofs.ChainLemmas.{IsFollowed, begun, followed, is-next, never-nothing, next, next-nearer, next-stands, whole-chain}
use Rattle.hd_queries.proofs.chain.chain_back.Goals as goal

pub loop-source-init : goal.loop-source-init
loop-source-init c =
    let dump = c.args.solved.graph.now in
    let log = c.args.solved.front.now in
    let ks = c.args.solved.strengths.now in
    let chain = c.settled_supports_give_strengths.ensures.chains _ ks c.requires.kept.settled c.args.o c.requires.reachable in
    subst (λ (ls : List Link). IsFollowed dump log ks c.args.o c.args.o ls) (sym c.new-links.ensures.items) (begun dump log ks c.args.o c.requires.object chain)

pub loop-source-smaller : goal.loop-source-smaller
loop-source-smaller c =
    next-nearer c.args.solved.graph.now c.args.solved.front.now c.args.solved.strengths.now c.args.o c.loop-source.at c.loop-source.links.items
    c.loop-source.invariant c.in-Edge.source c.in-Edge.slot (sym c.support.ensures ∙ c.in-Edge.is) c.requires.kept.settled

pub loop-source-preserved : goal.loop-source-preserved
loop-source-preserved c =
    let dump = c.args.solved.graph.now in
    let log = c.args.solved.front.now in
    let ks = c.args.solved.strengths.now in
    let links = c.loop-source.links.items in
    let h = c.loop-source.invariant in
    let is = sym c.support.ensures ∙ c.in-Edge.is in
    let edge = (next dump log ks c.args.o c.loop-source.at links h c.in-Edge.source c.in-Edge.slot is).edge in
    let stands = next-stands dump log ks c.args.o c.loop-source.at links h c.in-Edge.source c.in-Edge.slot is in
    let link = c.link_from.ensures log edge stands (is-next dump log ks c.args.o c.loop-source.at links h c.in-Edge.source c.in-Edge.slot is) in
    followed dump log ks c.args.o c.loop-source.at links h c.in-Edge.source c.in-Edge.slot is c.push.new.self.items
    (c.in_ok-push-in-Edge.ensures.items ∙ ap (λ (l : Link). links ++ l ∷ []) link)

pub returns-in-Root : goal.returns-in-Root
returns-in-Root c =
    whole-chain c.args.solved.graph.now c.args.solved.front.now c.args.solved.strengths.now c.args.o c.loop-source.at c.loop-source.links.items
    c.loop-source.invariant c.in-Root.root (sym c.support.ensures ∙ c.in-Root.is)
    c.settled_supports_give_strengths.ensures.strengths c.requires.kept.settled
    (record { root = c.in-Root.root; start = c.loop-source.at; links = c.reverse.new.self }) refl refl c.reverse.ensures.items

pub unreachable-requires : goal.unreachable-requires
unreachable-requires c =
    never-nothing c.args.solved.graph.now c.args.solved.front.now c.args.solved.strengths.now c.args.o c.loop-source.at c.loop-source.links.items
    c.loop-source.invariant (sym c.support.ensures ∙ c.in-Nothing.is)
