use Rattle.std.proofs.Common.{◌∙◌, ℕ, ◌<◌, List, length, get_or, ap, arith}
use Rattle.hd_ids.proofs.NumberLemmas.{length-numbers, whole-kept, whole-here, whole-others}
use Rattle.hd_ids.proofs.numbers.Numbers.put_whole.Goals as goal

pub index_mut-requires : goal.index_mut-requires
index_mut-requires c =
    let a = c.self.inside in
    omega (arith, c.requires.within, a.blocks.ok.0, length-numbers a.blocks.items a.scattered.items, ap length c.self.view_is)

pub invariant_of-self : goal.invariant_of-self
invariant_of-self c =
    let a = c.self.inside in
    let lt : c.args.index < length a.blocks.items =
    omega (arith, c.requires.within, length-numbers a.blocks.items a.scattered.items, ap length c.self.view_is) in
    whole-kept a.blocks.items a.scattered.items c.args.index c.args.block lt c.requires.low c.requires.follows c.self.invariant

pub returns-clause-here : goal.returns-clause-here
returns-clause-here c =
    let a = c.self.inside in
    let lt : c.args.index < length a.blocks.items =
    omega (arith, c.requires.within, length-numbers a.blocks.items a.scattered.items, ap length c.self.view_is) in
    whole-here a.blocks.items a.scattered.items c.args.index c.args.block lt c.requires.low c.requires.follows

pub returns-clause-others : goal.returns-clause-others
returns-clause-others c q other =
    let a = c.self.inside in
    let lt : c.args.index < length a.blocks.items =
    omega (arith, c.requires.within, length-numbers a.blocks.items a.scattered.items, ap length c.self.view_is) in
    whole-others a.blocks.items a.scattered.items c.args.index c.args.block lt c.requires.low c.requires.follows q other
    ∙ ap (λ (ns : List ℕ). get_or ns q 0) c.self.view_is
