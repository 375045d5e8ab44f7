use Rattle.std.proofs.Common.{◌≡◌, ◌∙◌, ◌+◌, ◌-◌, length, ap, arith}
use Rattle.hd_strength.proofs.RowLemmas.{held_at}
use Rattle.hd_strength.proofs.Reading.{no_root_past, held_within_option}
use Rattle.hd_strength.proofs.edited.held_object.Goals as goal

pub returns-then-r-roots-clause-object : goal.returns-then-r-roots-clause-object
returns-then-r-roots-clause-object c = held_within_option c.args.edited.graph.now c.args.edited.front.now c.args.r c.root_object.result c.root_object.ensures

pub returns-then-k-from-clause-held : goal.returns-then-k-from-clause-held
returns-then-k-from-clause-held c = no_root_past c.args.edited.graph.now c.args.edited.front.now c.args.r
    (omega (arith, c.len.ensures.len, c.from.ensures, c.from-roots.ensures, c.roots_len.ensures))

pub returns-clause-held : goal.returns-clause-held
returns-clause-held c =
    let number : length c.args.edited.graph.now.roots + (c.args.r - c.from-roots.result) ≡ c.args.r =
    omega (arith, c.from-roots.ensures, c.roots_len.ensures) in
    c.added_object.ensures ∙ ap (held_at c.args.edited.graph.now c.args.edited.front.now) number

pub returns-clause-object : goal.returns-clause-object
returns-clause-object c =
    let number : length c.args.edited.graph.now.roots + (c.args.r - c.from-roots.result) ≡ c.args.r =
    omega (arith, c.from-roots.ensures, c.roots_len.ensures) in
    held_within_option c.args.edited.graph.now c.args.edited.front.now c.args.r c.added_object.result
    (c.added_object.ensures ∙ ap (held_at c.args.edited.graph.now c.args.edited.front.now) number)
