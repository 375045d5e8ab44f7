use Rattle.std.proofs.Common.{◌∙◌, arith, length}
use Rattle.std.proofs.lemmas.Bool.{le-ltb}
use Rattle.hd_strength.proofs.MultisetLemmas.{found_there, found_none}
use Rattle.hd_strength.proofs.multiset.is_among.Goals as goal

pub returns-then-at-numbers : goal.returns-then-at-numbers
returns-then-at-numbers c =
    found_there c.args.numbers.now c.args.number c.place_of-at.result c.requires c.place_of-at.ensures (omega (arith, c.if-at-numbers.true))

pub returns-else-at-numbers : goal.returns-else-at-numbers
returns-else-at-numbers c =
    let numbers = c.args.numbers.now in
    le-ltb c.place_of-at.result (length numbers) c.if-at-numbers.false
    ∙ found_none numbers c.args.number c.place_of-at.result c.requires c.place_of-at.ensures (λ lt. omega (arith, c.if-at-numbers.false))
