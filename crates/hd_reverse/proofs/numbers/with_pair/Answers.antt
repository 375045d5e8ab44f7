use Rattle.std.proofs.Common.{◌≡◌, ◌∙◌, List, ◌++◌, ap, sym, subst, arith}
use Rattle.std.specs.List.{insert}
use Rattle.std.proofs.lemmas.List.Edits.{length-insert}
use Rattle.hd_reverse.specs.declared.numbers.NumberOn.{NumberOn}
use Rattle.hd_reverse.specs.Numbers.{numbers_on, AreByObject}
use Rattle.hd_reverse.proofs.NumberLemmas.{pair_sorted, pair_numbers}
use Rattle.hd_reverse.proofs.numbers.with_pair.Goals as goal
use Rattle.hd_reverse.proofs.numbers.with_pair.Goals.{In_ok-insert}

-- what is returned
made : (c : In_ok-insert) → c.insert.new.self.items ≡ insert c.args.pairs.now c.end_of-at.result c.args.pair
made c =
    let copy : c.extend_from_slice.new.self.items ≡ c.args.pairs.now =
    c.in_ok-extend_from_slice.ensures.items ∙ ap (λ (ns : List NumberOn). ns ++ c.args.pairs.now) c.in_ok-copy.ensures.items in
    c.in_ok-insert.ensures.items ∙ ap (λ (ns : List NumberOn). insert ns c.end_of-at.result c.args.pair) copy

pub returns-clause-are : goal.returns-clause-are
returns-clause-are c =
    let pairs = c.args.pairs.now in
    let at = c.end_of-at.result in
    subst AreByObject (sym (made (goal.at.returns-clause-are c).In_ok-insert)) (record {
      rise = pair_sorted pairs c.args.pair at c.end_of-at.ensures c.requires.are.rise;
      few = omega (arith, length-insert pairs at c.args.pair c.end_of-at.ensures.within, c.requires.few);
    })

pub returns-clause-numbers : goal.returns-clause-numbers
returns-clause-numbers c o =
    ap (λ (ns : List NumberOn). numbers_on ns o) (made (goal.at.returns-clause-numbers c).In_ok-insert)
    ∙ pair_numbers c.args.pairs.now c.args.pair c.end_of-at.result c.end_of-at.ensures o
