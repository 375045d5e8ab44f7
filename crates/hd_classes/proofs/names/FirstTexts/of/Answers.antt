use Rattle.std.proofs.Common.{arith}
use Rattle.hd_classes.proofs.SideLemmas.{both-texts, both-counts, both-le}
use Rattle.hd_classes.proofs.names.FirstTexts.of.Goals as goal

pub overflow_add-result : goal.overflow_add-result
overflow_add-result g c =
    let even = rw c.in_ok-even.was at c.join-even.ensures.first in
    let odd = rw c.in_ok-odd.was at c.join-even.ensures.second in
    omega (arith, both-le c.args.strings.now _ _ even.count odd.count, c.len-len.ensures)

pub returns : goal.returns
returns g c =
    let even = rw c.in_ok-even.was at c.join-even.ensures.first in
    let odd = rw c.in_ok-odd.was at c.join-even.ensures.second in
    rw c.new.ensures record {
      texts = both-texts c.args.strings.now _ _ even.texts odd.texts;
      repeated =
          both-counts c.args.strings.now _ _ even.count odd.count;
    }
