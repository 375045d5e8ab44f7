use Rattle.std.proofs.Common.{◌∙◌, arith}
use Rattle.std.proofs.lemmas.List.{get_or_default}
use Rattle.hd_strength.proofs.MultisetLemmas.{none-fewer}
use Rattle.hd_strength.proofs.multiset.remove_number.Goals as goal
use Rattle.hd_strength.proofs.multiset.remove_number.Goals.{else-at-len-via-then-at-len+else-index-number, else-at-len-via-else-at-len}

pub returns-else-at-len-clause-fewer : goal.returns-else-at-len-clause-fewer
returns-else-at-len-clause-fewer c n =
    none-fewer c.args.numbers.now.items c.args.number c.place_of-at.result c.requires (rw c.deref.ensures.value at c.place_of-at.ensures)
    (λ lt same. elim c.else-at-len.branch [
      | else-at-len-via-then-at-len+else-index-number w ↦
          w.if-index-number.false (w.index.ensures ∙ get_or_default c.args.numbers.now.items c.place_of-at.result w.index.result.now 0 lt ∙ same)
      | else-at-len-via-else-at-len w ↦ omega (arith, c.len.ensures, w.if-at-len.false)
    ]) n
