use Rattle.std.proofs.Common.{◌≡◌, ℕ, ◌-◌, subst, arith}
use Rattle.hd_terms.specs.Dump.{object_at}
use Rattle.hd_totals.specs.Counting.{totals_of}
use Rattle.hd_totals.specs.GroupPages.{IsNoted}
use Rattle.hd_totals.specs.LastChanges.{page_of}
use Rattle.hd_totals.proofs.CountingLemmas.{all-counted}
use Rattle.hd_totals.proofs.group_totals.GroupTotals.of.Goals as goal

pub returns-clause-totals : goal.returns-clause-totals
returns-clause-totals g c =
    rw c.in_ok-totals.ensures
    (all-counted c.args.graph.now c.args.supports.now
    (totals_of c.in_ok-counted.field-0.counted) c.in_ok-counted.ensures.counted.counted c.in_ok-counted.ensures.few)

pub returns-clause-pages : goal.returns-clause-pages
returns-clause-pages g c o lt =
    let dump = c.args.graph.now in
    let page : page_of o - page_of 0 ≡ page_of o = omega arith in
    subst (λ (n : ℕ). IsNoted c.in_ok-counted.field-0.pages n (object_at dump o).group (object_at dump o).id) page
    (c.in_ok-counted.ensures.counted.noted o (omega arith) lt)
