use Rattle.std.proofs.Common.{◌≡◌, ◌∙◌, ℕ, ◌+◌, ◌<◌, ◌≤◌, length, map, ap, subst, sym, arith}
use Rattle.hd_terms.specs.declared.Strength.{Strength}
use Rattle.hd_terms.specs.Records.{largest_file}
use Rattle.hd_terms.specs.Dump.{object_at}
use Rattle.hd_terms.specs.Settled.{reached_at}
use Rattle.hd_totals.specs.declared.total.StrengthTotals.{StrengthTotals}
use Rattle.hd_totals.specs.Running.{plus_one}
use Rattle.hd_strength.specs.Found.{only_strength}
use Rattle.hd_queries.specs.Totals.{AreCounted}
use Rattle.hd_queries.proofs.TotalLemmas.{only-at, one-more-counted}
use Rattle.hd_queries.proofs.totals.count_part.Goals as goal

pub loop-o-preserved : goal.loop-o-preserved
loop-o-preserved c =
    let dump = c.args.graph.now in
    let ss = c.args.strengths.now in
    let ks = map only_strength ss in
    let old = c.loop-o.totals in
    let within : c.loop-o.o < length dump.objects = omega arith in
    let small = subst (λ (n : ℕ). n ≤ largest_file) c.bytes_of.ensures.bytes c.bytes_of.ensures.small in
    let is : c.add.new.self ≡ plus_one old (reached_at ks c.loop-o.o).strength (object_at dump c.loop-o.o).bytes =
    c.add.ensures ∙ ap (λ (s : Strength). plus_one old s c.bytes_of.result) (sym (only-at ss c.loop-o.o _ (omega (arith, c.requires.count))))
    ∙ ap (λ (n : ℕ). plus_one old (reached_at ks c.loop-o.o).strength n) c.bytes_of.ensures.bytes in
    subst (λ (totals : StrengthTotals). AreCounted dump ks c.args.start (c.loop-o.o + 1) totals) (sym is)
    (one-more-counted dump ks c.args.start c.loop-o.o old c.loop-o.invariant within small)
