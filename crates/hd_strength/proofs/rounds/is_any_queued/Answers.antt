use Rattle.std.proofs.Common.{◌≡◌, ◌∙◌, ◌<◌, ◌≤◌, inl, inr, length, Some, slice_get, refl, sym, ap, subst, arith, ℕ}
use Rattle.std.proofs.lemmas.Bool.{cases_eq}
use Rattle.std.proofs.lemmas.Option.{slice_get_read, slice_get_within}
use Rattle.hd_strength.specs.declared.part.Part.{Part}
use Rattle.hd_strength.proofs.Lists.{none-long}
use Rattle.hd_strength.proofs.Rowed.{one_there}
use Rattle.hd_strength.proofs.rounds.is_any_queued.Goals as goal

pub returns-then-len-gt0-clause-yes : goal.returns-then-len-gt0-clause-yes
returns-then-len-gt0-clause-yes c = λ yes. record {
  index = c.loop-k.k;
  part = c.index-parts-k.result;
  there = slice_get_read c.args.parts.now (length c.args.parts.now) c.loop-k.k c.index-parts-k.result refl (omega arith) c.index-parts-k.is;
  some = let n : c.len.result ≡ length c.index-parts-k.result.queue = c.len.ensures ∙ ap (λ (p : Part). length p.queue) (sym c.index-parts-k.is) in
      let lt : 0 < c.len.result = c.if-len-gt0.true in omega arith;
}

pub loop-k-preserved : goal.loop-k-preserved
loop-k-preserved c = λ j p lt there. elim (cases_eq j c.loop-k.k) [
  | inl same ↦
      let here : slice_get c.args.parts.now c.loop-k.k ≡ Some c.index-parts-k.result =
      slice_get_read c.args.parts.now (length c.args.parts.now) c.loop-k.k c.index-parts-k.result refl (omega arith) c.index-parts-k.is in
      let is : p ≡ c.index-parts-k.result = one_there c.args.parts.now c.loop-k.k p c.index-parts-k.result
      (subst (λ (j : ℕ). slice_get c.args.parts.now j ≡ Some p) same there) here in
      ap (λ (p : Part). p.queue) is ∙ none-long c.index-parts-k.result.queue (let n : c.len.result ≡ length c.index-parts-k.result.queue = c.len.ensures
      ∙ ap (λ (p : Part). length p.queue) (sym c.index-parts-k.is) in let no : c.len.result ≤ 0 = c.if-len-gt0.false in omega arith)
  | inr other ↦ c.loop-k.invariant j p (omega arith) there
]

pub returns-clause-no : goal.returns-clause-no
returns-clause-no c = λ no k p there. c.loop-k.invariant k p (omega (arith, slice_get_within c.args.parts.now k p there)) there
