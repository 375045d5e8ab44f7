use Rattle.std.proofs.Common.{◌≡◌, ◌<◌, inl, inr, length, Some, slice_get, refl, subst, arith, ℕ}
use Rattle.std.proofs.lemmas.Bool.{cases_eq}
use Rattle.std.proofs.lemmas.Option.{slice_get_read, slice_get_within}
use Rattle.hd_strength.specs.declared.part.Part.{Part}
use Rattle.hd_strength.specs.Parts.{IsOwn}
use Rattle.hd_strength.proofs.Rowed.{one_there}
use Rattle.hd_strength.proofs.rounds.holder.Goals as goal

pub returns-then-has : goal.returns-then-has
returns-then-has c = record {
  part = c.index-parts-k.result;
  there = slice_get_read c.args.parts.now (length c.args.parts.now) c.loop-k.k c.index-parts-k.result refl (omega arith) c.index-parts-k.is;
  own = c.has.ensures.yes c.if-has.true;
}

pub loop-k-preserved : goal.loop-k-preserved
loop-k-preserved c = λ j p lt there own. elim (cases_eq j c.loop-k.k) [
  | inl same ↦
      let here : slice_get c.args.parts.now c.loop-k.k ≡ Some c.index-parts-k.result =
      slice_get_read c.args.parts.now (length c.args.parts.now) c.loop-k.k c.index-parts-k.result refl (omega arith) c.index-parts-k.is in
      let is : p ≡ c.index-parts-k.result = one_there c.args.parts.now c.loop-k.k p c.index-parts-k.result
      (subst (λ (j : ℕ). slice_get c.args.parts.now j ≡ Some p) same there) here in
      c.has.ensures.no c.if-has.false (subst (λ (p : Part). IsOwn p c.args.o) is own)
  | inr other ↦ c.loop-k.invariant j p (omega arith) there own
]

pub unreachable-requires : goal.unreachable-requires
unreachable-requires c =
    let lt : c.requires.index < length c.args.parts.now = slice_get_within c.args.parts.now c.requires.index c.requires.holder.part c.requires.holder.there in
    c.loop-k.invariant c.requires.index c.requires.holder.part (omega arith) c.requires.holder.there c.requires.holder.own
