use Rattle.std.proofs.Common.{◌≡◌, ◌∙◌, ◌<◌, length, ap, arith, get_or}
use Rattle.std.proofs.lemmas.List.{get_or_default}
use Rattle.hd_classes.specs.Known.{known_view}
use Rattle.hd_classes.specs.Fits.{SizedClasses}
use Rattle.hd_classes.proofs.FitLemmas.{kept-bytes, keep-bytes, few-fields, class-by-number}
use Rattle.hd_classes.proofs.fit.LayoutBytes.bytes_of.Goals as goal

pub returns-then-index-gt0-clause-bytes : goal.returns-then-index-gt0-clause-bytes
returns-then-index-gt0-clause-bytes c =
    let sums = c.self.inside.sums.items in
    let within : c.args.class < length sums =
    omega (arith, c.requires, c.self.invariant.sums.count, ap (λ (s : SizedClasses). length s.classes.classes) c.self.view_is) in
    let first : c.index.result.now ≡ get_or sums c.args.class 0 = c.index.ensures ∙ get_or_default sums c.args.class c.index.result.now 0 within in
    let second : c.index-then-index-gt0.result.now ≡ get_or sums c.args.class 0 = c.index-then-index-gt0.ensures
    ∙ get_or_default sums c.args.class c.index-then-index-gt0.result.now 0 within in
    rw (← c.self.view_is) (kept-bytes c.self.inside.id_size c.self.inside.classes.now sums c.args.class c.from.result c.self.invariant.sums
    (omega (arith, c.if-index-gt0.true, first)) (omega (arith, c.from.ensures, second)))

pub overflow_cast-bytes : goal.overflow_cast-bytes
overflow_cast-bytes c = let few = c.in_ok-bytes.ensures.few in
    omega (arith, few-fields c.self.inside.classes.now.classes c.args.class (known_view c.get.result) c.self.invariant.sums.short c.get.ensures, few)

pub overflow_add-bytes : goal.overflow_add-bytes
overflow_add-bytes c = let few = c.in_ok-bytes.ensures.few in
    omega (arith, few-fields c.self.inside.classes.now.classes c.args.class (known_view c.get.result) c.self.invariant.sums.short c.get.ensures, few)

pub invariant_of-self : goal.invariant_of-self
invariant_of-self c = record {
  sums =
      keep-bytes c.self.inside.id_size c.self.inside.classes.now c.self.inside.sums.items c.args.class c.in_ok-bytes.bytes c.self.invariant.sums
      (c.in_ok-bytes.ensures.bytes.0 ∙ class-by-number c.self.inside.id_size c.self.inside.classes.now c.args.class (known_view c.get.result) c.get.ensures);
  places = c.self.invariant.places;
}
