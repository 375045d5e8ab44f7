use Rattle.std.proofs.Common.{◌∙◌, ◌≡◌, ℕ, Some, Bool, false, sym, ap, arith, below_more}
use Rattle.std.specs.List.{slice_get}
use Rattle.std.proofs.lemmas.Option.{slice_get-get_or, get_or_from_slice_get}
use Rattle.hd_terms.specs.Classes.{is_referent}
use Rattle.hd_classes.specs.declared.known.LayoutField.{LayoutField}
use Rattle.hd_classes.specs.Known.{field_view}
use Rattle.hd_classes.specs.Sources.{table_of}
use Rattle.hd_classes.proofs.SearchLemmas.{position-is, position-none, position-map}
use Rattle.hd_classes.proofs.source.Source.referent_in.Goals as goal

pub returns-then-is_referent : goal.returns-then-is_referent
returns-then-is_referent c =
    let passes : LayoutField → Bool = λ (f : LayoutField). is_referent (table_of c.args.self.now) (field_view f) in
    sym (position-map field_view (is_referent (table_of c.args.self.now)) c.args.layout.now
    ∙ position-is passes c.args.layout.now c.loop-i.i _ (slice_get-get_or c.args.layout.now c.loop-i.i _ (omega arith))
    (sym c.is_referent.ensures ∙ c.if-is_referent.true) c.loop-i.invariant)

pub loop-i-preserved : goal.loop-i-preserved
loop-i-preserved c = λ k f lt is.
    let t = table_of c.args.self.now in
    let P : ℕ → Type 0 = λ (n : ℕ). (g : LayoutField) → slice_get c.args.layout.now n ≡ Some g → is_referent t (field_view g) ≡ false in
    below_more P c.loop-i.i (λ n below g at. c.loop-i.invariant n g below at)
    (λ g at. ap (λ (x : LayoutField). is_referent t (field_view x)) (sym (get_or_from_slice_get c.args.layout.now c.loop-i.i g _ at))
    ∙ sym c.is_referent.ensures ∙ c.if-is_referent.false) k lt f is

pub returns : goal.returns
returns c =
    let passes : LayoutField → Bool = λ (f : LayoutField). is_referent (table_of c.args.self.now) (field_view f) in
    sym (position-map field_view (is_referent (table_of c.args.self.now)) c.args.layout.now
    ∙ position-none passes c.args.layout.now (λ k f lt is. c.loop-i.invariant k f (omega arith) is))
