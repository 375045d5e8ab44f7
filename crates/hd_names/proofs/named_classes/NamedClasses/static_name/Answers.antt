-- A class that isn't there has no statics, and behind its last static there is no name: the two early returns.
-- Else the name is the text of the number in its row.
use Rattle.std.proofs.Common.{◌∙◌, ℕ, List, sym, ap}
use Rattle.std.specs.Option.{option_copied, option_and_then}
use Rattle.std.specs.List.{slice_get}
use Rattle.std.proofs.lemmas.Option.{slice_get_past}
use Rattle.hd_terms.specs.Dump.{NamedClass}
use Rattle.hd_names.specs.Named.{static_in}
use Rattle.hd_names.proofs.TableLemmas.{slice-some}
use Rattle.hd_names.proofs.NamedLemmas.{static-at, static-past, static-none}
use Rattle.hd_names.proofs.named_classes.NamedClasses.static_name.Goals as goal

pub returns-in_err-place : goal.returns-in_err-place
returns-in_err-place c =
    let a = c.self.inside in
    ap (λ (o : _). option_copied o) c.from_residual.ensures
    ∙ sym (static-none a.table c.args.class a.firsts.entries a.statics c.self.invariant.statics (sym c.in_err-place.ensures.value) c.args.number)
    ∙ ap (λ (cs : List NamedClass). static_in cs c.args.class c.args.number) c.self.view_is

pub returns-in_err-statics : goal.returns-in_err-statics
returns-in_err-statics c =
    let a = c.self.inside in
    ap (λ (o : _). option_copied o) c.from_residual-in_err-statics.ensures
    ∙ sym (static-past a.table c.args.class a.firsts.entries a.statics c.self.invariant.statics c.in_ok-place.place c.in_ok-place.ensures.index
    (sym c.in_err-statics.ensures) c.args.number)
    ∙ ap (λ (cs : List NamedClass). static_in cs c.args.class c.args.number) c.self.view_is

pub returns-in_err-name : goal.returns-in_err-name
returns-in_err-name c =
    let a = c.self.inside in
    let ns = c.in_ok-statics.statics.now in
    ap (λ (o : _). option_copied o) c.from_residual-in_err-name.ensures
    ∙ sym (static-at a.table c.args.class a.firsts.entries a.statics c.self.invariant.statics c.in_ok-place.place c.in_ok-place.ensures.index _
    c.in_ok-place.ensures.entry ns (sym c.in_ok-statics.ensures) c.args.number
    ∙ ap (λ (o : _). option_and_then (λ (n : ℕ). slice_get a.table.texts n) o) (slice_get_past ns c.args.number c.in_err-name.ensures.lookup.3))
    ∙ ap (λ (cs : List NamedClass). static_in cs c.args.class c.args.number) c.self.view_is

pub returns : goal.returns
returns c =
    let a = c.self.inside in
    let ns = c.in_ok-statics.statics.now in
    let here = c.in_ok-name.ensures.lookup.3 in
    c.get-3.ensures
    ∙ sym (static-at a.table c.args.class a.firsts.entries a.statics c.self.invariant.statics c.in_ok-place.place c.in_ok-place.ensures.index _
    c.in_ok-place.ensures.entry ns (sym c.in_ok-statics.ensures) c.args.number
    ∙ ap (λ (o : _). option_and_then (λ (n : ℕ). slice_get a.table.texts n) o) (slice-some ns c.args.number c.in_ok-name.field-0.now here.0 here.1))
    ∙ ap (λ (cs : List NamedClass). static_in cs c.args.class c.args.number) c.self.view_is
