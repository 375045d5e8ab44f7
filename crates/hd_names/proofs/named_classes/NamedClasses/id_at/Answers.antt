use Rattle.std.proofs.Common.{◌∙◌, ℕ, Option, List, sym, ap}
use Rattle.std.specs.Option.{option_map}
use Rattle.std.specs.List.{slice_get}
use Rattle.hd_terms.specs.Dump.{NamedClass}
use Rattle.hd_names.proofs.NamedLemmas.{id-at}
use Rattle.hd_names.proofs.named_classes.NamedClasses.id_at.Goals as goal

pub returns-in-Some : goal.returns-in-Some
returns-in-Some c =
    let a = c.self.inside in
    ap (option_map (λ (f : ℕ × Option ℕ). f.0)) c.in-Some.ensures.entry
    ∙ sym (id-at a.table a.firsts.entries a.statics c.args.place c.self.invariant.statics)
    ∙ ap (λ (cs : List NamedClass). option_map (λ (x : NamedClass). x.class) (slice_get cs c.args.place)) c.self.view_is

pub returns-in-None : goal.returns-in-None
returns-in-None c =
    let a = c.self.inside in
    ap (option_map (λ (f : ℕ × Option ℕ). f.0)) c.in-None.ensures.entry
    ∙ sym (id-at a.table a.firsts.entries a.statics c.args.place c.self.invariant.statics)
    ∙ ap (λ (cs : List NamedClass). option_map (λ (x : NamedClass). x.class) (slice_get cs c.args.place)) c.self.view_is
