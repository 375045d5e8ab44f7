use Rattle.std.proofs.Common.{◌∙◌, ℕ, ◌∷◌, [], ◌++◌, is_some, eqb, sym, ap}
use Rattle.std.specs.Map.{lookup}
use Rattle.indexmap.proofs.CallerLemmas.{insert_entry-new}
use Rattle.hd_classes.specs.Known.{name_at}
use Rattle.hd_classes.proofs.NameLemmas.{none-from_is_some}
use Rattle.hd_classes.proofs.ClassNameLemmas.{no-name, name-again, name-added}
use Rattle.hd_classes.proofs.class_names.add_name.Goals as goal

pub returns-in_ok-insert-in-Some : goal.returns-in_ok-insert-in-Some
returns-in_ok-insert-in-Some c = λ k loads l same is h.
    let parts = c.args.copied.now.parts in
    name-added c.args.bytes.now k loads l c.in-Some.span (ap (name_at k) same ∙ is ∙ c.in-Some.is) c.args.copied.now _ c.in_ok-part-in-Some.part
    (ap (λ (i : ℕ). is_some (lookup (λ (y : ℕ). eqb i y) parts.entries)) same ∙ sym c.if-not-contains_key.ensures)
    c.in_ok-part-in-Some.ensures
    (c.in_ok-insert-in-Some.ensures.entries
    ∙ insert_entry-new eqb parts c.args.class c.in_ok-part-in-Some.part (none-from_is_some _ (sym c.if-not-contains_key.ensures))
    ∙ ap (λ (i : ℕ). parts.entries ++ (i, c.in_ok-part-in-Some.part) ∷ []) (sym same))
    h

pub returns-else-not-contains_key : goal.returns-else-not-contains_key
returns-else-not-contains_key c = λ k loads l same is h.
    name-again c.args.bytes.now k loads l c.in-Some.span (ap (name_at k) same ∙ is ∙ c.in-Some.is) c.args.copied.now
    (ap (λ (i : ℕ). is_some (lookup (λ (y : ℕ). eqb i y) c.args.copied.now.parts.entries)) same ∙ sym c.if-not-contains_key.ensures)
    h

pub returns-in-None : goal.returns-in-None
returns-in-None c = λ k loads l same is h. no-name c.args.bytes.now k loads l c.args.copied.now (ap (name_at k) same ∙ is ∙ c.in-None.is) h
