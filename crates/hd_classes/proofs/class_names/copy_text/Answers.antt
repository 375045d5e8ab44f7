use Rattle.std.proofs.Common.{◌∙◌, List, ℕ, ◌++◌, sym, ap}
use Rattle.hd_terms.specs.declared.Span.{Span}
use Rattle.hd_classes.proofs.ClassNameLemmas.{copied-before, copied-now}
use Rattle.hd_classes.proofs.class_names.copy_text.Goals as goal

pub returns : goal.returns
returns c = copied-before c.args.bytes.now c.args.text.now.items c.args.copies.now.entries c.args.span c.in-Some.part.now c.requires.copied
    (sym c.in-Some.ensures.value) c.if-part-span.true

pub returns-2 : goal.returns-2
returns-2 c =
    copied-now c.args.bytes.now c.args.text.now.items c.extend_from_slice.new.self.items c.args.copies.now.entries c.insert.new.self.entries c.args.span
    (record { start = c.len.result; len = c.args.span.len })
    c.requires.within c.requires.copied
    (ap (λ (n : ℕ). let part : Span = record { start = n; len = c.args.span.len } in part) (c.len.ensures ∙ c.args.text.now.ok.0))
    (c.in_ok-extend_from_slice.ensures.items ∙ ap (λ (xs : List ℕ). c.args.text.now.items ++ xs) c.bytes_of.ensures)
    c.in_ok-insert.ensures.updates.0
