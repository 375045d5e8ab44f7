-- Each step adds the class to which the last one leads (`lead-push`), until one is known, is absent, or the path is as
-- long as there are classes, and so never ends.
use Rattle.std.proofs.Common.{◌≡◌, ◌∙◌, List, [], ◌∷◌, ◌++◌, length, Bor, sym, ap, subst, arith}
use Rattle.std.proofs.lemmas.List.{length_push, map-append}
use Rattle.hd_terms.specs.SubRecords.{ClassItem}
use Rattle.hd_terms.specs.Classes.{LeadUp, first_classes}
use Rattle.hd_subs.specs.declared.class.ClassDump.{ClassDump}
use Rattle.hd_subs.specs.Views.{class_view}
use Rattle.hd_classes.specs.Paths.{path_view}
use Rattle.hd_classes.proofs.FirstClassLemmas.{length-standing}
use Rattle.hd_classes.proofs.ChainLemmas.{lead-push}
use Rattle.hd_classes.proofs.path.climb.Goals as goal

pub loop-step-preserved : goal.loop-step-preserved
loop-step-preserved c =
    let classes = first_classes c.args.source.now.list.now in
    let before = c.loop-step.path.classes.items in
    let class : ClassItem = class_view c.in-Some.class.now in
    let h = c.loop-step.invariant in
    let items = c.in_ok-push-in-Some.ensures.items in
    let seen : path_view c.push.new.self.items ≡ path_view before ++ class ∷ [] = ap path_view items
    ∙ map-append (λ (b : Bor ClassDump). class_view b.now) before (c.in-Some.class ∷ []) in (
      h.0,
      subst (λ (cs : List ClassItem). LeadUp classes c.loop-step.path.start cs class.super) (sym seen)
          (lead-push classes (path_view before) c.loop-step.path.start c.loop-step.path.end class h.1 (sym c.in-Some.ensures)),
      omega (arith, h.2, ap (λ (bs : List (Bor ClassDump)). length bs) items, length_push before c.in-Some.class),
    )

pub returns : goal.returns
returns c =
    let h = c.loop-step.invariant in
    record {
      starts = h.0;
      leads = h.1;
      stops = λ kept noted class at.
          omega (
            arith,
            h.2,
            c.loop-step-test.false,
            c.loop-step.auto._step-end,
            c.len-step-end.ensures.len,
            length-standing c.args.source.now.list.now c.args.source.now.classes.entries c.requires.classes,
          );
    }
