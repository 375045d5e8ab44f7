-- The classes of a path are kept from its end down, each above the next one (`path-down`),
-- so the class above one is known when it is kept.
use Rattle.std.proofs.Common.{◌≡◌, ◌∙◌, ℕ, ◌-◌, [], List, take, Bor, true, inr, sym, ap, subst}
use Rattle.std.proofs.lemmas.List.{append-nil}
use Rattle.hd_terms.specs.Classes.{LeadUp, class_at, first_classes}
use Rattle.hd_subs.specs.declared.class.ClassDump.{ClassDump}
use Rattle.hd_subs.specs.Views.{class_view}
use Rattle.hd_classes.specs.Links.{is_kept}
use Rattle.hd_classes.specs.Linking.{IsTop}
use Rattle.hd_classes.specs.Paths.{path_view}
use Rattle.hd_classes.proofs.ChainLemmas.{class-id}
use Rattle.hd_classes.proofs.PathLemmas.{path-down}
use Rattle.hd_classes.proofs.build.keep_path.Goals as goal

pub keep_class-requires-clause-class : goal.keep_class-requires-clause-class
keep_class-requires-clause-class c =
    let classes = first_classes c.args.source.now.list.now in
    let h = c.loop-class.invariant in
    let down = path-down classes c.loop-class.classes.items c.pop.new.self.items c.in-Some.class c.args.path.start h.2.0 c.in-Some.ensures.items h.2.1 in
    ap (class_at classes) (class-id classes down.0 (class_view c.in-Some.class.now) down.2) ∙ down.2

pub keep_class-requires-clause-top : goal.keep_class-requires-clause-top
keep_class-requires-clause-top c =
    let classes = first_classes c.args.source.now.list.now in
    let h = c.loop-class.invariant in
    let down = path-down classes c.loop-class.classes.items c.pop.new.self.items c.in-Some.class c.args.path.start h.2.0 c.in-Some.ensures.items h.2.1 in
    subst (IsTop c.loop-class.known.entries) (sym down.3) h.2.2

pub loop-class-preserved : goal.loop-class-preserved
loop-class-preserved c =
    let classes = first_classes c.args.source.now.list.now in
    let h = c.loop-class.invariant in
    let down = path-down classes c.loop-class.classes.items c.pop.new.self.items c.in-Some.class c.args.path.start h.2.0 c.in-Some.ensures.items h.2.1 in
    let more = c.in_ok-keep_class.ensures.ok in (
      more.kept,
      λ id there. more.more id (h.1 id there),
      (
        down.0,
        down.1,
        inr (subst (λ (id : ℕ). is_kept c.keep_class.new.known.entries id ≡ true) (class-id classes down.0 (class_view c.in-Some.class.now) down.2) more.has),
      ),
    )

pub returns-clause-ok : goal.returns-clause-ok
returns-clause-ok c =
    let classes = first_classes c.args.source.now.list.now in
    let h = c.loop-class.invariant in
    let items = c.loop-class.classes.items in
    let none : items ≡ [] = c.in_default.ensures.items ∙ append-nil c.pop.new.self.items ∙ c.in_default.ensures.rest
    ∙ ap (λ (n : ℕ). take (n - 1) items) c.in_default.ensures.cases.0 in
    let same : c.args.path.start ≡ h.2.0 = subst (λ (xs : List (Bor ClassDump)). LeadUp classes c.args.path.start (path_view xs) h.2.0) none h.2.1 in
    record { kept = h.0; more = h.1; top = subst (IsTop c.loop-class.known.entries) (sym same) h.2.2 }
