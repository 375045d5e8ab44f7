use Rattle.std.proofs.Common.{◌≡◌, ◌∙◌, ℕ, ◌++◌, ◌∷◌, [], List, Some, map, sym, ap, subst, arith}
use Rattle.std.specs.List.{slice_get}
use Rattle.std.proofs.lemmas.Option.{slice_get_within}
use Rattle.hd_subs.specs.declared.class.Static.{Static}
use Rattle.hd_classes.specs.declared.first_class.FirstClass.{FirstClass}
use Rattle.hd_classes.specs.Sources.{table_of}
use Rattle.hd_classes.specs.Naming.{AreNumbers, AreLists, static_names}
use Rattle.hd_classes.proofs.NamingLemmas.{notes-further, lists-next, take-whole}
use Rattle.hd_classes.proofs.naming.statics_of.Goals as goal

pub loop-first-preserved : goal.loop-first-preserved
loop-first-preserved c =
    let t = table_of c.args.source.now in
    let entries = c.args.source.now.classes.entries in
    let h = c.loop-first.invariant in
    let i = c.loop-first.i in
    let entry : ℕ × FirstClass = (c.in-Some.field-0-0.now, c.in-Some.first.now) in
    let at : slice_get entries i ≡ Some entry = sym c.in-Some.ensures.entry in
    let more = c.in_ok-numbers.ensures.more in
    let are : AreNumbers t c.of_statics.new.self.texts (static_names entry) c.in_ok-numbers.numbers.items =
    subst (λ (ss : List Static). AreNumbers t c.of_statics.new.self.texts (map (λ (s : Static). s.name) ss) c.in_ok-numbers.numbers.items)
    c.as_slice.ensures.value c.in_ok-numbers.ensures.are in
    let lt = slice_get_within entries i entry at in
    record {
      within = omega (arith, lt);
      more = notes-further t c.args.names.now c.loop-first.names c.of_statics.new.self h.more more;
      statics = lists-next t c.loop-first.names.texts c.of_statics.new.self.texts static_names entries i entry c.loop-first.statics c.push.new.self
          c.in_ok-numbers.numbers.items at h.statics more.more are
          (c.in_ok-push.ensures.added ∙ ap (λ (ns : List ℕ). c.loop-first.statics ++ ns ∷ []) c.as_slice-in-Some.ensures.value);
    }

pub returns-clause-statics : goal.returns-clause-statics
returns-clause-statics c =
    subst (λ (es : List (ℕ × FirstClass)). AreLists (table_of c.args.source.now) c.loop-first.names.texts (map static_names es) c.loop-first.statics)
    (take-whole c.args.source.now.classes.entries c.loop-first.i (sym c.in_default.ensures.entry)) c.loop-first.invariant.statics
