use Rattle.std.proofs.Common.{◌∙◌, sym}
use Rattle.hd_subs.specs.Views.{class_view}
use Rattle.hd_classes.specs.Sources.{table_of}
use Rattle.hd_classes.proofs.NameLemmas.{none-from_is_some}
use Rattle.hd_classes.proofs.FirstClassLemmas.{insert-absent}
use Rattle.hd_classes.proofs.KeptLemmas.{keeps-push, above-short, above-referent}
use Rattle.hd_classes.proofs.linking.keep_class.Goals as goal

pub linked_class-requires-clause-short : goal.linked_class-requires-clause-short
linked_class-requires-clause-short c = above-short (table_of c.args.source.now) c.args.known.now.entries c.requires.kept _ _ c.inherited_from.ensures

pub linked_class-requires-clause-referent : goal.linked_class-requires-clause-referent
linked_class-requires-clause-referent c = above-referent (table_of c.args.source.now) c.args.known.now.entries c.requires.kept _ _ c.inherited_from.ensures

pub returns-clause-ok : goal.returns-clause-ok
returns-clause-ok c =
    let rows = c.args.known.now.entries in
    let absent = none-from_is_some _ (sym c.contains_key.ensures ∙ c.if-contains_key.false) in
    keeps-push (table_of c.args.source.now) rows c.requires.kept (class_view c.args.class.now) c.requires.class c.requires.top _ c.inherited_from.ensures
    _ c.in_ok-linked.ensures.ok c.class_chains.ensures.found c.class_chains.ensures.is_chain
    c.insert.new.self.entries (c.in_ok-insert.ensures.entries ∙ insert-absent _ _ rows absent) absent
