use Rattle.std.proofs.Common.{◌∙◌, sym}
use Rattle.hd_classes.proofs.NameLemmas.{first-new, first-known}
use Rattle.hd_classes.proofs.names.keep_first.Goals as goal

pub returns-in_default-clause-first : goal.returns-in_default-clause-first
returns-in_default-clause-first g c =
    first-new c.args.id c.args.value c.args.kept.now.entries _ (sym c.in_ok-first.ensures.old ∙ c.in_default.is) c.in_ok-first.ensures.updates.0

pub returns-clause-first : goal.returns-clause-first
returns-clause-first g c =
    first-known c.args.id c.args.value c.args.kept.now.entries c.in-Some.first _ _
    (sym c.in_ok-first.ensures.old ∙ c.in-Some.is) c.in_ok-first.ensures.updates.0 c.in_ok-insert.ensures.updates.0
