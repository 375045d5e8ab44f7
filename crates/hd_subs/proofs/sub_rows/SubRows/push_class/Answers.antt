use Rattle.std.proofs.Common.{◌∙◌, refl}
use Rattle.hd_subs.proofs.Classes.{class-push}
use Rattle.hd_subs.proofs.sub_rows.SubRows.push_class.Goals as goal

pub returns-clause-ok : goal.returns-clause-ok
returns-clause-ok c =
    rw (c.in_ok-push.ensures.items, c.push_reserved.ensures.items, c.in_ok-reserve.ensures.items, ← c.self.view_is)
    (class-push c.self.inside.classes.items c.args.class c.self.inside.rows.items _ c.self.invariant refl (c.len.ensures ∙ c.self.inside.classes.ok.0))
