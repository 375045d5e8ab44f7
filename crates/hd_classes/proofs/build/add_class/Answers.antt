use Rattle.std.proofs.Common.{inr, sym}
use Rattle.hd_classes.specs.Building.{IsBroken}
use Rattle.hd_classes.specs.FirstClass.{first_class_view}
use Rattle.hd_classes.specs.Sources.{table_of}
use Rattle.hd_classes.proofs.PathLemmas.{on-ok, adds-kept, adds-broken, never-ends, absent-broken, no-class}
use Rattle.hd_classes.proofs.build.add_class.Goals as goal
use Rattle.hd_classes.proofs.build.add_class.Goals.{else-not-contains-via-then-not-contains+else-is_some, else-not-contains-via-else-not-contains}

pub returns-then-path-eq0-clause-ok : goal.returns-then-path-eq0-clause-ok
returns-then-path-eq0-clause-ok c =
    let t = table_of c.args.source.now in
    on-ok c.keep_path.result _ _
    (adds-kept t (first_class_view c.args.class) _ c.args.known.now.entries c.keep_path.new.known.entries c.args.broken.now.keys c.in_ok-path.ensures.starts
    c.requires.broken) c.keep_path.ensures.ok

pub returns-then-is_some-clause-err : goal.returns-then-is_some-clause-err
returns-then-is_some-clause-err c =
    inr (never-ends (table_of c.args.source.now) (first_class_view c.args.class) c.args.known.now.entries c.args.broken.now.keys c.in_ok-path.path
    c.class_of.result c.in_ok-path.ensures
    (sym c.if-contains_key.ensures) (sym c.if-not-contains.ensures) c.class_of.ensures (sym c.if-is_some.ensures))

pub returns-clause-ok : goal.returns-clause-ok
returns-clause-ok c =
    let t = table_of c.args.source.now in
    let end = c.in_ok-path.path.end in
    let broken : IsBroken t end = elim c.else-not-contains.branch [
      | else-not-contains-via-then-not-contains+else-is_some w ↦
          absent-broken t end c.if-path-eq0.false (no-class w.class_of.result _ w.class_of.ensures (sym w.if-is_some.ensures))
      | else-not-contains-via-else-not-contains w ↦ c.requires.broken end (sym w.if-not-contains.ensures)
    ] in
    adds-broken t (first_class_view c.args.class) _ c.args.known.now.entries c.note_path.new.broken.keys c.in_ok-path.ensures.starts c.requires.kept
    (c.in_ok-note_path.ensures t c.in_ok-path.ensures.leads broken c.requires.broken)
