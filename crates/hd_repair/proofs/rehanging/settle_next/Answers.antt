-- An object that is alone is detached; another one hangs on what `find_support` found, or is detached and sought later.
-- Either way one more is settled, and those that wait first stay alone.
use Rattle.std.proofs.Common.{subst}
use Rattle.hd_terms.specs.EdgeRows.{Rows}
use Rattle.hd_repair.specs.Alone.{AreFirst, IsFirstOr}
use Rattle.hd_repair.specs.Hanging.{NoneLate}
use Rattle.hd_repair.specs.Losing.{before_all, progress_of}
use Rattle.hd_repair.proofs.AloneLemmas.{first_alone, first_still, gone_alone, gone_sought, sought_still, stay_at_most, waits_not_gone}
use Rattle.hd_repair.proofs.RehangLemmas.{have_sources}
use Rattle.hd_repair.proofs.rehanging.settle_next.Goals as goal

pub find_support-requires-clause-sources : goal.find_support-requires-clause-sources
find_support-requires-clause-sources g c =
    let r = g.E.Edges.rows c.args.edges.now in
    have_sources r (g.met.E.Edges.lawful c.args.edges.now) c.args.kept.now (before_all c.args.o (progress_of c.args.losing.now)) NoneLate c.requires.underway

pub returns-then-is_alone-clause-first : goal.returns-then-is_alone-clause-first
returns-then-is_alone-clause-first g c =
    let r = g.E.Edges.rows c.args.edges.now in
    first_alone r (g.met.E.Edges.lawful c.args.edges.now) c.args.kept.now c.detach.new.kept c.args.o c.args.losing.now.alone c.detach.new.losing.alone
    c.args.losing.now.waiting.items c.detach.new.losing.waiting.items c.in_ok-detach.ensures.at_most c.in_ok-detach.ensures.unreachable c.requires.first
    c.in_ok-detach.ensures.alone

pub returns-then-is_alone-clause-sought : goal.returns-then-is_alone-clause-sought
returns-then-is_alone-clause-sought g c =
    let r = g.E.Edges.rows c.args.edges.now in
    rw (c.in_ok-detach.ensures.gone, c.in_ok-detach.ensures.sought) (gone_alone r.standing c.args.kept.now c.detach.new.kept
    c.args.losing.now.gone.objects.items c.args.losing.now.sought.items c.args.o c.in_ok-detach.ensures.at_most
    (c.requires.alone c.if-is_alone.true) c.requires.sought)

pub returns-in-Some-clause-first : goal.returns-in-Some-clause-first
returns-in-Some-clause-first g c =
    let r = g.E.Edges.rows c.args.edges.now in
    rw (c.in_ok-rehang.ensures.left.waiting, c.in_ok-rehang.ensures.left.alone) (first_still r.standing c.args.kept.now c.rehang.new.kept
    c.args.losing.now.alone c.args.losing.now.waiting.items (stay_at_most c.args.kept.now c.rehang.new.kept c.in_ok-rehang.ensures.strengths)
    c.requires.first)

pub returns-in-Some-clause-sought : goal.returns-in-Some-clause-sought
returns-in-Some-clause-sought g c =
    let r = g.E.Edges.rows c.args.edges.now in
    rw (c.in_ok-rehang.ensures.left.gone, c.in_ok-rehang.ensures.left.sought) (sought_still r.standing c.args.kept.now c.rehang.new.kept
    c.args.losing.now.gone.objects.items c.args.losing.now.sought.items
    (stay_at_most c.args.kept.now c.rehang.new.kept c.in_ok-rehang.ensures.strengths) c.requires.sought)

pub returns-clause-first : goal.returns-clause-first
returns-clause-first g c =
    let r = g.E.Edges.rows c.args.edges.now in
    let f = subst (λ (r : Rows). AreFirst c.detach-2.new.losing.alone c.detach-2.new.losing.waiting.items
    (IsFirstOr r c.args.losing.now.waiting.items c.args.losing.now.alone c.args.o)) c.find_support.ensures.same c.in_ok-detach-2.ensures.alone in
    first_alone r (g.met.E.Edges.lawful c.args.edges.now) c.args.kept.now c.detach-2.new.kept c.args.o c.args.losing.now.alone c.detach-2.new.losing.alone
    c.args.losing.now.waiting.items c.detach-2.new.losing.waiting.items c.in_ok-detach-2.ensures.at_most c.in_ok-detach-2.ensures.unreachable
    c.requires.first f

pub returns-clause-sought : goal.returns-clause-sought
returns-clause-sought g c =
    let r = g.E.Edges.rows c.args.edges.now in
    rw (c.in_ok-detach-2.ensures.gone, c.in_ok-push.ensures.items, c.in_ok-detach-2.ensures.sought) (gone_sought r.standing c.args.kept.now
    c.detach-2.new.kept c.args.losing.now.gone.objects.items c.args.losing.now.sought.items c.args.o c.in_ok-detach-2.ensures.at_most
    (waits_not_gone r.standing r.objects c.args.kept.now c.args.o (progress_of c.args.losing.now) c.requires.underway) c.requires.sought)
