use Rattle.std.proofs.Common.{sym, subst}
use Rattle.hd_subs.specs.Views.{class_view}
use Rattle.hd_classes.specs.Building.{IsBroken}
use Rattle.hd_classes.proofs.ChainLemmas.{class-id}
use Rattle.hd_classes.proofs.PathLemmas.{path-down, broken-step, noted-push}
use Rattle.hd_classes.proofs.build.note_path.Goals as goal

pub loop-class-preserved : goal.loop-class-preserved
loop-class-preserved c = λ t leads end noted.
    let h = c.loop-class.invariant t leads end noted in
    let class = class_view c.in-Some.class.now in
    let laws = c.class_chains.ensures in
    let down = path-down t.classes c.loop-class.classes.items c.pop.new.self.items c.in-Some.class c.args.path.start h.1.0 c.in-Some.ensures.items h.1.1 in
    let broken : IsBroken t down.0 = broken-step laws.found laws.is_chain laws.cycle laws.never_ends t down.0 class down.2
    (subst (IsBroken t) (sym down.3) h.1.2) in (
      noted-push t c.loop-class.broken.keys c.insert.new.self.keys class.id h.0
          (subst (IsBroken t) (sym (class-id t.classes down.0 class down.2)) broken) c.in_ok-insert.ensures.keys,
      (down.0, down.1, broken),
    )
