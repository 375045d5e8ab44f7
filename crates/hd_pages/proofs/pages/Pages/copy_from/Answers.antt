use Rattle.hd_pages.proofs.PartLemmas.{one_copied}
use Rattle.hd_pages.proofs.pages.Pages.copy_from.Goals as goal

pub loop-i-preserved : goal.loop-i-preserved
loop-i-preserved g c =
    one_copied c.args.self.now _ c.loop-i.items.items c.push.new.self.items c.loop-i.i c.get.result c.loop-i.invariant c.get.ensures c.in_ok-push.ensures.items
