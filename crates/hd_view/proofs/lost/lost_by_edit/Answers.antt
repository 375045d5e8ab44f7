use Rattle.hd_view.proofs.LostLemmas.{all_lost}
use Rattle.hd_view.proofs.lost.lost_by_edit.Goals as goal

pub returns : goal.returns
returns c =
    all_lost c.args.more.graph.now c.args.more.front.now c.args.less.front.now c.new-items.result.items c.push_lost.new.items.items c.new-items.ensures.items
    c.in_ok-push_lost.ensures.adds c.in_ok-push_lost.ensures.all
