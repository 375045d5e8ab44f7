use Rattle.hd_view.proofs.OneEditLemmas.{edited_none, edited_found}
use Rattle.hd_view.proofs.lost.push_edited.Goals as goal

pub returns-in_default-clause-all : goal.returns-in_default-clause-all
returns-in_default-clause-all c =
    edited_none c.args.more.graph.now c.args.more.front.now c.args.less.front.now c.args.edit c.args.items.now.items c.edited_slot.result c.edited_slot.ensures
    c.in_default.not-Some

pub returns-clause-all : goal.returns-clause-all
returns-clause-all c =
    edited_found c.args.more.graph.now c.args.more.front.now c.args.less.front.now c.args.edit c.push_slot.new.items.items c.edited_slot.result c.in-Some.o
    c.in-Some.i c.edited_slot.ensures c.in-Some.is c.in_ok-push_slot.ensures.all
