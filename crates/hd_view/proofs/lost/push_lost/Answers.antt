use Rattle.hd_view.proofs.OneEditLemmas.{cut_lost, clear_lost, drop_lost, add_lost, kind_lost, field_lost}
use Rattle.hd_view.proofs.lost.push_lost.Goals as goal

pub returns-in_ok-push_edited-in-Cut-clause-all : goal.returns-in_ok-push_edited-in-Cut-clause-all
returns-in_ok-push_edited-in-Cut-clause-all c =
    cut_lost c.args.more.graph.now c.args.more.front.now c.args.less.front.now c.args.k _ _ c.args.edit c.push_edited.new.items.items c.in-Cut.is c.requires.one
    c.in_ok-push_edited-in-Cut.ensures.all

pub returns-in_ok-push_edited-in-Clear-clause-all : goal.returns-in_ok-push_edited-in-Clear-clause-all
returns-in_ok-push_edited-in-Clear-clause-all c =
    clear_lost c.args.more.graph.now c.args.more.front.now c.args.less.front.now c.args.k _ c.args.edit c.push_edited-in-Clear.new.items.items c.in-Clear.is
    c.requires.one c.in_ok-push_edited-in-Clear.ensures.all

pub returns-in_ok-push_root-in-Drop-clause-all : goal.returns-in_ok-push_root-in-Drop-clause-all
returns-in_ok-push_root-in-Drop-clause-all c =
    drop_lost c.args.more.graph.now c.args.more.front.now c.args.less.front.now c.args.k c.in-Drop.r c.args.edit c.push_root.new.items.items c.in-Drop.is
    c.requires.one c.in_ok-push_root-in-Drop.ensures.all

pub returns-in_ok-push_root-in-Add-clause-all : goal.returns-in_ok-push_root-in-Add-clause-all
returns-in_ok-push_root-in-Add-clause-all c =
    add_lost c.args.more.graph.now c.args.more.front.now c.args.less.front.now c.args.k _ c.args.edit c.added_number.result c.push_root-in-Add.new.items.items
    c.in-Add.is c.requires.one c.added_number.ensures c.in_ok-push_root-in-Add.ensures.all

pub returns-in_ok-push_kind-in-ClearAll-clause-all : goal.returns-in_ok-push_kind-in-ClearAll-clause-all
returns-in_ok-push_kind-in-ClearAll-clause-all c =
    kind_lost c.args.more.graph.now c.args.more.front.now c.args.less.front.now c.args.k c.in-ClearAll.kind c.args.edit c.push_kind.new.items.items
    c.in-ClearAll.is c.requires.one c.in_ok-push_kind-in-ClearAll.ensures.all

pub returns-in_ok-push_field-in-CutAll-clause-all : goal.returns-in_ok-push_field-in-CutAll-clause-all
returns-in_ok-push_field-in-CutAll-clause-all c =
    field_lost c.args.more.graph.now c.args.more.front.now c.args.less.front.now c.args.k c.in-CutAll.class c.in-CutAll.field c.args.edit
    c.push_field.new.items.items c.in-CutAll.is c.requires.one c.in_ok-push_field-in-CutAll.ensures.all
