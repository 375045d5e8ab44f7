use Rattle.std.proofs.Common.{◌≡◌, ◌∙◌, sym, ap, subst, [], ◌∷◌, ◌++◌}
use Rattle.hd_terms.specs.declared.Support.TheVariants as supports
use Rattle.hd_terms.specs.Regions.{Holding}
use Rattle.hd_view.specs.Losing.{AddsLost, HasNumber}
use Rattle.hd_view.proofs.LostLemmas.{adds_one, lost_root, same_root, pushed_root, is_on, is_off}
use Rattle.hd_view.proofs.lost.push_root.Goals as goal

pub returns-then-root_is_on-clause-all : goal.returns-then-root_is_on-clause-all
returns-then-root_is_on-clause-all c =
    same_root c.args.more.graph.now c.args.more.front.now c.args.less.front.now c.args.r c.in-Some.object c.args.items.now.items
    (sym c.in-Some.is ∙ c.root_object.ensures)
    (is_on c.args.more.graph.now c.args.less.graph.now c.args.less.front.now c.args.r c.in-Some.object c.root_is_on.result c.requires.same c.root_is_on.ensures
    c.if-root_is_on.true)

pub returns-clause-adds : goal.returns-clause-adds
returns-clause-adds c =
    let item : Holding = record { target = c.in-Some.object; holder = supports.Root c.args.r } in
    let new : c.push.new.self.items ≡ c.args.items.now.items ++ item ∷ [] = c.in_ok-push.ensures.items
    ∙ ap (λ (h : Holding). c.args.items.now.items ++ h ∷ []) c.new.ensures in
    subst (AddsLost c.args.more.graph.now c.args.more.front.now c.args.less.front.now c.args.items.now.items) (sym new)
    (adds_one c.args.more.graph.now c.args.more.front.now c.args.less.front.now c.args.items.now.items item
    (lost_root c.args.more.graph.now c.args.more.front.now c.args.less.front.now c.args.r c.in-Some.object (sym c.in-Some.is ∙ c.root_object.ensures)
    (is_off c.args.more.graph.now c.args.less.graph.now c.args.less.front.now c.args.r c.in-Some.object c.root_is_on.result c.requires.same c.root_is_on.ensures
    c.if-root_is_on.false)))

pub returns-clause-all : goal.returns-clause-all
returns-clause-all c =
    let item : Holding = record { target = c.in-Some.object; holder = supports.Root c.args.r } in
    let new : c.push.new.self.items ≡ c.args.items.now.items ++ item ∷ [] = c.in_ok-push.ensures.items
    ∙ ap (λ (h : Holding). c.args.items.now.items ++ h ∷ []) c.new.ensures in
    subst (HasNumber c.args.more.graph.now c.args.more.front.now c.args.less.front.now c.args.r) (sym new)
    (pushed_root c.args.more.graph.now c.args.more.front.now c.args.less.front.now c.args.r c.in-Some.object c.args.items.now.items
    (sym c.in-Some.is ∙ c.root_object.ensures))
