-- An edge is lost where its slot stood under one log and is cut under the other, and has a target.
-- Each early return is one of these missing: no slot, no target, never stood, still stands.
use Rattle.std.proofs.Common.{◌≡◌, ◌∙◌, refl, sym, ap, subst, [], ◌∷◌, ◌++◌}
use Rattle.hd_terms.specs.declared.Support.TheVariants as supports
use Rattle.hd_terms.specs.Dump.{SlotEntry, Dump, object_at}
use Rattle.hd_terms.specs.Regions.{Holding}
use Rattle.hd_strength.specs.Removed.{IsRemovedBy}
use Rattle.hd_view.specs.Losing.{AddsLost, HasNamed}
use Rattle.hd_view.proofs.LostLemmas.{no_index, no_target, never_stood, still_stands, pushed_edge, lost_edge, named_first, adds_one, cut_by, uncut_by}
use Rattle.hd_view.proofs.lost.push_edge.Goals as goal

pub returns-in_default-clause-all : goal.returns-in_default-clause-all
returns-in_default-clause-all c =
    no_index c.args.more.graph.now c.args.o c.args.slot c.slot_index.result c.slot_index.ensures.only c.in_default.is c.args.more.front.now
    c.args.less.front.now c.args.items.now.items

pub returns-in_default-target-clause-all : goal.returns-in_default-target-clause-all
returns-in_default-target-clause-all c =
    let dump = c.args.more.graph.now in
    let s : SlotEntry = record { slot = c.slots-read.result.slot; kind = c.slots-read.result.kind; id = c.slots-read.result.id } in
    no_target dump c.args.o c.args.slot c.slot_index.result c.slot_index.ensures.only c.in-Some.i s c.in-Some.is c.slots-read.ensures.entry
    (sym c.slots-read.ensures.target ∙ c.in_default-target.is) c.args.more.front.now c.args.less.front.now c.args.items.now.items

pub returns-then-slot-clause-all : goal.returns-then-slot-clause-all
returns-then-slot-clause-all c =
    let dump = c.args.more.graph.now in
    let s : SlotEntry = record { slot = c.slots-read.result.slot; kind = c.slots-read.result.kind; id = c.slots-read.result.id } in
    never_stood dump c.args.o c.args.slot c.slot_index.result c.slot_index.ensures.only c.in-Some.i s c.in-Some.is c.slots-read.ensures.entry
    c.args.more.front.now c.args.less.front.now c.args.items.now.items
    (cut_by dump c.args.more.front.now c.args.more.removed.now c.args.o c.in-Some.i s c.slot.result c.requires.more c.requires.object c.slots-read.ensures.entry
    (c.slot.ensures s c.slots-read.ensures.entry refl) c.if-slot.true)

pub returns-then-not-slot-clause-all : goal.returns-then-not-slot-clause-all
returns-then-not-slot-clause-all c =
    let dump = c.args.more.graph.now in
    let s : SlotEntry = record { slot = c.slots-read.result.slot; kind = c.slots-read.result.kind; id = c.slots-read.result.id } in
    let by : IsRemovedBy dump c.args.less.front.now c.args.less.removed.now =
    subst (λ (d : Dump). IsRemovedBy d c.args.less.front.now c.args.less.removed.now) c.requires.same c.requires.less in
    still_stands dump c.args.o c.args.slot c.slot_index.result c.slot_index.ensures.only c.in-Some.i s c.in-Some.is c.slots-read.ensures.entry
    c.args.more.front.now c.args.less.front.now c.args.items.now.items
    (uncut_by dump c.args.less.front.now c.args.less.removed.now c.args.o c.in-Some.i s c.slot-2.result by c.requires.object c.slots-read.ensures.entry
    (c.slot-2.ensures s c.slots-read.ensures.entry refl) c.if-not-slot.true)

pub returns-clause-adds : goal.returns-clause-adds
returns-clause-adds c =
    let dump = c.args.more.graph.now in
    let s : SlotEntry = record { slot = c.slots-read.result.slot; kind = c.slots-read.result.kind; id = c.slots-read.result.id } in
    let by : IsRemovedBy dump c.args.less.front.now c.args.less.removed.now =
    subst (λ (d : Dump). IsRemovedBy d c.args.less.front.now c.args.less.removed.now) c.requires.same c.requires.less in
    let new : c.push.new.self.items ≡ c.args.items.now.items ++ (record { target = c.in-Some-target.target; holder = supports.Edge c.args.o s.slot }) ∷ [] =
    c.in_ok-push.ensures.items ∙ ap (λ (h : Holding). c.args.items.now.items ++ h ∷ []) c.new.ensures in
    let stood = uncut_by dump c.args.more.front.now c.args.more.removed.now c.args.o c.in-Some.i s c.slot.result c.requires.more c.requires.object
    c.slots-read.ensures.entry (c.slot.ensures s c.slots-read.ensures.entry refl) c.if-slot.false in
    let cut = cut_by dump c.args.less.front.now c.args.less.removed.now c.args.o c.in-Some.i s c.slot-2.result by c.requires.object c.slots-read.ensures.entry
    (c.slot-2.ensures s c.slots-read.ensures.entry refl) c.if-not-slot.false in
    let named = named_first (object_at dump c.args.o).slots c.args.slot c.in-Some.i s c.slot_index.result c.slot_index.ensures.first c.in-Some.is
    c.slots-read.ensures.entry in
    subst (AddsLost dump c.args.more.front.now c.args.less.front.now c.args.items.now.items) (sym new)
    (adds_one dump c.args.more.front.now c.args.less.front.now c.args.items.now.items
    (record { target = c.in-Some-target.target; holder = supports.Edge c.args.o s.slot })
    (lost_edge dump c.args.o c.args.slot c.slot_index.result c.slot_index.ensures.only c.in-Some.i s c.in-Some.is c.slots-read.ensures.entry
    c.args.more.front.now c.args.less.front.now c.in-Some-target.target named (sym c.slots-read.ensures.target ∙ c.in-Some-target.is) stood cut))

pub returns-clause-all : goal.returns-clause-all
returns-clause-all c =
    let dump = c.args.more.graph.now in
    let s : SlotEntry = record { slot = c.slots-read.result.slot; kind = c.slots-read.result.kind; id = c.slots-read.result.id } in
    let new : c.push.new.self.items ≡ c.args.items.now.items ++ (record { target = c.in-Some-target.target; holder = supports.Edge c.args.o s.slot }) ∷ [] =
    c.in_ok-push.ensures.items ∙ ap (λ (h : Holding). c.args.items.now.items ++ h ∷ []) c.new.ensures in
    subst (HasNamed dump c.args.more.front.now c.args.less.front.now c.args.o c.args.slot) (sym new)
    (pushed_edge dump c.args.o c.args.slot c.slot_index.result c.slot_index.ensures.only c.in-Some.i s c.in-Some.is c.slots-read.ensures.entry
    c.args.more.front.now c.args.less.front.now c.args.items.now.items c.in-Some-target.target (sym c.slots-read.ensures.target ∙ c.in-Some-target.is))
