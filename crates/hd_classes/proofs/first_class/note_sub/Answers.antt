-- One case for each kind of sub-record: the first with an ID is noted, and its class, if it is one (`class-push`).
-- A repeated ID and a root change nothing.
use Rattle.std.proofs.Common.{refl, ap}
use Rattle.std.specs.Option.{option_map}
use Rattle.hd_terms.specs.SubRecords.{Sub, ClassItem}
use Rattle.hd_terms.specs.FirstRecords.{id_of_item}
use Rattle.hd_terms.specs.Classes.{class_of_item}
use Rattle.hd_subs.specs.Views.{sub_view, item_view}
use Rattle.hd_classes.proofs.FirstClassLemmas.{plain-push, other-push, known-push, class-push, is-known, is-new}
use Rattle.hd_classes.proofs.first_class.note_sub.Goals as goal

pub returns-in-Root : goal.returns-in-Root
returns-in-Root c = λ front h.
    let s : Sub = sub_view c.args.sub in
    plain-push front s c.args.ids.now.keys c.args.classes.now.entries (ap (λ i. option_map (λ id. (id, s)) (id_of_item (item_view i))) c.in-Root.is) h

pub returns-in_ok-insert-in-Class-2 : goal.returns-in_ok-insert-in-Class-2
returns-in_ok-insert-in-Class-2 c = λ front h.
    let s : Sub = sub_view c.args.sub in
    class-push front s c.in-Class.class.now.id c.args.ids.now.keys c.args.classes.now.entries
    (ap (λ i. option_map (λ id. (id, s)) (id_of_item (item_view i))) c.in-Class.is) h
    c.insert.new.self.keys c.in_ok-insert-in-Class.ensures.keys (is-new _ _ c.in_ok-insert-in-Class.ensures.added c.if-branch.true)
    _ (ap (λ i. option_map (λ (d : ClassItem). record { class = d; offset = c.args.sub.offset }) (class_of_item (item_view i))) c.in-Class.is) refl
    c.insert-then-branch.new.self.entries c.in_ok-insert-in-Class-2.ensures.entries

pub returns-else-branch : goal.returns-else-branch
returns-else-branch c = λ front h.
    let s : Sub = sub_view c.args.sub in
    known-push front s c.in-Class.class.now.id c.args.ids.now.keys c.args.classes.now.entries
    (ap (λ i. option_map (λ id. (id, s)) (id_of_item (item_view i))) c.in-Class.is) h
    c.insert.new.self.keys c.in_ok-insert-in-Class.ensures.keys (is-known _ _ c.in_ok-insert-in-Class.ensures.added c.if-branch.false)

pub returns-in_ok-insert-in-Instance : goal.returns-in_ok-insert-in-Instance
returns-in_ok-insert-in-Instance c = λ front h.
    let s : Sub = sub_view c.args.sub in
    other-push front s c.in-Instance.id c.args.ids.now.keys c.args.classes.now.entries
    (ap (λ i. option_map (λ id. (id, s)) (id_of_item (item_view i))) c.in-Instance.is) h
    c.insert-in-Instance.new.self.keys c.in_ok-insert-in-Instance.ensures.keys
    (ap (λ i. option_map (λ (d : ClassItem). record { class = d; offset = c.args.sub.offset }) (class_of_item (item_view i))) c.in-Instance.is)

pub returns-in_ok-insert-in-ObjArray : goal.returns-in_ok-insert-in-ObjArray
returns-in_ok-insert-in-ObjArray c = λ front h.
    let s : Sub = sub_view c.args.sub in
    other-push front s c.in-ObjArray.id c.args.ids.now.keys c.args.classes.now.entries
    (ap (λ i. option_map (λ id. (id, s)) (id_of_item (item_view i))) c.in-ObjArray.is) h
    c.insert-in-ObjArray.new.self.keys c.in_ok-insert-in-ObjArray.ensures.keys
    (ap (λ i. option_map (λ (d : ClassItem). record { class = d; offset = c.args.sub.offset }) (class_of_item (item_view i))) c.in-ObjArray.is)

pub returns-in_ok-insert-in-PrimArray : goal.returns-in_ok-insert-in-PrimArray
returns-in_ok-insert-in-PrimArray c = λ front h.
    let s : Sub = sub_view c.args.sub in
    other-push front s c.in-PrimArray.id c.args.ids.now.keys c.args.classes.now.entries
    (ap (λ i. option_map (λ id. (id, s)) (id_of_item (item_view i))) c.in-PrimArray.is) h
    c.insert-in-PrimArray.new.self.keys c.in_ok-insert-in-PrimArray.ensures.keys
    (ap (λ i. option_map (λ (d : ClassItem). record { class = d; offset = c.args.sub.offset }) (class_of_item (item_view i))) c.in-PrimArray.is)
