-- One case for each kind of sub-record: a root is kept (`root-push`), and an object is noted by its ID.
-- A null ID and an instance that does not fit stop the numbering.
use Rattle.std.proofs.Common.{[], inr, ap, sym, subst}
use Rattle.std.specs.List.{cons_option}
use Rattle.std.proofs.lemmas.Result.{err_from_is_err_and}
use Rattle.hd_terms.specs.FirstRecords.{id_of_item}
use Rattle.hd_terms.specs.SubRecords.{Sub, Item}
use Rattle.hd_classes.specs.Known.{known_at}
use Rattle.hd_subs.specs.Views.{sub_view, item_view}
use Rattle.hd_terms.specs.HeapFaults.{is_size_mismatch}
use Rattle.hd_terms.specs.Objects.{is_opaque}
use Rattle.hd_graph.specs.ArrayRows.{root_of_item}
use Rattle.hd_graph.specs.Numbering.{NotesObject, IsObjectStop}
use Rattle.hd_graph.proofs.NumberLemmas.{root-push, object-push, plain-notes, null-stop}
use Rattle.hd_graph.proofs.number.number_one.Goals as goal

pub returns-in_ok-push-in-Root-clause-ok : goal.returns-in_ok-push-in-Root-clause-ok
returns-in_ok-push-in-Root-clause-ok c = λ front h.
    rw (c.in-Root.is, c.in_ok-push-in-Root.ensures.items)
    (root-push (known_at c.args.layouts.now.classes) c.args.layouts.now.size front c.args.ids.now c.args.roots.now.items c.args.tally.now h c.args.sub.offset
    (record { kind = c.in-Root.kind; id = c.in-Root.id }))

pub returns-in_err-number_object-in-Class-clause-err : goal.returns-in_err-number_object-in-Class-clause-err
returns-in_err-number_object-in-Class-clause-err c =
    let p = err_from_is_err_and c.from_residual-in_err-number_object-in-Class.result c.from_residual-in_err-number_object-in-Class.ensures.1 in
    rw (p.1, p.2) (inr (
      c.in-Class.class.now.id,
      ap (λ i. id_of_item (item_view i)) c.in-Class.is,
      null-stop
          (known_at c.args.layouts.now.classes) c.args.layouts.now.size _ c.in-Class.class.now.id c.args.sub.offset c.args.ids.now _
          c.in_err-number_object-in-Class.ensures.err,
    ))

pub returns-in_ok-number_object-in-Class-clause-ok : goal.returns-in_ok-number_object-in-Class-clause-ok
returns-in_ok-number_object-in-Class-clause-ok c = λ front h.
    let s : Sub = sub_view c.args.sub in
    let done = c.in_ok-number_object-in-Class.ensures in
    object-push (known_at c.args.layouts.now.classes) c.args.layouts.now.size front c.args.ids.now c.args.roots.now.items c.args.tally.now h s
    c.in-Class.class.now.id _ _
    (plain-notes (known_at c.args.layouts.now.classes) c.args.layouts.now.size s.item c.in-Class.class.now.id c.args.ids.now c.args.tally.now _ _ done.noted.0
    done.noted.1 done.opaque
    (ap (λ i. is_size_mismatch (known_at c.args.layouts.now.classes) c.args.layouts.now.size (item_view i)) c.in-Class.is)
    (ap (λ i. is_opaque (known_at c.args.layouts.now.classes) (item_view i)) c.in-Class.is))
    (ap (λ i. id_of_item (item_view i)) c.in-Class.is)
    (ap (λ i. cons_option (root_of_item (item_view i)) []) c.in-Class.is)

pub returns-in_err-number_object-in-ObjArray-clause-err : goal.returns-in_err-number_object-in-ObjArray-clause-err
returns-in_err-number_object-in-ObjArray-clause-err c =
    let p = err_from_is_err_and c.from_residual-in_err-number_object-in-ObjArray.result c.from_residual-in_err-number_object-in-ObjArray.ensures.1 in
    rw (p.1, p.2) (inr (
      c.in-ObjArray.id,
      ap (λ i. id_of_item (item_view i)) c.in-ObjArray.is,
      null-stop
          (known_at c.args.layouts.now.classes) c.args.layouts.now.size _ c.in-ObjArray.id c.args.sub.offset c.args.ids.now _
          c.in_err-number_object-in-ObjArray.ensures.err,
    ))

pub returns-in_ok-number_object-in-ObjArray-clause-ok : goal.returns-in_ok-number_object-in-ObjArray-clause-ok
returns-in_ok-number_object-in-ObjArray-clause-ok c = λ front h.
    let s : Sub = sub_view c.args.sub in
    let done = c.in_ok-number_object-in-ObjArray.ensures in
    object-push (known_at c.args.layouts.now.classes) c.args.layouts.now.size front c.args.ids.now c.args.roots.now.items c.args.tally.now h s c.in-ObjArray.id
    _ _
    (plain-notes (known_at c.args.layouts.now.classes) c.args.layouts.now.size s.item c.in-ObjArray.id c.args.ids.now c.args.tally.now _ _ done.noted.0
    done.noted.1 done.opaque
    (ap (λ i. is_size_mismatch (known_at c.args.layouts.now.classes) c.args.layouts.now.size (item_view i)) c.in-ObjArray.is)
    (ap (λ i. is_opaque (known_at c.args.layouts.now.classes) (item_view i)) c.in-ObjArray.is))
    (ap (λ i. id_of_item (item_view i)) c.in-ObjArray.is)
    (ap (λ i. cons_option (root_of_item (item_view i)) []) c.in-ObjArray.is)

pub returns-in_err-number_object-in-PrimArray-clause-err : goal.returns-in_err-number_object-in-PrimArray-clause-err
returns-in_err-number_object-in-PrimArray-clause-err c =
    let p = err_from_is_err_and c.from_residual-in_err-number_object-in-PrimArray.result c.from_residual-in_err-number_object-in-PrimArray.ensures.1 in
    rw (p.1, p.2) (inr (
      c.in-PrimArray.id,
      ap (λ i. id_of_item (item_view i)) c.in-PrimArray.is,
      null-stop
          (known_at c.args.layouts.now.classes) c.args.layouts.now.size _ c.in-PrimArray.id c.args.sub.offset c.args.ids.now _
          c.in_err-number_object-in-PrimArray.ensures.err,
    ))

pub returns-in_ok-number_object-in-PrimArray-clause-ok : goal.returns-in_ok-number_object-in-PrimArray-clause-ok
returns-in_ok-number_object-in-PrimArray-clause-ok c = λ front h.
    let s : Sub = sub_view c.args.sub in
    let done = c.in_ok-number_object-in-PrimArray.ensures in
    object-push (known_at c.args.layouts.now.classes) c.args.layouts.now.size front c.args.ids.now c.args.roots.now.items c.args.tally.now h s c.in-PrimArray.id
    _ _
    (plain-notes (known_at c.args.layouts.now.classes) c.args.layouts.now.size s.item c.in-PrimArray.id c.args.ids.now c.args.tally.now _ _ done.noted.0
    done.noted.1 done.opaque
    (ap (λ i. is_size_mismatch (known_at c.args.layouts.now.classes) c.args.layouts.now.size (item_view i)) c.in-PrimArray.is)
    (ap (λ i. is_opaque (known_at c.args.layouts.now.classes) (item_view i)) c.in-PrimArray.is))
    (ap (λ i. id_of_item (item_view i)) c.in-PrimArray.is)
    (ap (λ i. cons_option (root_of_item (item_view i)) []) c.in-PrimArray.is)

pub returns-in_err-number_fitted-in-Instance-clause-err : goal.returns-in_err-number_fitted-in-Instance-clause-err
returns-in_err-number_fitted-in-Instance-clause-err c =
    let p = err_from_is_err_and c.from_residual-in_err-number_fitted-in-Instance.result c.from_residual-in_err-number_fitted-in-Instance.ensures.1 in
    let stop = c.in_err-number_fitted-in-Instance.ensures.err c.args.layouts.now.classes c.args.layouts.now.size c.in-Instance.class c.in-Instance.values
    c.fit-fit.ensures.fit in
    rw (p.1, p.2) (inr (
      c.in-Instance.id,
      ap (λ i. id_of_item (item_view i)) c.in-Instance.is,
      subst (λ (i : Item). IsObjectStop (known_at c.args.layouts.now.classes) c.args.layouts.now.size i c.in-Instance.id c.args.sub.offset c.args.ids.now
          c.in_err-number_fitted-in-Instance.field-0.0) (sym (ap item_view c.in-Instance.is)) stop,
    ))

pub returns-in_ok-number_fitted-in-Instance-clause-ok : goal.returns-in_ok-number_fitted-in-Instance-clause-ok
returns-in_ok-number_fitted-in-Instance-clause-ok c = λ front h.
    let s : Sub = sub_view c.args.sub in
    let notes = c.in_ok-number_fitted-in-Instance.ensures.ok c.args.layouts.now.classes c.args.layouts.now.size c.in-Instance.class c.in-Instance.values
    c.fit-fit.ensures.fit in
    object-push (known_at c.args.layouts.now.classes) c.args.layouts.now.size front c.args.ids.now c.args.roots.now.items c.args.tally.now h s c.in-Instance.id
    _ _
    (subst (λ (i : Item). NotesObject (known_at c.args.layouts.now.classes) c.args.layouts.now.size i c.in-Instance.id c.args.ids.now c.args.tally.now
    c.number_fitted.new.ids c.number_fitted.new.tally) (sym (ap item_view c.in-Instance.is)) notes)
    (ap (λ i. id_of_item (item_view i)) c.in-Instance.is)
    (ap (λ i. cons_option (root_of_item (item_view i)) []) c.in-Instance.is)
