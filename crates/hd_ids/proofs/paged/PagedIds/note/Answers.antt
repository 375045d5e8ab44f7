-- The slot of the ID follows from its page's row. Past the rows the page is new, and gets a row; a 0 there says that the ID
-- is new. The lemmas of `SlotLemmas` say that the slots are then those of the IDs with it.
use Rattle.std.proofs.Common.{◌≡◌, ◌∙◌, ℕ, ◌+◌, ◌*◌, ap, sym, refl, arith}
use Rattle.hd_ids.specs.Rows.{page_of, place_of, row_of, ids_in}
use Rattle.hd_ids.proofs.DirectoryLemmas.{told-before}
use Rattle.hd_ids.proofs.SlotLemmas.{on-err, ids-kept, slot-noted, page-slot-noted, row-slot-noted, id-is-noted, id-is-noted-too}
use Rattle.hd_ids.proofs.paged.PagedIds.note.Goals as goal

pub invariant_of-self-then-slot-len : goal.invariant_of-self-then-slot-len
invariant_of-self-then-slot-len c =
    let a = c.self.inside in
    let row = c.row_after-row.result in
    let slot : ℕ = row * 512 + c.place_of.result in
    let row_is : row ≡ row_of a.pages.keys (page_of c.args.id) = c.row_after-row.ensures.row ∙ ap (row_of a.pages.keys) c.page_of-page.ensures in
    let slot_is : slot ≡ row * 512 + place_of c.args.id = omega arith in
    rw (
      c.in_ok-add_slot.ensures.numbers,
      c.in_ok-add_slot.ensures.slots,
      c.in_ok-add_row.ensures.pages,
      c.in_ok-add_row.ensures.numbers,
      c.page_of-page.ensures,
    )
    (record {
      slots_are = page-slot-noted a.pages.keys a.numbers a.slots.items a.last_page a.last_row c.self.invariant.slots_are
          (omega arith) c.args.id slot row row_is slot_is (omega arith) 512 refl (omega arith) (omega arith) (omega arith);
      told_is = told-before a.pages.keys (page_of c.args.id) a.directory c.self.invariant.told_is;
    })

pub invariant_of-self-2 : goal.invariant_of-self-2
invariant_of-self-2 c =
    let a = c.self.inside in
    let row = c.row_after-row.result in
    let slot : ℕ = row * 512 + c.place_of.result in
    let row_is : row ≡ row_of a.pages.keys (page_of c.args.id) = c.row_after-row.ensures.row ∙ ap (row_of a.pages.keys) c.page_of-page.ensures in
    let slot_is : slot ≡ row * 512 + place_of c.args.id = omega arith in
    rw (c.in_ok-add_slot-2.ensures.numbers, c.in_ok-add_slot-2.ensures.slots, c.page_of-page.ensures)
    (record {
      slots_are = slot-noted a.pages.keys a.numbers a.slots.items a.last_page a.last_row c.self.invariant.slots_are
          (omega arith) c.args.id slot row row_is slot_is (omega arith)
          (sym c.get.ensures ∙ c.if-get-ne0.false);
      told_is = c.self.invariant.told_is;
    })

pub invariant_of-self-in_err-add_slot : goal.invariant_of-self-in_err-add_slot
invariant_of-self-in_err-add_slot c =
    let a = c.self.inside in
    let row = c.row_after-row.result in
    let slot : ℕ = row * 512 + c.place_of.result in
    let row_is : row ≡ row_of a.pages.keys (page_of c.args.id) = c.row_after-row.ensures.row ∙ ap (row_of a.pages.keys) c.page_of-page.ensures in
    let slot_is : slot ≡ row * 512 + place_of c.args.id = omega arith in
    rw (
      c.in_err-add_slot.ensures.same_numbers,
      c.in_err-add_slot.ensures.same_slots,
      c.in_ok-add_row.ensures.pages,
      c.in_ok-add_row.ensures.numbers,
      c.page_of-page.ensures,
    )
    (record {
      slots_are = row-slot-noted a.pages.keys a.numbers a.slots.items a.last_page a.last_row c.self.invariant.slots_are
          (omega arith) c.args.id slot row row_is slot_is (omega arith) 512 refl (omega arith) (omega arith) (omega arith);
      told_is = told-before a.pages.keys (page_of c.args.id) a.directory c.self.invariant.told_is;
    })

pub returns-in_err-add_slot-clause-err : goal.returns-in_err-add_slot-clause-err
returns-in_err-add_slot-clause-err c =
    let a = c.self.inside in
    let same : ids_in c.add_row.new.pages.keys c.add_slot.new.slots.items ≡ c.args.self.now =
    rw (c.in_err-add_slot.ensures.same_slots, c.in_ok-add_row.ensures.pages)
    (ids-kept a.pages.keys a.slots.items c.page_of-page.result c.self.invariant.slots_are.within) ∙ c.self.view_is in
    on-err c.from_residual-in_err-add_slot.result same

pub returns-then-slot-len-clause-noted : goal.returns-then-slot-len-clause-noted
returns-then-slot-len-clause-noted c =
    let a = c.self.inside in
    let row = c.row_after-row.result in
    let slot : ℕ = row * 512 + c.place_of.result in
    let row_is : row ≡ row_of a.pages.keys (page_of c.args.id) = c.row_after-row.ensures.row ∙ ap (row_of a.pages.keys) c.page_of-page.ensures in
    let slot_is : slot ≡ row * 512 + place_of c.args.id = omega arith in
    rw (c.in_ok-add_slot.ensures.slots, c.in_ok-add_row.ensures.pages, c.page_of-page.ensures, ← c.self.view_is)
    (id-is-noted-too a.pages.keys a.numbers a.slots.items a.last_page a.last_row c.self.invariant.slots_are (omega arith) c.args.id slot row row_is slot_is
    (omega arith) 512 refl (omega arith) (omega arith) (omega arith))

pub returns-clause-noted : goal.returns-clause-noted
returns-clause-noted c =
    let a = c.self.inside in
    let row = c.row_after-row.result in
    let slot : ℕ = row * 512 + c.place_of.result in
    let row_is : row ≡ row_of a.pages.keys (page_of c.args.id) = c.row_after-row.ensures.row ∙ ap (row_of a.pages.keys) c.page_of-page.ensures in
    let slot_is : slot ≡ row * 512 + place_of c.args.id = omega arith in
    rw (c.in_ok-add_slot-2.ensures.slots, ← c.self.view_is)
    (id-is-noted a.pages.keys a.numbers a.slots.items a.last_page a.last_row c.self.invariant.slots_are (omega arith) c.args.id slot row row_is slot_is
    (omega arith)
    (sym c.get.ensures ∙ c.if-get-ne0.false))

pub invariant_of-self-in_err-add_row : goal.invariant_of-self-in_err-add_row
invariant_of-self-in_err-add_row c =
    let h = c.self.invariant.slots_are in
    let row = c.row_after-row.ensures in
    rw (c.in_err-add_row.ensures.same_pages, c.in_err-add_row.ensures.same_numbers)
    (record {
      slots_are = record {
        rows = record { numbers_are = h.rows.numbers_are; last = sym row.row; within = row.within; small = h.rows.small; few_ids = h.rows.few_ids };
        low = h.low;
        within = h.within;
        few = h.few;
      };
      told_is = c.self.invariant.told_is;
    })
