-- The rows of the pages of both (`add_rows`), with the numbers of those behind put into them (`put_rows`) and their slots moved
-- (`put_slots`): the lemmas of `BehindSlots` on these.
use Rattle.std.proofs.Common.{◌≡◌, ◌∙◌, true, ℕ, List, ◌++◌, length, map, refl, subst, sym, arith}
use Rattle.hd_ids.specs.Noted.{are_apart}
use Rattle.hd_ids.specs.Rows.{ids_in}
use Rattle.hd_ids.specs.Put.{moved_slot}
use Rattle.hd_ids.proofs.DirectoryLemmas.{none-told}
use Rattle.hd_ids.proofs.BehindSlots.{by-pages, put-if, meet-if, rows-apart, behind-low, both-meet, rows-low, both-follow, slots-behind}
use Rattle.hd_ids.proofs.paged.PagedIds.followed_by.Goals as goal

pub put_rows-requires-clause-apart : goal.put_rows-requires-clause-apart
put_rows-requires-clause-apart c =
    let b = c.back.inside in
    let got = by-pages b.pages.keys c.as_slice.ensures.keys c.in_ok-rows.ensures in
    rw c.as_slice-rows.ensures.value
    (rows-apart c.self.invariant.slots_are c.back.invariant.slots_are c.as_slice.ensures.unique got c.row_of-last_row.ensures.distinct)

pub put_rows-requires-clause-low : goal.put_rows-requires-clause-low
put_rows-requires-clause-low c =
    let a = c.self.inside in
    let b = c.back.inside in
    let fits = c.serve.ensures c.if-not-serve.false in
    let got = by-pages b.pages.keys c.as_slice.ensures.keys c.in_ok-rows.ensures in
    behind-low c.self.invariant.slots_are c.back.invariant.slots_are c.as_slice.ensures.unique got c.row_of-last_row.ensures.distinct c.len-base.result
    (omega (arith, c.len-base.ensures, a.slots.ok.0))
    (omega (arith, fits, c.len.ensures, c.len-2.ensures, a.slots.ok.0, b.slots.ok.0))

pub returns-then-not-branch : goal.returns-then-not-branch
returns-then-not-branch c =
    let b = c.back.inside in
    let got = by-pages b.pages.keys c.as_slice.ensures.keys c.in_ok-rows.ensures in
    let meet = meet-if c.add_rows.new.numbers c.put_rows.new.numbers c.as_slice-rows.result.now b.numbers c.len-base.result c.as_slice-rows.ensures.value
    c.in_ok-put_rows.ensures c.if-not-branch.true in
    rw (← c.self.view_is, ← c.back.view_is)
    (both-meet c.self.invariant.slots_are c.back.invariant.slots_are c.as_slice.ensures.unique got c.row_of-last_row.ensures.distinct meet)

pub put_slots-requires-clause-rows : goal.put_slots-requires-clause-rows
put_slots-requires-clause-rows c =
    let b = c.back.inside in
    let fits = c.serve.ensures c.if-not-serve.false in
    let got = by-pages b.pages.keys c.as_slice.ensures.keys c.in_ok-rows.ensures in
    rw c.as_slice-rows.ensures.value
    (rows-low c.self.invariant.slots_are c.back.invariant.slots_are c.as_slice.ensures.unique got c.row_of-last_row.ensures.distinct
    (omega (arith, fits, c.len-else-base.ensures, c.len-else-base-2.ensures)))

pub invariant_of-result : goal.invariant_of-result
invariant_of-result c =
    let a = c.self.inside in
    let b = c.back.inside in
    let fits = c.serve.ensures c.if-not-serve.false in
    let got = by-pages b.pages.keys c.as_slice.ensures.keys c.in_ok-rows.ensures in
    let put = put-if c.add_rows.new.numbers c.put_rows.new.numbers c.as_slice-rows.result.now b.numbers c.len-base.result c.as_slice-rows.ensures.value
    c.in_ok-put_rows.ensures c.if-not-branch.false in
    let base : c.len-base.result ≡ length a.slots.items = omega (arith, c.len-base.ensures, a.slots.ok.0) in
    let slots : c.put_slots.new.slots.items ≡ a.slots.items ++ map (moved_slot c.in_ok-rows.rows.items) b.slots.items =
    c.in_ok-put_slots.ensures ∙ rw (c.as_slice-rows.ensures.value, c.as_slice-2.ensures.value) refl in
    record {
      slots_are = rw slots (slots-behind c.self.invariant.slots_are c.back.invariant.slots_are c.as_slice.ensures.unique got c.row_of-last_row.ensures.distinct
          base put
          a.last_page c.row_of-last_row.result c.row_of-last_row.ensures.row c.row_of-last_row.ensures.within
          (omega (arith, fits, c.len.ensures, c.len-2.ensures, a.slots.ok.0, b.slots.ok.0, c.len-else-base.ensures, c.len-else-base-2.ensures))
          (omega (arith, fits, c.len-else-base.ensures, c.len-else-base-2.ensures))
          (omega (arith, fits, c.len.ensures, c.len-2.ensures, a.slots.ok.0, b.slots.ok.0)));
      told_is = none-told c.add_rows.new.pages.keys c.none.result c.none.ensures;
    }

pub returns : goal.returns
returns c =
    let a = c.self.inside in
    let b = c.back.inside in
    let got = by-pages b.pages.keys c.as_slice.ensures.keys c.in_ok-rows.ensures in
    let put = put-if c.add_rows.new.numbers c.put_rows.new.numbers c.as_slice-rows.result.now b.numbers c.len-base.result c.as_slice-rows.ensures.value
    c.in_ok-put_rows.ensures c.if-not-branch.false in
    let base : c.len-base.result ≡ length a.slots.items = omega (arith, c.len-base.ensures, a.slots.ok.0) in
    let slots : c.put_slots.new.slots.items ≡ a.slots.items ++ map (moved_slot c.in_ok-rows.rows.items) b.slots.items =
    c.in_ok-put_slots.ensures ∙ rw (c.as_slice-rows.ensures.value, c.as_slice-2.ensures.value) refl in
    rw (← c.self.view_is, ← c.back.view_is)
    (subst (λ (all : List ℕ). (are_apart (ids_in a.pages.keys a.slots.items) (ids_in b.pages.keys b.slots.items) ≡ true)
    × (ids_in c.add_rows.new.pages.keys all ≡ ids_in a.pages.keys a.slots.items ++ ids_in b.pages.keys b.slots.items)) (sym slots)
    (both-follow c.self.invariant.slots_are c.back.invariant.slots_are c.as_slice.ensures.unique got c.row_of-last_row.ensures.distinct base put))
