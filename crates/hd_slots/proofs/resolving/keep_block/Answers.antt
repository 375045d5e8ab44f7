-- A block without a marked slot is left as it is. Else one slot after another: a marked offset becomes a number behind
-- those of the objects, and its ID comes last among the absent ones.
use Rattle.std.proofs.Common.{◌≡◌, ◌∙◌, ℕ, ◌+◌, ◌-◌, ◌<◌, inl, inr, List, length, get_or, refl, ap, sym, subst, arith}
use Rattle.std.proofs.lemmas.Bool.{cases_eq, false≢true}
use Rattle.std.proofs.lemmas.List.{drop-set-lt, length-append, length-set}
use Rattle.std.proofs.lemmas.Grind.{drop_more_same}
use Rattle.hd_slots.specs.Table.{null_code}
use Rattle.hd_slots.specs.Resolving.{IsFound, IsUnmarked, AreKeptSoFar}
use Rattle.hd_slots.proofs.ResolvingLemmas.{still-holds, becomes, stays, unmarked, all-unmarked}
use Rattle.hd_slots.proofs.resolving.keep_block.Goals as goal
use Rattle.hd_slots.proofs.resolving.keep_block.Goals.{then-is_marked+in_ok-items, else-is_marked}

pub returns-then-none_marked-clause-keeps : goal.returns-then-none_marked-clause-keeps
returns-then-none_marked-clause-keeps c = λ before found len so_far.
    let ids = c.args.ids.now in
    let items = c.args.items.now in
    let absent = c.args.absent.now.items in
    let n : ℕ = c.min-end.result - c.args.start in
    let sum : c.args.start + n ≡ c.min-end.result = omega arith in
    subst (λ (j : ℕ). AreKeptSoFar ids c.args.bytes.now c.args.id_size before items absent j) sum
    (all-unmarked ids c.args.bytes.now c.args.id_size before items absent c.args.start n c.requires.few c.requires.no_null found len (omega arith)
    (c.if-none_marked.ensures.0 refl) so_far)

pub number_for-requires-clause-found : goal.number_for-requires-clause-found
number_for-requires-clause-found c =
    still-holds (IsFound c.args.ids.now c.args.bytes.now c.args.id_size) c.args.items.now c.loop-i.items c.args.start c.loop-i.i c.loop-i.invariant.rest
    (omega arith) (omega arith) c.requires.found

pub loop-i-preserved : goal.loop-i-preserved
loop-i-preserved c =
    let ids = c.args.ids.now in
    let bytes = c.args.bytes.now in
    let size = c.args.id_size in
    let initial = c.args.items.now in
    let items = c.loop-i.items in
    let absent = c.loop-i.absent.items in
    let i : ℕ = c.loop-i.i in
    let h = c.loop-i.invariant in
    let lt : i < length items = omega arith in
    let lt' : i < length initial = omega arith in
    let found : IsFound ids bytes size (get_or items i 0) = still-holds (IsFound ids bytes size) initial items c.args.start i h.rest
    (omega arith) lt' c.requires.found in
    elim c.if-is_marked.branch [
      | then-is_marked+in_ok-items w ↦ rw (w.items-is, w.absent-is) (
          let longer = w.number_for.new.absent.items in
          let code = w.in_ok-items.field-0 in
          let kept = w.in_ok-items.ensures.kept in
          record {
            keeps = λ before all len so_far. becomes ids bytes size before items absent i (h.keeps before all len so_far) lt
                (omega (arith, len, lt')) longer code kept w.in_ok-items.ensures.code.0 w.in_ok-items.ensures.code.1;
            rest = drop-set-lt (i + 1) items i code (omega arith) ∙ drop_more_same items initial i h.rest;
            few = omega (arith, h.few, kept.one, ap (λ (xs : List ℕ). length xs) kept.is, length-append absent kept.more);
            len = length-set items i code ∙ h.len;
          }
          )
      | else-is_marked w ↦
          let plain : IsUnmarked (get_or items i 0) = λ high. elim (cases_eq (get_or items i 0) null_code) [
            | inl null ↦ null
            | inr other ↦ absurd (false≢true (sym w.if-is_marked.false ∙ c.is_marked.ensures.1 (high, other)))
          ] in
          let code = unmarked ids bytes size absent (get_or items i 0) c.requires.few c.requires.no_null found plain in
          rw (w.items-is, w.absent-is) (record {
            keeps = λ before all len so_far. stays ids bytes size before items absent i (h.keeps before all len so_far) lt
                (omega (arith, len, lt')) code.0 code.1;
            rest = drop_more_same items initial i h.rest;
            few = omega (arith, h.few);
            len = h.len;
          })
    ]

pub returns-clause-keeps : goal.returns-clause-keeps
returns-clause-keeps c = λ before found len so_far.
    let past : c.loop-i.i ≡ c.min-end.result = omega arith in
    subst (λ (j : ℕ). AreKeptSoFar c.args.ids.now c.args.bytes.now c.args.id_size before c.loop-i.items c.loop-i.absent.items j) past
    (c.loop-i.invariant.keeps before found len so_far)
