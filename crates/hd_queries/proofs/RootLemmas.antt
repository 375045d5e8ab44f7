-- The roots, shown one after another.
use Rattle.std.proofs.Common.{◌≡◌, ◌∙◌, ℕ, suc, ◌+◌, ◌-◌, ◌<◌, ◌≤◌, Bool, true, false, cond, List, [], ◌∷◌, ◌++◌, length, map, take, Option, Some, None}
use Rattle.std.proofs.Common.{slice_get, refl, sym, ap, arith, append_assoc}
use Rattle.std.specs.Prelude.{◌||◌, nat_lt}
use Rattle.std.specs.List.{filter, filter_map, cons_option, enumerate_from}
use Rattle.std.proofs.lemmas.Bool.{lt-ltb}
use Rattle.std.proofs.lemmas.List.{map-append, take_all}
use Rattle.std.proofs.lemmas.List.Elements.{filter-append, filter_map-append}
use Rattle.hd_terms.specs.declared.Edit.TheVariants as edits
use Rattle.hd_terms.specs.declared.Event.{Event}
use Rattle.hd_terms.specs.declared.RootRow.{RootRow}
use Rattle.hd_terms.specs.declared.What.{What}
use Rattle.hd_terms.specs.declared.What.TheVariants as whats
use Rattle.hd_terms.specs.Dump.{Root, Dump}
use Rattle.hd_terms.specs.EditedDump.{RootOn, adds_root, added_root, dump_root, is_root, live_edit_at, root_added}
use Rattle.hd_terms.specs.Log.{edit_of, live_edit, stays}
use Rattle.hd_terms.specs.RootRows.{root_row, root_rows}
use Rattle.hd_log.proofs.LastLemmas.{by_event, numbered_more}
use Rattle.hd_strength.proofs.RowLemmas.{number_of_event}
use Rattle.hd_queries.specs.RootsShown.{added_row, dump_rows, row_by, rows_before}

-- one more root of the dump
dump-more : (dump : Dump) (log : List Event) (r : ℕ) (root : Root) → slice_get dump.roots r ≡ Some root → dump_rows dump log (r + 1) ≡ dump_rows dump log r
    ++ root_row dump log (dump_root (r, root)) ∷ []
dump-more dump log r root at =
    let before = enumerate_from 0 (take r dump.roots) in
    ap (λ (xs : List (ℕ × Root)). map (root_row dump log) (map dump_root xs)) (numbered_more dump.roots r root at)
    ∙ ap (map (root_row dump log)) (map-append dump_root before ((r, root) ∷ []))
    ∙ map-append (root_row dump log) (map dump_root before) (dump_root (r, root) ∷ [])

pub dump-pushed : (dump : Dump) (log : List Event) (r : ℕ) (root : Root) (rows rows' : List RootRow) (row : RootRow) → slice_get dump.roots r ≡ Some root
    → rows ≡ dump_rows dump log r → row ≡ root_row dump log (dump_root (r, root)) → rows' ≡ rows ++ row ∷ [] → rows' ≡ dump_rows dump log (r + 1)
dump-pushed dump log r root rows rows' row at so_far is pushed = pushed ∙ ap (λ (xs : List RootRow). xs ++ row ∷ []) so_far
    ∙ ap (λ (x : RootRow). dump_rows dump log r ++ x ∷ []) is ∙ sym (dump-more dump log r root at)

-- one more event
event-more : (dump : Dump) (log : List Event) (k : ℕ) (r : Option RootRow) → k < length log
    → ((e : Event) → slice_get log k ≡ Some e → r ≡ row_by dump log k (live_edit log (k, e)))
    → rows_before dump log (k + 1) ≡ rows_before dump log k ++ cons_option r []
event-more dump log k r lt is =
    by_event log k lt (λ e at.
    let roots = dump_rows dump log (length dump.roots) in
    let before = enumerate_from 0 (take k log) in
    ap (λ (xs : List (ℕ × Event)). roots ++ filter_map (added_row dump log) xs) (numbered_more log k e at)
    ∙ ap (λ (rows : List RootRow). roots ++ rows) (filter_map-append (added_row dump log) before ((k, e) ∷ []))
    ∙ sym (append_assoc roots (filter_map (added_row dump log) before) (cons_option (added_row dump log (k, e)) []))
    ∙ ap (λ (o : Option RootRow). (roots ++ filter_map (added_row dump log) before) ++ cons_option o []) (sym (is e at)))

pub event-pushed : (dump : Dump) (log : List Event) (k : ℕ) (r : Option RootRow) (rows rows' : List RootRow) → k < length log
    → ((e : Event) → slice_get log k ≡ Some e → r ≡ row_by dump log k (live_edit log (k, e))) → rows ≡ rows_before dump log k → rows' ≡ rows ++ cons_option r []
    → rows' ≡ rows_before dump log (k + 1)
event-pushed dump log k r rows rows' lt is so_far pushed = pushed ∙ ap (λ (xs : List RootRow). xs ++ cons_option r []) so_far
    ∙ sym (event-more dump log k r lt is)

-- whether an entry's root has its number
abbrev has_number : Dump → List Event → RootOn → Bool
has_number dump log root = is_root (length dump.roots) log root.number

-- all roots of the dump have their numbers
all-numbered : (dump : Dump) (log : List Event) (j : ℕ) (roots : List Root) → j + length roots ≤ length dump.roots
    → filter (has_number dump log) (map dump_root (enumerate_from j roots)) ≡ map dump_root (enumerate_from j roots)
all-numbered dump log j [] le = refl
all-numbered dump log j (root ∷ roots) le =
    let rest = map dump_root (enumerate_from (j + 1) roots) in
    let below : nat_lt j (length dump.roots) ≡ true = lt-ltb j (length dump.roots) (omega arith) in
    ap (λ (b : Bool). cond (b || adds_root (live_edit_at log (j - length dump.roots))) (dump_root (j, root) ∷ filter (has_number dump log) rest)
    (filter (has_number dump log) rest)) below
    ∙ ap (λ (xs : List RootOn). dump_root (j, root) ∷ xs) (all-numbered dump log (j + 1) roots (omega arith))

-- the entry of an event is shown where its edit is live
by-what : (dump : Dump) (log : List Event) (k : ℕ) (xs : List RootOn) (what : What) (live : Bool)
    → is_root (length dump.roots) log (length dump.roots + k) ≡ adds_root (cond live (edit_of what) None)
    → map (root_row dump log) (filter (has_number dump log) (cons_option (root_added (length dump.roots + k) what) xs)) ≡ cons_option
    (row_by dump log k (cond live (edit_of what) None)) (map (root_row dump log) (filter (has_number dump log) xs))
by-what dump log k xs (whats.Undo j) true has = refl
by-what dump log k xs (whats.Undo j) false has = refl
by-what dump log k xs (whats.Do (edits.Cut id slot)) true has = refl
by-what dump log k xs (whats.Do (edits.Cut id slot)) false has = refl
by-what dump log k xs (whats.Do (edits.Clear id)) true has = refl
by-what dump log k xs (whats.Do (edits.Clear id)) false has = refl
by-what dump log k xs (whats.Do (edits.Drop r)) true has = refl
by-what dump log k xs (whats.Do (edits.Drop r)) false has = refl
by-what dump log k xs (whats.Do (edits.ClearAll references)) true has = refl
by-what dump log k xs (whats.Do (edits.ClearAll references)) false has = refl
by-what dump log k xs (whats.Do (edits.CutAll class i)) true has = refl
by-what dump log k xs (whats.Do (edits.CutAll class i)) false has = refl
by-what dump log k xs (whats.Do (edits.Add id)) true has =
    let root : RootOn = record { number = length dump.roots + k; kind = None; id = id } in
    ap (λ (b : Bool). map (root_row dump log) (cond b (root ∷ filter (has_number dump log) xs) (filter (has_number dump log) xs))) has
by-what dump log k xs (whats.Do (edits.Add id)) false has =
    let root : RootOn = record { number = length dump.roots + k; kind = None; id = id } in
    ap (λ (b : Bool). map (root_row dump log) (cond b (root ∷ filter (has_number dump log) xs) (filter (has_number dump log) xs))) has

-- the entries of the events from one on
by-events : (dump : Dump) (log : List Event) (j : ℕ) (rest : List Event) → ((i : ℕ) (e : Event) → slice_get rest i ≡ Some e → slice_get log (j + i) ≡ Some e)
    → map (root_row dump log) (filter (has_number dump log) (filter_map (added_root (length dump.roots)) (enumerate_from j rest))) ≡ filter_map
    (added_row dump log) (enumerate_from j rest)
by-events dump log j [] at = refl
by-events dump log j (e ∷ rest) at =
    let here : slice_get log j ≡ Some e = let same : j + 0 ≡ j = omega arith in ap (slice_get log) (sym same) ∙ at 0 e refl in
    let later : (i : ℕ) (d : Event) → slice_get rest i ≡ Some d → slice_get log ((j + 1) + i) ≡ Some d = λ i d is. let same : (j + 1) + i ≡ j + suc i =
    omega arith in ap (slice_get log) same ∙ at (suc i) d is in
    by-what dump log j (filter_map (added_root (length dump.roots)) (enumerate_from (j + 1) rest)) e.what (stays log j) (number_of_event dump log j e here)
    ∙ ap (cons_option (added_row dump log (j, e))) (by-events dump log (j + 1) rest later)

-- after all events
pub all-rows : (dump : Dump) (log : List Event) (k : ℕ) → length log ≤ k → rows_before dump log k ≡ root_rows dump log
all-rows dump log k end =
    let roots = map dump_root (enumerate_from 0 dump.roots) in
    let added = filter_map (added_root (length dump.roots)) (enumerate_from 0 log) in
    let row = root_row dump log in
    let passes = has_number dump log in
    let whole : take (length dump.roots) dump.roots ≡ dump.roots = take_all (length dump.roots) dump.roots (omega arith) in
    let first : dump_rows dump log (length dump.roots) ≡ map row (filter passes roots) =
    ap (λ (rs : List Root). map row (map dump_root (enumerate_from 0 rs))) whole ∙ ap (map row) (sym (all-numbered dump log 0 dump.roots (omega arith))) in
    let then : filter_map (added_row dump log) (enumerate_from 0 (take k log)) ≡ map row (filter passes added) =
    ap (λ (es : List Event). filter_map (added_row dump log) (enumerate_from 0 es)) (take_all k log end)
    ∙ sym (by-events dump log 0 log (λ i e at. let same : 0 + i ≡ i = omega arith in ap (slice_get log) same ∙ at)) in
    ap (λ (rows : List RootRow). rows ++ filter_map (added_row dump log) (enumerate_from 0 (take k log))) first
    ∙ ap (λ (rows : List RootRow). map row (filter passes roots) ++ rows) then
    ∙ sym (ap (map row) (filter-append passes roots added) ∙ map-append row (filter passes roots) (filter passes added))
