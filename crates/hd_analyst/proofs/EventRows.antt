-- Lemmas on the rows of events.
use Rattle.std.proofs.Common.{◌≡◌, ◌∙◌, ℕ, ◌+◌, ◌<◌, ◌≤◌, Bool, List, [], ◌∷◌, ◌++◌, length, get_or, map, take, sym, ap, subst, arith}
use Rattle.std.specs.List.{enumerate_from}
use Rattle.std.proofs.lemmas.List.FromFn.{length-enumerate_from, get_or-enumerate_from}
use Rattle.std.proofs.lemmas.List.{get_or-map, length-map, map-append, take_more, take_all}
use Rattle.std.proofs.lemmas.Simd.{map-map}
use Rattle.hd_terms.specs.declared.Event.{Event}
use Rattle.hd_terms.specs.Log.{is_live, live_flags}
use Rattle.hd_lines.specs.Replies.{log_lines}
use Rattle.hd_words.specs.EventLines.{event_line}
use Rattle.hd_words.specs.declared.event_lines.EventRow.{EventRow}
use Rattle.hd_analyst.specs.EventRows.{event_row, event_rows}

-- an event with its number
numbered_at : (log : List Event) (k : ℕ) (e : Event) → k < length log → get_or log k e ≡ e → get_or (enumerate_from 0 log) k (0, e) ≡ (k, e)
numbered_at log k e lt at =
    let number : 0 + k ≡ k = omega arith in
    get_or-enumerate_from 0 log k (0, e) lt ∙ ap (λ (n : ℕ). (n, get_or log k e)) number ∙ ap (λ (x : Event). (k, x)) at

-- the flag of an event
pub flag_at : (log : List Event) (k : ℕ) (e : Event) (d : Bool) → k < length log → get_or log k e ≡ e → get_or (live_flags log) k d ≡ is_live log (k, e)
flag_at log k e d lt at =
    let within : k < length (enumerate_from 0 log) = subst (λ (n : ℕ). k < n) (sym (length-enumerate_from 0 log)) lt in
    get_or-map (is_live log) (enumerate_from 0 log) k (0, e) d within ∙ ap (is_live log) (numbered_at log k e lt at)

-- there are as many flags as events
pub length-flags : (log : List Event) → length (live_flags log) ≡ length log
length-flags log = length-map (enumerate_from 0 log) (is_live log) ∙ length-enumerate_from 0 log

-- the rows of the first events
abbrev pub rows_before : List Event → ℕ → List EventRow
rows_before log k = map (event_row log) (take k (enumerate_from 0 log))

module _ (log : List Event) (k : ℕ) where
  -- one more row
  pub row_push : (e : Event) (live : Bool) → k < length log → get_or log k e ≡ e → live ≡ is_live log (k, e)
      → rows_before log k ++ (record { number = k; event = e; live = live }) ∷ [] ≡ rows_before log (k + 1)
  row_push e live lt at is =
      let within : k < length (enumerate_from 0 log) = subst (λ (n : ℕ). k < n) (sym (length-enumerate_from 0 log)) lt in
      ap (λ (l : Bool). rows_before log k ++ (record { number = k; event = e; live = l }) ∷ []) is
      ∙ ap (λ (p : ℕ × Event). rows_before log k ++ event_row log p ∷ []) (sym (numbered_at log k e lt at))
      ∙ sym (map-append (event_row log) (take k (enumerate_from 0 log)) (get_or (enumerate_from 0 log) k (0, e) ∷ []))
      ∙ ap (map (event_row log)) (sym (take_more (enumerate_from 0 log) k (0, e) within))

  -- all rows
  pub rows_all : length log ≤ k → rows_before log k ≡ event_rows log
  rows_all le = ap (map (event_row log)) (take_all k (enumerate_from 0 log) (subst (λ (n : ℕ). n ≤ k) (sym (length-enumerate_from 0 log)) le))

-- the line of a row is that of the event
pub lines_of_rows : (log : List Event) → map event_line (event_rows log) ≡ log_lines log
lines_of_rows log = map-map event_line (event_row log) (enumerate_from 0 log)
