-- An undo of the last event restores strengths, so it changes those that the event changed.
use Rattle.std.proofs.Common.{◌≡◌, ◌≢◌, ◌∙◌, ℕ, ◌+◌, ◌-◌, ◌≤◌, ◌<◌, inl, List, [], ◌∷◌, ◌++◌}
use Rattle.std.proofs.Common.{Contains, length, take, get_or, sum_by, sym, ap, subst, arith, zero-add}
use Rattle.std.proofs.lemmas.List.{length_push, map-append, take-append-le, take_all, take_more}
use Rattle.std.proofs.lemmas.List.Sums.{sum_by-append}
use Rattle.hd_terms.specs.declared.Edit.TheVariants as edits
use Rattle.hd_terms.specs.declared.Event.{Event}
use Rattle.hd_terms.specs.declared.Strength.{Strength}
use Rattle.hd_terms.specs.Dump.{Dump}
use Rattle.hd_terms.specs.EdgeRows.{degree, rows_of}
use Rattle.hd_terms.specs.EditedDump.{standing}
use Rattle.hd_terms.specs.Paths.{Edge, RootEntry, Standing, IsPath, Lead}
use Rattle.hd_terms.specs.Regions.{StrengthChange, changed_objects, AreChanges}
use Rattle.hd_terms.specs.Settled.{Reached, Settled, reached_at}
use Rattle.hd_terms.specs.Strengths.{HasStrength}
use Rattle.hd_repair.proofs.DistinctLemmas.{sum_by-cons, sum_by-part}
use Rattle.hd_repair.proofs.LossLemmas.{changed_from}
use Rattle.hd_view.specs.OneEdit.{HasOneMore}
use Rattle.hd_view.proofs.OneEditLemmas.{StandsWithin, loses_alone}
use Rattle.hd_view.proofs.IntoLemmas.{length_into}
use Rattle.hd_view.proofs.OutLemmas.{length_edges}
use Rattle.hd_state.specs.LastMove.{earlier, edges_at, HaveMoved, HaveSameLive}
use Rattle.hd_state.specs.Next.{IsNextLog}

-- what stands under one of two logs with the same live edits stands under the other
same_within : (dump : Dump) (log other : List Event) → HaveSameLive log other → StandsWithin dump other log
same_within dump log other same =
    let one : HasOneMore log other 0 (edits.Drop 0) = record { kept = same.there; only = λ j x live. inl (same.back j x live) } in
    loses_alone dump log other 0 (edits.Drop 0) one

turned : (log other : List Event) → HaveSameLive log other → HaveSameLive other log
turned log other same = record { there = same.back; back = same.there }

module _ (dump : Dump) (log other : List Event) (within : StandsWithin dump log other) where
  leads_too : (es : List Edge) (a b : ℕ) → Lead (standing dump log) a es b → Lead (standing dump other) a es b
  leads_too [] a b l = l
  leads_too (e ∷ es) a b l = (within.edges e l.0, l.1, leads_too es e.target b l.2)

  path_too : (r : RootEntry) (es : List Edge) (o : ℕ) → IsPath (standing dump log) r es o → IsPath (standing dump other) r es o
  path_too r es o path = record {
    root = within.roots r path.root;
    edges = leads_too es r.target o path.edges;
    passed_on = path.passed_on;
  }

-- so strengths are the same
pub same_strengths : (dump : Dump) (log other : List Event) → HaveSameLive log other → (o : ℕ) (s : Strength) → HasStrength (standing dump other) o s
    → HasStrength (standing dump log) o s
same_strengths dump log other same o s h =
    let there = same_within dump log other same in
    let back = same_within dump other log (turned log other same) in
    record {
      found = λ reached. let way = h.found reached in (way.0, way.1, path_too dump other log there way.0 way.1 o way.2, way.3);
      greatest = λ r es path. h.greatest r es (path_too dump log other back r es o path);
    }

-- the edges of an object are no more than its degree, whatever the log
pub edges_within_degree : (dump : Dump) (log : List Event) (o : ℕ) → edges_at dump o ≤ degree (rows_of dump log) o
edges_within_degree dump log o = omega (arith, length_edges dump o log, length_into dump log o)

pub sum_edges_within : (dump : Dump) (log : List Event) (region : List ℕ) → sum_by (edges_at dump) region ≤ sum_by (degree (rows_of dump log)) region
sum_edges_within dump log [] = omega arith
sum_edges_within dump log (o ∷ region) = omega (
  arith,
  edges_within_degree dump log o,
  sum_edges_within dump log region,
  sum_by-cons (edges_at dump) o region,
  sum_by-cons (degree (rows_of dump log)) o region,
)

-- the edges of one more changed object
pub sum_more : (dump : Dump) (changes : List StrengthChange) (i : ℕ) (d : StrengthChange) → i < length changes
    → sum_by (edges_at dump) (changed_objects (take (i + 1) changes)) ≡ sum_by (edges_at dump) (changed_objects (take i changes))
    + edges_at dump (get_or changes i d).object
sum_more dump changes i d lt =
    let x : StrengthChange = get_or changes i d in
    let objects : changed_objects (take (i + 1) changes) ≡ changed_objects (take i changes) ++ x.object ∷ [] =
    ap changed_objects (take_more changes i d lt) ∙ map-append (λ (c : StrengthChange). c.object) (take i changes) (x ∷ []) in
    ap (sum_by (edges_at dump)) objects ∙ sum_by-append (edges_at dump) (changed_objects (take i changes)) (x.object ∷ [])
    ∙ ap (λ (n : ℕ). sum_by (edges_at dump) (changed_objects (take i changes)) + n) (zero-add (edges_at dump x.object))

-- a log without its last event is the log before that
pub earlier_is : (before after : List Event) → IsNextLog before after → earlier after ≡ before
earlier_is before after next =
    let count : length after - 1 ≡ length before = omega (arith, ap length next.is, length_push before next.event) in
    ap (λ (n : ℕ). take n after) count ∙ ap (take (length before)) next.is ∙ take-append-le (length before) before (next.event ∷ []) (omega arith)
    ∙ take_all (length before) before (omega arith)

-- the objects of changes are all whose strength an event changes
pub moved_within : ((g : Standing) (ks : List Reached) → Settled g ks → (o : ℕ) → HasStrength g o (reached_at ks o).strength)
    → (dump : Dump) (before after : List Event) (ks ls : List Reached) (changes : List StrengthChange) → IsNextLog before after
    → Settled (standing dump before) ks → Settled (standing dump after) ls → AreChanges ks ls changes → (region : List ℕ) → HaveMoved dump after region
    → sum_by (edges_at dump) (changed_objects changes) ≤ sum_by (edges_at dump) region
moved_within gives dump before after ks ls changes next was now are region all =
    sum_by-part (edges_at dump) (changed_objects changes) region are.once (λ o c.
    let d = changed_from changes o c in
    let each = are.each d.0 d.1 in
    let differ : (reached_at ks d.0.object).strength ≢ (reached_at ls d.0.object).strength = λ e. each.2 (sym each.0 ∙ e ∙ each.1) in
    let here : HasStrength (standing dump (earlier after)) d.0.object (reached_at ks d.0.object).strength =
    subst (λ (log : List Event). HasStrength (standing dump log) d.0.object (reached_at ks d.0.object).strength) (sym (earlier_is before after next))
    (gives (standing dump before) ks was d.0.object) in
    subst (λ (x : ℕ). Contains region x) d.2 (all d.0.object (reached_at ks d.0.object).strength (reached_at ls d.0.object).strength here
    (gives (standing dump after) ls now d.0.object) differ))

-- where an undo of the last event is taken back, all whose strength changes have moved by that event
pub moved_back_within : ((g : Standing) (ks : List Reached) → Settled g ks → (o : ℕ) → HasStrength g o (reached_at ks o).strength)
    → ((g : Standing) (o : ℕ) (s t : Strength) → HasStrength g o s → HasStrength g o t → s ≡ t)
    → (dump : Dump) (before after : List Event) (ks ls : List Reached) (region : List ℕ) → HaveSameLive (earlier before) after
    → Settled (standing dump before) ks → Settled (standing dump after) ls
    → ((o : ℕ) → (reached_at ks o).strength ≢ (reached_at ls o).strength → Contains region o) → HaveMoved dump before region
moved_back_within gives one dump before after ks ls region same was now all o s t hs ht differ =
    let restored : HasStrength (standing dump (earlier before)) o (reached_at ls o).strength =
    same_strengths dump (earlier before) after same o (reached_at ls o).strength (gives (standing dump after) ls now o) in
    let first : s ≡ (reached_at ls o).strength = one (standing dump (earlier before)) o s (reached_at ls o).strength hs restored in
    let second : t ≡ (reached_at ks o).strength = one (standing dump before) o t (reached_at ks o).strength ht (gives (standing dump before) ks was o) in
    all o (λ e. differ (first ∙ sym e ∙ sym second))
