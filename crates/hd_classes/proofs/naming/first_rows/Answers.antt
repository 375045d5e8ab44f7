-- One class after another, each ID once: it goes into the map with its row, or with none where it has no chain.
-- So a look-up in the map finds the row of a class.
use Rattle.std.proofs.Common.{◌≡◌, ◌∙◌, ℕ, ◌++◌, ◌∷◌, [], List, Option, Some, None, eqb, map, take, sym, ap, arith}
use Rattle.std.specs.List.{slice_get, position}
use Rattle.std.specs.Map.{keys_of, lookup}
use Rattle.std.proofs.lemmas.Option.{slice_get_within}
use Rattle.hd_ids.proofs.RowLemmas.{position-of-place}
use Rattle.hd_classes.specs.declared.first_class.FirstClass.{FirstClass}
use Rattle.hd_classes.specs.Naming.{first_of}
use Rattle.hd_classes.proofs.LookLemmas.{key-at}
use Rattle.hd_classes.proofs.FirstClassLemmas.{insert-absent}
use Rattle.hd_classes.proofs.NamingLemmas.{map-next, take-whole, absent-before}
use Rattle.hd_classes.proofs.naming.first_rows.Goals as goal

pub loop-id-preserved : goal.loop-id-preserved
loop-id-preserved c =
    let entries = c.args.source.now.classes.entries in
    let rows = c.args.known.now.entries in
    let i = c.loop-id.i in
    let id = c.in-Some.id.now in
    let entry : ℕ × FirstClass = (id, c.in-Some.field-0-1.now) in
    let at : slice_get entries i ≡ Some entry =
    ap (λ (es : List (ℕ × FirstClass)). slice_get es i) (sym c.as_slice-classes.ensures.entries) ∙ sym c.in-Some.ensures.entry in
    let key = key-at entries i entry at in
    let place : position (λ (x : ℕ). eqb id x) (keys_of entries) ≡ Some i =
    position-of-place (keys_of entries) id i c.as_slice-classes.ensures.unique key.0 key.1 in
    let first : ℕ → ℕ × Option ℕ = λ (k : ℕ). (k, first_of rows k) in
    let old : List (ℕ × Option ℕ) = map (λ (e : ℕ × FirstClass). (e.0, first_of rows e.0)) (take i entries) in
    let absent : lookup (λ (x : ℕ). eqb id x) c.loop-id.firsts.entries ≡ None =
    ap (lookup (λ (x : ℕ). eqb id x)) c.loop-id.invariant.firsts ∙ absent-before id (first_of rows) entries i place in
    let lt = slice_get_within entries i entry at in
    record {
      within = omega (arith, lt);
      firsts = c.in_ok-insert.ensures.entries
          ∙ insert-absent id c.first_row.result c.loop-id.firsts.entries absent
          ∙ ap (λ (es : List (ℕ × Option ℕ)). es ++ (id, c.first_row.result) ∷ []) c.loop-id.invariant.firsts
          ∙ ap (λ (o : Option ℕ). old ++ (id, o) ∷ []) c.first_row.ensures
          ∙ sym (map-next (λ (e : ℕ × FirstClass). (e.0, first_of rows e.0)) entries i entry at);
    }

pub returns : goal.returns
returns c =
    let entries = c.args.source.now.classes.entries in
    let none : slice_get entries c.loop-id.i ≡ None =
    ap (λ (es : List (ℕ × FirstClass)). slice_get es c.loop-id.i) (sym c.as_slice-classes.ensures.entries) ∙ sym c.in_default.ensures.entry in
    c.loop-id.invariant.firsts ∙ ap (map (λ (e : ℕ × FirstClass). (e.0, first_of c.args.known.now.entries e.0))) (take-whole entries c.loop-id.i none)
