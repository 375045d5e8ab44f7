-- Lemmas on the fields of a layout while they are read.
use Rattle.std.proofs.Common.{◌≡◌, ◌∙◌, ℕ, ◌+◌, ◌-◌, ◌≤◌, List, drop, Option, refl, sym, ap, subst, arith, drop-drop}
use Rattle.std.specs.List.{slice_get}
use Rattle.hd_terms.specs.Dump.{NamedField}
use Rattle.hd_names.specs.declared.field_names.FieldNames.TheInside.{Inside}
use Rattle.hd_names.specs.Tables.{layout_in, own_fields_in}
use Rattle.hd_names.specs.FieldsInside.{fields_in, StandsThere}
use Rattle.hd_names.proofs.TableLemmas.{get-passed}

-- where the search for a field begins: no field behind it is passed
pub record Begins (old new : Inside) (field : ℕ) : Type 0 where
  pub stands : StandsThere new
  pub within : new.passed ≤ field
  pub whole : fields_in new ≡ fields_in old

pub begins-first : (old new : Inside) (field : ℕ) → StandsThere old → new ≡ record old { row = old.first; passed = 0 } → Begins old new field
begins-first old new field h is =
    subst (λ (a : Inside). Begins old a field) (sym is) (record {
      stands = record { earlier = h.earlier; here = refl };
      within = omega arith;
      whole = refl;
    })

pub begins-here : (old new : Inside) (field : ℕ) → StandsThere old → new ≡ old → old.passed ≤ field → Begins old new field
begins-here old new field h is le = subst (λ (a : Inside). Begins old a field) (sym is) (record { stands = h; within = le; whole = refl })

module _ (old new : Inside) (field : ℕ) (begins : Begins old new field) (row : Option ℕ) (rest : ℕ) (le : rest ≤ field - new.passed)
    (passed : drop (field - new.passed - rest) (layout_in new.table.now new.row) ≡ layout_in new.table.now row) where
  there : drop (field - rest) (fields_in new) ≡ layout_in new.table.now row
  there =
      let more : field - rest ≡ new.passed + (field - new.passed - rest) = omega (arith, begins.within) in
      ap (λ (n : ℕ). drop n (fields_in new)) more
      ∙ sym (drop-drop (field - new.passed - rest) new.passed (fields_in new))
      ∙ ap (drop (field - new.passed - rest)) begins.stands.here
      ∙ passed

  pub stands-after : StandsThere (record new { row = row; passed = field - rest })
  stands-after = record { earlier = begins.stands.earlier; here = there }

  pub found-after : slice_get (own_fields_in new.table.now row) rest ≡ slice_get (layout_in new.table.now row) rest
      → slice_get (own_fields_in new.table.now row) rest ≡ slice_get (fields_in old) field
  found-after own =
      let whole : (field - rest) + rest ≡ field = omega (arith, begins.within) in
      own
      ∙ ap (λ (fs : List NamedField). slice_get fs rest) (sym there)
      ∙ get-passed (fields_in new) (field - rest) rest
      ∙ ap (slice_get (fields_in new)) whole
      ∙ ap (λ (fs : List NamedField). slice_get fs field) begins.whole
