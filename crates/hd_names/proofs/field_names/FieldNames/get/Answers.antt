use Rattle.std.proofs.Common.{◌∙◌, List, ap}
use Rattle.std.specs.List.{slice_get}
use Rattle.hd_terms.specs.Dump.{NamedField}
use Rattle.hd_names.proofs.FieldLemmas.{Begins, begins-first, begins-here, stands-after, found-after}
use Rattle.hd_names.proofs.field_names.FieldNames.get.Goals as goal
use Rattle.hd_names.proofs.field_names.FieldNames.get.Goals.{then-field-self, else-field-self}

pub invariant_of-self : goal.invariant_of-self
invariant_of-self c =
    let begins : Begins c.self.inside c.if-field-self.self-inside c.args.field = elim c.if-field-self.branch [
      | then-field-self w ↦ begins-first c.self.inside c.if-field-self.self-inside c.args.field c.self.invariant w.self-inside-is
      | else-field-self w ↦ begins-here c.self.inside c.if-field-self.self-inside c.args.field c.self.invariant w.self-inside-is w.if-field-self.false
    ] in
    stands-after c.self.inside c.if-field-self.self-inside c.args.field begins c.walk-row.result.0 c.walk-row.result.1 c.walk-row.ensures.rest
    c.walk-row.ensures.passed

pub returns-clause-found : goal.returns-clause-found
returns-clause-found c =
    let begins : Begins c.self.inside c.if-field-self.self-inside c.args.field = elim c.if-field-self.branch [
      | then-field-self w ↦ begins-first c.self.inside c.if-field-self.self-inside c.args.field c.self.invariant w.self-inside-is
      | else-field-self w ↦ begins-here c.self.inside c.if-field-self.self-inside c.args.field c.self.invariant w.self-inside-is w.if-field-self.false
    ] in
    c.own_field.ensures
    ∙ found-after c.self.inside c.if-field-self.self-inside c.args.field begins c.walk-row.result.0 c.walk-row.result.1 c.walk-row.ensures.rest
    c.walk-row.ensures.passed c.walk-row.ensures.own
    ∙ ap (λ (fs : List NamedField). slice_get fs c.args.field) c.self.view_is
