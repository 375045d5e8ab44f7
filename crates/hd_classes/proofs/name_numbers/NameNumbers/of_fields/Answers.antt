use Rattle.std.proofs.Common.{List, map, ap, subst, arith}
use Rattle.std.proofs.lemmas.List.{take_all}
use Rattle.hd_classes.specs.declared.known.LayoutField.{LayoutField}
use Rattle.hd_classes.specs.Sources.{table_of}
use Rattle.hd_classes.specs.Naming.{AreNumbers}
use Rattle.hd_classes.proofs.NamingLemmas.{notes-nothing, notes-further, numbers-next}
use Rattle.hd_classes.proofs.name_numbers.NameNumbers.of_fields.Goals as goal

pub number-requires-clause-noted : goal.number-requires-clause-noted
number-requires-clause-noted c = c.loop-field.invariant.more.noted

pub loop-field-init : goal.loop-field-init
loop-field-init c = record {
  more = notes-nothing (table_of c.args.source.now) c.args.self.now c.requires.noted;
  are = λ texts' on. ap (map _) c.in_ok-numbers.ensures.items;
}

pub loop-field-preserved : goal.loop-field-preserved
loop-field-preserved c =
    let t = table_of c.args.source.now in
    let h = c.loop-field.invariant in
    let more = c.in_ok-number.ensures.more in
    record {
      more = notes-further t c.args.self.now c.loop-field.self c.number.new.self h.more more;
      are = numbers-next t c.loop-field.self.texts c.number.new.self.texts (λ (x : LayoutField). x.name) c.args.fields.now c.loop-field.field-index
          (record { owner = 0; name = 0; code = 0 }) c.loop-field.numbers.items c.push.new.self.items c.in_ok-number.field-0
          (omega arith) h.are more.more c.in_ok-number.ensures.is c.in_ok-push.ensures.items;
    }

pub returns-clause-are : goal.returns-clause-are
returns-clause-are c =
    let xs = c.args.fields.now in
    subst (λ (ys : List LayoutField). AreNumbers (table_of c.args.source.now) c.loop-field.self.texts (map (λ (x : LayoutField). x.name) ys)
    c.loop-field.numbers.items) (take_all c.loop-field.field-index xs (omega arith)) c.loop-field.invariant.are
