use Rattle.std.proofs.Common.{List, map, ap, subst, arith}
use Rattle.std.proofs.lemmas.List.{take_all}
use Rattle.hd_subs.specs.declared.class.Static.{Static}
use Rattle.hd_classes.specs.Sources.{table_of}
use Rattle.hd_classes.specs.Naming.{AreNumbers}
use Rattle.hd_classes.proofs.NamingLemmas.{notes-nothing, notes-further, numbers-next}
use Rattle.hd_classes.proofs.name_numbers.NameNumbers.of_statics.Goals as goal

pub number-requires-clause-noted : goal.number-requires-clause-noted
number-requires-clause-noted c = c.loop-item.invariant.more.noted

pub loop-item-init : goal.loop-item-init
loop-item-init c = record {
  more = notes-nothing (table_of c.args.source.now) c.args.self.now c.requires.noted;
  are = λ texts' on. ap (map _) c.in_ok-numbers.ensures.items;
}

pub loop-item-preserved : goal.loop-item-preserved
loop-item-preserved c =
    let t = table_of c.args.source.now in
    let h = c.loop-item.invariant in
    let more = c.in_ok-number.ensures.more in
    record {
      more = notes-further t c.args.self.now c.loop-item.self c.number.new.self h.more more;
      are = numbers-next t c.loop-item.self.texts c.number.new.self.texts (λ (x : Static). x.name) c.args.statics.now c.loop-item.item-index
          (record { name = 0; code = 0; value = record { start = 0; len = 0 } }) c.loop-item.numbers.items c.push.new.self.items c.in_ok-number.field-0
          (omega arith) h.are more.more c.in_ok-number.ensures.is c.in_ok-push.ensures.items;
    }

pub returns-clause-are : goal.returns-clause-are
returns-clause-are c =
    let xs = c.args.statics.now in
    subst (λ (ys : List Static). AreNumbers (table_of c.args.source.now) c.loop-item.self.texts (map (λ (x : Static). x.name) ys) c.loop-item.numbers.items)
    (take_all c.loop-item.item-index xs (omega arith)) c.loop-item.invariant.are
