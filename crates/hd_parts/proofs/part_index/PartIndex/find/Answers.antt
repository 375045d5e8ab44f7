use Rattle.std.proofs.Common.{◌∙◌, ℕ, List, get_or, sym, ap}
use Rattle.hd_parts.proofs.FirstLemmas.{holds, led-from, led-to}
use Rattle.hd_parts.proofs.part_index.PartIndex.find.Goals as goal

pub part_from-part-requires : goal.part_from-part-requires
part_from-part-requires c =
    let h = holds c.args.self.now c.self.inside.firsts.items c.self.inside.at.items c.deref.result.now c.self.invariant c.self.view_is c.deref.ensures.value in
    let led = led-from c.args.self.now c.deref.result.now c.self.inside.at.items h c.args.o c.index-from.result.now c.requires c.index-from.ensures in
    record { from = led.0; reached = led.1; within = led.2 }

pub returns : goal.returns
returns c =
    let h = holds c.args.self.now c.self.inside.firsts.items c.self.inside.at.items c.deref.result.now c.self.invariant c.self.view_is c.deref.ensures.value in
    let led = led-to c.args.self.now c.deref.result.now c.self.inside.at.items h c.args.o c.part_from-part.result c.index.result.now
    c.part_from-part.ensures.part c.part_from-part.ensures.within
    (c.index.ensures ∙ ap (λ (ns : List ℕ). get_or ns c.part_from-part.result c.index.result.now) (sym c.deref.ensures.value)) in
    record { part = led.0; first = led.1; within = (led.2, led.3) }
