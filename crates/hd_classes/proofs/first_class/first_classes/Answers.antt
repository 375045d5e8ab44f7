use Rattle.std.proofs.Common.{◌≡◌, ◌∙◌, take, drop, map, ap, arith}
use Rattle.hd_classes.specs.FirstClass.{entry_of, placed_classes}
use Rattle.hd_classes.proofs.NameLemmas.{take-next}
use Rattle.hd_classes.proofs.FirstClassLemmas.{places-front, none-placed}
use Rattle.hd_classes.proofs.first_class.first_classes.Goals as goal

pub loop-i-preserved : goal.loop-i-preserved
loop-i-preserved c = rw (take-next c.args.list.now c.loop-i.i _ c.get.ensures) (c.in_ok-note_sub.ensures (take c.loop-i.i c.args.list.now) c.loop-i.invariant)

pub returns : goal.returns
returns c =
    let all : c.loop-i.i ≡ c.classes_end-i-end.result = omega arith in
    c.loop-i.invariant.kept
    ∙ ap (λ n. map entry_of (placed_classes (take n c.args.list.now))) all
    ∙ ap (map entry_of) (places-front c.args.list.now c.classes_end-i-end.result
    (none-placed (drop c.classes_end-i-end.result c.args.list.now) c.classes_end-i-end.ensures.none_after))
