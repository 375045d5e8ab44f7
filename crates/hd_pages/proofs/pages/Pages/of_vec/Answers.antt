-- The last group of the list becomes pages in each turn, and the list is cut there: the groups so far hold the rest.
-- So in the end the groups, turned round, hold the list.
use Rattle.std.proofs.Common.{◌≡◌, ◌∙◌, ◌-◌, ◌*◌, ◌/◌, ◌++◌, [], length, map, reverse, take, drop, sym, ap, refl, arith}
use Rattle.std.specs.Arc.{arc_value}
use Rattle.std.proofs.lemmas.List.{length-drop, length-take-le, take-append-drop}
use Rattle.hd_pages.specs.Parts.{joined}
use Rattle.hd_pages.proofs.PartLemmas.{held_front, IsFilled_front}
use Rattle.hd_pages.proofs.pages.Pages.of_vec.Goals as goal

pub loop-rest-preserved : goal.loop-rest-preserved
loop-rest-preserved g c =
    let all = c.loop-rest.rest.items in
    let start = (c.len-in-loop-rest-2.result - 1) / 262144 * 262144 in
    let part = drop start c.deref.result.now in
    let len : c.len-in-loop-rest-2.result ≡ length all = c.len-in-loop-rest-2.ensures ∙ c.loop-rest.rest.ok.0 in
    let long : c.len-in-loop-rest.result ≡ length all = c.len-in-loop-rest.ensures ∙ c.loop-rest.rest.ok.0 in
    let group : arc_value c.in_ok-new.field-0 ≡ part = c.in_ok-new.ensures.ok ∙ c.in_ok-of_slice.ensures ∙ c.split_at.ensures.back in
    let rest : c.shrink_to_fit.new.self.items ≡ take start all = c.shrink_to_fit.ensures.items ∙ c.truncate.ensures.items in
    let whole : c.shrink_to_fit.new.self.items ++ part ≡ all = rw (rest, c.deref.ensures.value) (take-append-drop start all) in
    let left : length c.shrink_to_fit.new.self.items ≡ start = ap length rest ∙ length-take-le start all (omega (arith, len)) in
    let moved : length part ≡ length all - start = ap (λ xs. length (drop start xs)) c.deref.ensures.value ∙ length-drop start all in
    record {
      held = held_front arc_value c.loop-rest.groups.items c.push.new.self.items c.in_ok-new.field-0 part c.in_ok-push.ensures.items group all
          c.shrink_to_fit.new.self.items c.args.items.items c.loop-rest.invariant.held whole;
      filled = IsFilled_front arc_value c.loop-rest.groups.items c.push.new.self.items c.in_ok-new.field-0 part c.in_ok-push.ensures.items group 262144
          c.loop-rest.invariant.filled (omega (arith, moved, len)) (λ more. omega (arith, moved, len, c.loop-rest.invariant.whole more));
      some = λ more. omega (arith, left, len, long, c.loop-rest-test.true);
      whole = λ more. omega (arith, left);
    }

pub invariant_of-result : goal.invariant_of-result
invariant_of-result g c =
    let rest = c.loop-rest.rest.items in
    let short : c.len-in-loop-rest.result ≡ length rest = c.len-in-loop-rest.ensures ∙ c.loop-rest.rest.ok.0 in
    let group : arc_value c.in_ok-new-2.field-0 ≡ rest = c.in_ok-new-2.ensures.ok ∙ c.in_ok-of_slice-2.ensures ∙ c.deref-2.ensures.value in
    let held : joined (map arc_value (reverse c.push-2.new.self.items)) ≡ c.args.items.items =
    held_front arc_value c.loop-rest.groups.items c.push-2.new.self.items c.in_ok-new-2.field-0 rest c.in_ok-push-2.ensures.items group rest []
    c.args.items.items c.loop-rest.invariant.held refl in
    rw c.reverse.ensures.items record {
      filled = IsFilled_front arc_value c.loop-rest.groups.items c.push-2.new.self.items c.in_ok-new-2.field-0 rest c.in_ok-push-2.ensures.items group 262144
          c.loop-rest.invariant.filled (omega (arith, short, c.loop-rest-test.false))
          (λ more. omega (arith, short, c.loop-rest-test.false, c.loop-rest.invariant.some more, c.loop-rest.invariant.whole more));
      len = c.len-len.ensures ∙ c.args.items.ok.0 ∙ sym (ap length held);
    }

pub returns : goal.returns
returns g c =
    let rest = c.loop-rest.rest.items in
    let group : arc_value c.in_ok-new-2.field-0 ≡ rest = c.in_ok-new-2.ensures.ok ∙ c.in_ok-of_slice-2.ensures ∙ c.deref-2.ensures.value in
    rw c.reverse.ensures.items
    (held_front arc_value c.loop-rest.groups.items c.push-2.new.self.items c.in_ok-new-2.field-0 rest c.in_ok-push-2.ensures.items group rest []
    c.args.items.items c.loop-rest.invariant.held refl)
