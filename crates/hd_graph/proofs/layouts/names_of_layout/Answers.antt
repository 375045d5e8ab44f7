use Rattle.std.proofs.Common.{◌≡◌, ◌∙◌, ℕ, ◌+◌, List, ◌++◌, length, map, sym, ap, arith, append_assoc, length-append}
use Rattle.std.proofs.lemmas.List.{length-map}
use Rattle.hd_terms.specs.Classes as classes_of
use Rattle.hd_terms.specs.declared.Slot.{Slot}
use Rattle.hd_classes.specs.Known.{field_view}
use Rattle.hd_graph.specs.ArrayRows.{field_names}
use Rattle.hd_graph.proofs.LayoutLemmas.{names-append}
use Rattle.hd_graph.proofs.layouts.names_of_layout.Goals as goal

pub loop-own-preserved : goal.loop-own-preserved
loop-own-preserved c =
    let old = c.loop-own.names.items in
    let first = c.loop-own.first in
    let own = map field_view c.in-Some.own.now in
    let above = c.in-Some.above in
    let many : first + length c.in-Some.own.now ≡ first + length own = omega (arith, length-map c.in-Some.own.now field_view) in
    record {
      names = ap (λ (ns : List Slot). ns ++ field_names (first + length c.in-Some.own.now) above) c.in_ok-push_names.ensures
          ∙ append_assoc old (field_names first own) (field_names (first + length c.in-Some.own.now) above)
          ∙ ap (λ (n : ℕ). old ++ (field_names first own ++ field_names n above)) many
          ∙ ap (λ (ns : List Slot). old ++ ns) (sym (names-append first own above))
          ∙ ap (λ (fs : List classes_of.LayoutField). old ++ field_names first fs) (sym c.in-Some.ensures.0)
          ∙ c.loop-own.invariant.names;
      number = omega (
        arith,
        c.loop-own.invariant.number,
        many,
        ap (λ (fs : List classes_of.LayoutField). length fs) c.in-Some.ensures.0,
        length-append own above,
      );
    }
