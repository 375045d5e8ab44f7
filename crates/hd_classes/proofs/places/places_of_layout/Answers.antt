-- One class of the chain after another: the places of its own fields come behind those before.
-- Where the places so far end is where its values begin.
use Rattle.std.proofs.Common.{◌≡◌, ◌∙◌, ℕ, ◌+◌, List, ◌++◌, length, map, sym, ap, arith, append_assoc}
use Rattle.hd_terms.specs.Classes as classes_of
use Rattle.hd_terms.specs.Classes.{layout_len}
use Rattle.hd_classes.specs.Fields.{field_view}
use Rattle.hd_classes.specs.Places.{reference_places}
use Rattle.hd_classes.proofs.FieldLemmas.{len-append}
use Rattle.hd_classes.proofs.PlaceLemmas.{places-append, layout-few}
use Rattle.hd_classes.proofs.places.places_of_layout.Goals as goal

pub push_places-requires : goal.push_places-requires
push_places-requires c =
    let end = c.loop-own.invariant.end in
    let own = map field_view c.in-Some.own.now in
    omega (
      arith,
      end,
      ap (layout_len c.args.id_size) c.in-Some.ensures.0,
      len-append c.args.id_size own c.in-Some.above,
      layout-few c.args.id_size
          c.args.layout,
      c.requires,
    )

pub loop-own-preserved : goal.loop-own-preserved
loop-own-preserved c =
    let size = c.args.id_size in
    let old = c.loop-own.places.items in
    let at = c.loop-own.at in
    let own = map field_view c.in-Some.own.now in
    let above = c.in-Some.above in
    let end = c.loop-own.invariant.end in
    let next = c.in_ok-at.ensures.end in
    record {
      places = ap (λ (ps : List ℕ). ps ++ reference_places size c.in_ok-at.at above) c.in_ok-at.ensures.added
          ∙ append_assoc old (reference_places size at own) (reference_places size c.in_ok-at.at above)
          ∙ ap (λ (n : ℕ). old ++ (reference_places size at own ++ reference_places size n above)) next
          ∙ ap (λ (ps : List ℕ). old ++ ps) (sym (places-append size at own above))
          ∙ ap (λ (fs : List classes_of.LayoutField). old ++ reference_places size at fs) (sym c.in-Some.ensures.0)
          ∙ c.loop-own.invariant.places;
      end = omega (arith, end, next, ap (layout_len size) c.in-Some.ensures.0, len-append size own above);
    }
