use Rattle.std.proofs.Common.{◌≡◌, ◌∙◌, ◌+◌, ◌≤◌, ℕ, List, All, length, ap, subst, sym, arith}
use Rattle.hd_terms.specs.declared.IdSize.{IdSize}
use Rattle.hd_terms.specs.Classes.{layout_len}
use Rattle.hd_classes.specs.Places.{places_by_number}
use Rattle.hd_slots.specs.Table.{IsIdWithin}
use Rattle.hd_graph.specs.ArrayRows.{layout_by_number}
use Rattle.hd_graph.proofs.PlaceLemmas.{places-numbered, length-numbered, places-few, places-added, places-within}
use Rattle.hd_graph.proofs.instance_rows.push_values.Goals as goal

pub push_all-requires-clause-within : goal.push_all-requires-clause-within
push_all-requires-clause-within c =
    let t = c.args.slot_table.now in
    let classes = c.args.layouts.now.classes in
    let layout = layout_by_number classes c.args.class in
    let are : c.in-Some.places.now ≡ places_by_number t.size classes c.args.class = c.in-Some.ensures
    ∙ ap (λ (n : IdSize). places_by_number n classes c.args.class) c.requires.size in
    let within : c.args.start + 0 + layout_len t.size layout ≤ length t.bytes = omega (arith, c.requires.within, length-numbered t.size classes c.args.class) in
    subst (λ (places : List ℕ). All (λ (place : ℕ). IsIdWithin t.size (length t.bytes) (c.args.start + place)) places)
    (sym (are ∙ places-numbered t.size classes c.args.class))
    (places-within t.size (length t.bytes) c.args.start 0 layout within)

pub push_all-requires-clause-room : goal.push_all-requires-clause-room
push_all-requires-clause-room c =
    let t = c.args.slot_table.now in
    let classes = c.args.layouts.now.classes in
    let are : c.in-Some.places.now ≡ places_by_number t.size classes c.args.class = c.in-Some.ensures
    ∙ ap (λ (n : IdSize). places_by_number n classes c.args.class) c.requires.size in
    omega (
      arith,
      ap (λ (xs : List ℕ). length xs) (are ∙ places-numbered t.size classes c.args.class),
      places-few t.bytes t.size
          (layout_by_number classes c.args.class),
      c.requires.room,
    )

pub returns-in_ok-push_all-clause-row : goal.returns-in_ok-push_all-clause-row
returns-in_ok-push_all-clause-row c =
    let t = c.args.slot_table.now in
    let classes = c.args.layouts.now.classes in
    let are : c.in-Some.places.now ≡ places_by_number t.size classes c.args.class = c.in-Some.ensures
    ∙ ap (λ (n : IdSize). places_by_number n classes c.args.class) c.requires.size in
    places-added c.args.start c.args.class classes t c.push_all.new.self c.in-Some.places.now are c.in_ok-push_all.ensures
