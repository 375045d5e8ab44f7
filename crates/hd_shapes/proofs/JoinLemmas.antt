-- The objects of parts, one part behind the other.
use Rattle.std.proofs.Common.{◌≡◌, ◌∙◌, ℕ, ◌<◌, List, length, get_or, take, sum, sym, ap, subst, arith}
use Rattle.hd_parts.proofs.WholeLemmas.{length-whole, within-whole, get-whole}
use Rattle.hd_shapes.specs.Shapes.{ObjectShape}
use Rattle.hd_shapes.specs.PackedShapes.{ShapeLists}
use Rattle.hd_shapes.specs.JoinedShapes.{ObjectShapes, joined_objects, part_lens, AreJoined, StandAt}

abbrev objects : ShapeLists → List ObjectShape
objects part = part.objects

-- all are as many as the parts have together
pub length_joined : (parts : List ShapeLists) → length (joined_objects parts) ≡ sum (part_lens parts)
length_joined parts = length-whole objects parts

-- those of a part stand behind those of the parts before
pub part-stands : (parts : List ShapeLists) (k : ℕ) (part : ShapeLists) → k < length parts → part ≡ get_or parts k part
    → StandAt part.objects (joined_objects parts) (sum (take k (part_lens parts)))
part-stands parts k part lt is =
    let own : length part.objects ≡ length (get_or parts k part).objects = ap (λ (p : ShapeLists). length p.objects) is in
    record {
      within = omega (arith, own, within-whole objects parts k part lt);
      at = λ i within. get-whole objects parts k i part lt is within;
    }

-- the same among the objects that are seen, where the part's first number is said by the index
pub part-seen : (parts : List ShapeLists) (lens : List ℕ) (count : ℕ) (all : ObjectShapes) (k first : ℕ) (part : ShapeLists)
    → AreJoined parts lens count → (let seen : ObjectShapes = record { objects = joined_objects parts } in seen ≡ all) → k < length parts
    → part ≡ get_or parts k part → first ≡ sum (take k lens) → StandAt part.objects all.objects first
part-seen parts lens count all k first part joined view lt is at =
    let first-is : sum (take k (part_lens parts)) ≡ first = sym (at ∙ ap (λ (ns : List ℕ). sum (take k ns)) joined.lens_are) in
    subst (λ (seen : ObjectShapes). StandAt part.objects seen.objects first) view
    (subst (λ (n : ℕ). StandAt part.objects (joined_objects parts) n) first-is (part-stands parts k part lt is))
