-- What is found for the shared offsets is found for all slots that keep one (`codes`).
-- Then one pass moves the absent IDs to their list, and each slot has its number.
use Rattle.std.proofs.Common.{◌≡◌, ◌∙◌, List, ℕ, length, map, ap, sym, subst, All}
use Rattle.hd_slots.specs.Table.{id_at}
use Rattle.hd_slots.specs.Resolving.{found_code, id_of_found, IsFound, AreCodesOf}
use Rattle.hd_slots.specs.Shared.{offset_of, found_item}
use Rattle.hd_slots.proofs.ResolvingLemmas.{all-found}
use Rattle.hd_slots.proofs.SharedLemmas.{all-own, found-own, found-kept, offsets-within}
use Rattle.hd_slots.proofs.resolving.resolve_offsets.Given.{Over}
use Rattle.hd_slots.proofs.resolving.resolve_offsets.Goals as goal
use Rattle.hd_slots.proofs.resolving.resolve_offsets.Goals.{After-find_objects}

pub find_part-requires-clause-kept : goal.find_part-requires-clause-kept
find_part-requires-clause-kept g c = all-own c.args.id_size (length c.args.bytes.now) 0 c.args.shared.now c.requires.small c.requires.shared

-- what is found for the shared offsets, and then for all slots
shared-codes : (g : Over) (c : After-find_objects g) → c.find_part.new.part ≡ map (found_code c.args.ids.now c.args.bytes.now c.args.id_size) c.args.shared.now
shared-codes g c = c.find_part.ensures ∙ found-own c.args.ids.now c.args.bytes.now c.args.id_size c.args.shared.now c.requires.small c.requires.shared

codes : (g : Over) (c : After-find_objects g) → c.find_objects.new.items ≡ map (found_code c.args.ids.now c.args.bytes.now c.args.id_size)
    (map (offset_of c.args.shared.now) c.args.items.now)
codes g c =
    c.find_objects.ensures
    ∙ ap (λ (xs : List ℕ). map (found_item c.args.ids.now c.args.bytes.now c.args.id_size xs) c.args.items.now) (shared-codes g c)
    ∙ found-kept c.args.ids.now c.args.bytes.now c.args.id_size c.args.shared.now c.args.items.now c.requires.kept

-- so it stands for the IDs at these offsets
found : (g : Over) (c : After-find_objects g) → All (IsFound c.args.ids.now c.args.bytes.now c.args.id_size)
    (map (found_code c.args.ids.now c.args.bytes.now c.args.id_size) (map (offset_of c.args.shared.now) c.args.items.now))
    × (map (id_of_found c.args.ids.now c.args.bytes.now c.args.id_size)
    (map (found_code c.args.ids.now c.args.bytes.now c.args.id_size) (map (offset_of c.args.shared.now) c.args.items.now))
    ≡ map (id_at c.args.bytes.now c.args.id_size) (map (offset_of c.args.shared.now) c.args.items.now))
found g c =
    all-found c.args.ids.now c.args.bytes.now c.args.id_size c.requires.few c.requires.small c.requires.no_null
    (map (offset_of c.args.shared.now) c.args.items.now)
    (offsets-within c.args.id_size (length c.args.bytes.now) c.args.shared.now c.args.items.now c.requires.shared c.requires.kept)

pub keep_absent-requires-clause-found : goal.keep_absent-requires-clause-found
keep_absent-requires-clause-found g c =
    let b = (goal.at.keep_absent-requires-clause-found g c).After-find_objects in
    subst (All (IsFound c.args.ids.now c.args.bytes.now c.args.id_size)) (sym (codes g b)) (found g b).0

pub returns-clause-codes : goal.returns-clause-codes
returns-clause-codes g c =
    let b = (goal.at.returns-clause-codes g c).After-find_objects in
    let wanted : map (id_of_found c.args.ids.now c.args.bytes.now c.args.id_size) c.find_objects.new.items ≡ map (id_at c.args.bytes.now c.args.id_size)
    (map (offset_of c.args.shared.now) c.args.items.now) =
    ap (map (id_of_found c.args.ids.now c.args.bytes.now c.args.id_size)) (codes g b) ∙ (found g b).1 in
    subst (λ (xs : List ℕ). AreCodesOf c.args.ids.now xs c.keep_absent.new.items c.in_ok-absent.absent.items) wanted c.in_ok-absent.ensures
