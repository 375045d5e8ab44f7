-- The full groups of this list are followed by new groups of what it has behind them and of the other list.
-- What all groups hold is both lists, one behind the other.
use Rattle.std.proofs.Common.{◌≡◌, ◌∙◌, ◌*◌, ◌/◌, ◌≤◌, ◌++◌, length, map, take, drop, ap, arith, lit<}
use Rattle.std.specs.Arc.{arc_value}
use Rattle.hd_pages.specs.Parts.{joined}
use Rattle.hd_pages.proofs.PartLemmas.{IsFilled_behind, held_behind, length_behind}
use Rattle.hd_pages.proofs.pages.Pages.append.Goals as goal
use Rattle.hd_pages.proofs.pages.Pages.append.Goals.{In_ok-append}

-- full groups have no more items than the list
within : (g : _) (c : In_ok-append g) → c.self.inside.len / 262144 * 262144 ≤ length (joined (map arc_value c.self.inside.groups.items))
within g c = omega (arith, c.self.invariant.len)

-- the groups are the full ones of this list, and those of the rest
groups : (g : _) (c : In_ok-append g) → c.append.new.self.items ≡ take (c.self.inside.len / 262144) c.self.inside.groups.items ++ c.rest.inside.groups.items
groups g c = c.in_ok-append.ensures.items ∙ ap (λ gs. gs ++ c.rest.inside.groups.items) c.truncate.ensures.items

-- the rest is what this list has behind its full groups, and the other list
rest : (g : _) (c : In_ok-append g) → joined (map arc_value c.rest.inside.groups.items) ≡ drop (c.self.inside.len / 262144 * 262144)
    (joined (map arc_value c.self.inside.groups.items)) ++ c.args.other
rest g c = rw (c.self.invariant.len, c.self.view_is) (c.rest.view_is ∙ c.in_ok-rest.ensures)

pub invariant_of-result : goal.invariant_of-result
invariant_of-result g c =
    let full = c.self.inside.len / 262144 in
    let ks = c.self.inside.groups.items in
    let more = c.rest.inside.groups.items in
    let vs = c.append.new.self.items in
    record {
      filled = IsFilled_behind arc_value 262144 full ks more vs (lit< tt) c.self.invariant.filled (within g c) (groups g c) c.rest.invariant.filled;
      len = omega (
        arith,
        c.rest.invariant.len,
        length_behind arc_value 262144 full ks more vs (lit< tt) c.self.invariant.filled (within g c)
            (groups g c) c.args.other (rest g c),
      );
    }

pub returns : goal.returns
returns g c =
    let at = (goal.at.returns g c).In_ok-append in
    rw (← c.self.view_is)
    (held_behind arc_value 262144 (c.self.inside.len / 262144) c.self.inside.groups.items c.rest.inside.groups.items c.append.new.self.items
    (lit< tt) c.self.invariant.filled (within g at) (groups g at) c.args.other (rest g at))
