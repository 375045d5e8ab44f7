use Rattle.std.proofs.Common.{◌≡◌, ◌∙◌, ◌≤◌, List, length, flat_map, sym, ap, subst, arith}
use Rattle.hd_terms.specs.EditedDump.{standing}
use Rattle.hd_terms.specs.Settled.{Reached, Settled, reached_at}
use Rattle.hd_strength.proofs.Joining.{all-seen, lists-joined}
use Rattle.hd_strength.proofs.scratch.from_removed.Goals as goal
use Rattle.hd_strength.proofs.scratch.from_removed.Goals.{In_ok-lists}

-- the lists of the parts, one behind the other, are what is kept of all objects
joined : (g : _) (c : In_ok-lists g) → flat_map (λ (part : List Reached). part) c.in_ok-lists.lists.items ≡ c.in_ok-parts.ensures.kept
joined g c =
    ap (λ (lists : List (List Reached)). flat_map (λ (part : List Reached). part) lists) c.in_ok-lists.ensures
    ∙ lists-joined c.in_ok-parts.field-0.parts.items
    ∙ c.in_ok-parts.ensures.found
    ∙ all-seen c.in_ok-parts.ensures.kept

pub lists_of-requires-clause-few : goal.lists_of-requires-clause-few
lists_of-requires-clause-few g c =
    let h = c.in_ok-parts.ensures in
    omega (arith, ap (λ (ks : List Reached). length ks) (h.found ∙ all-seen h.kept), h.holds.count, h.holds.few)

pub of_parts-requires-clause-few : goal.of_parts-requires-clause-few
of_parts-requires-clause-few g c κs within =
    omega (arith, ap (λ (ks : List Reached). length ks) (joined g c), c.in_ok-parts.ensures.holds.count, c.in_ok-parts.ensures.holds.few)

-- what is kept of all objects
kept : (g : _) (c : goal.In_ok-supports g) → c.in_ok-supports.supports ≡ c.in_ok-parts.ensures.kept
kept g c = c.in_ok-supports.ensures ∙ joined g (goal.at.returns-clause-count g c).In_ok-lists

pub returns-clause-count : goal.returns-clause-count
returns-clause-count g c = ap (λ (ks : List Reached). length ks) (kept g c) ∙ c.in_ok-parts.ensures.holds.count

pub returns-clause-settled : goal.returns-clause-settled
returns-clause-settled g c = subst (Settled (standing c.args.graph.now c.args.front.now)) (sym (kept g c)) c.in_ok-parts.ensures.holds.settled

pub returns-clause-stamps : goal.returns-clause-stamps
returns-clause-stamps g c = λ o.
    subst (λ (ks : List Reached). (reached_at ks o).stamp ≤ length c.args.graph.now.objects) (sym (kept g c)) (c.in_ok-parts.ensures.holds.stamps o)
