-- The item lies in one group, which is written in a version of its own; all other groups are shared.
-- Where the write is refused the groups hold what they held (`refused`).
use Rattle.std.proofs.Common.{◌≡◌, ◌∙◌, ◌/◌, ◌<◌, length, map, set, sym, ap, arith, lit<, is_ok}
use Rattle.std.specs.Arc.{arc_value}
use Rattle.std.proofs.lemmas.List.{length-set}
use Rattle.std.proofs.lemmas.Result.{IfErr-at_err}
use Rattle.hd_pages.specs.Parts.{joined}
use Rattle.hd_pages.proofs.PartLemmas.{either, on_err, kept_within, kept_place_within, kept_same, kept_put, IsFilled-kept_put}
use Rattle.hd_pages.proofs.pages.Pages.with.Goals as goal

pub index_mut-requires : goal.index_mut-requires
index_mut-requires g c =
    omega (
      arith,
      c.self.inside.groups.ok.0,
      kept_within arc_value 262144 c.self.inside.groups.items c.args.i (lit< tt) c.self.invariant.filled
          (rw c.self.view_is c.requires),
    )

-- a refused write: the groups hold what they held
refused : (g : _) (c : goal.After-from_residual g)
    → map arc_value (set c.self.inside.groups.items (c.args.i / 262144) c.make_mut.follows.lender-at-none) ≡ map arc_value c.self.inside.groups.items
refused g c =
    let same : arc_value c.make_mut.follows.lender-at-none ≡ _ = either (IfErr-at_err (λ _. _) c.in_err-group.was c.make_mut.follows.holds-at-none)
    ∙ ap arc_value c.index_mut.ensures.value in
    kept_same arc_value 262144 c.self.inside.groups.items c.args.i (lit< tt) c.self.invariant.filled
    (rw c.self.view_is c.requires) c.index_mut.result.now c.make_mut.follows.lender-at-none same

pub invariant_of-self : goal.invariant_of-self
invariant_of-self g c = rw (refused g c) c.self.invariant

pub returns-in_err-group-clause-err : goal.returns-in_err-group-clause-err
returns-in_err-group-clause-err g c = on_err c.from_residual.result (rw (← c.self.view_is) (ap joined (refused g c)))

pub put-requires : goal.put-requires
put-requires g c =
    let group : c.in_ok-group.group.now ≡ _ = either c.in_ok-group.ensures.value ∙ ap arc_value c.index_mut.ensures.value in
    rw group (kept_place_within arc_value 262144 c.self.inside.groups.items c.args.i (lit< tt) c.self.invariant.filled
    (rw c.self.view_is c.requires) c.index_mut.result.now)

-- a group that refuses it: the groups hold what they held
kept : (g : _) (c : goal.After-from_residual-in_err-put g)
    → map arc_value (set c.self.inside.groups.items (c.args.i / 262144) (c.make_mut.follows.lender c.put.new.self)) ≡ map arc_value c.self.inside.groups.items
kept g c =
    let same : arc_value (c.make_mut.follows.lender c.put.new.self) ≡ _ =
    c.make_mut.follows.holds c.put.new.self (ap is_ok c.in_ok-group.was) ∙ c.in_err-put.ensures.err ∙ either c.in_ok-group.ensures.value
    ∙ ap arc_value c.index_mut.ensures.value in
    kept_same arc_value 262144 c.self.inside.groups.items c.args.i (lit< tt) c.self.invariant.filled (rw c.self.view_is c.requires) c.index_mut.result.now
    (c.make_mut.follows.lender c.put.new.self) same

pub invariant_of-self-in_err-put : goal.invariant_of-self-in_err-put
invariant_of-self-in_err-put g c = rw (kept g c) c.self.invariant

pub returns-in_err-put-clause-err : goal.returns-in_err-put-clause-err
returns-in_err-put-clause-err g c = on_err c.from_residual-in_err-put.result (rw (← c.self.view_is) (ap joined (kept g c)))

pub invariant_of-self-2 : goal.invariant_of-self-2
invariant_of-self-2 g c =
    let groups = c.self.inside.groups.items in
    let lt : c.args.i < length (joined (map arc_value groups)) = rw c.self.view_is c.requires in
    let group : c.in_ok-group.group.now ≡ _ = either c.in_ok-group.ensures.value ∙ ap arc_value c.index_mut.ensures.value in
    let put : arc_value (c.make_mut.follows.lender c.put.new.self) ≡ _ = c.make_mut.follows.holds c.put.new.self (ap is_ok c.in_ok-group.was)
    ∙ rw group at c.in_ok-put.ensures.ok in
    record {
      filled = IsFilled-kept_put arc_value 262144 groups c.args.i (lit< tt) c.self.invariant.filled lt c.index_mut.result.now
          (c.make_mut.follows.lender c.put.new.self) c.args.item put;
      len = c.self.invariant.len
          ∙ sym (ap length (kept_put arc_value 262144 groups c.args.i (lit< tt) c.self.invariant.filled lt c.index_mut.result.now
          (c.make_mut.follows.lender c.put.new.self) c.args.item put) ∙ length-set (joined (map arc_value groups)) c.args.i c.args.item);
    }

pub returns-clause-ok : goal.returns-clause-ok
returns-clause-ok g c =
    let group : c.in_ok-group.group.now ≡ _ = either c.in_ok-group.ensures.value ∙ ap arc_value c.index_mut.ensures.value in
    let put : arc_value (c.make_mut.follows.lender c.put.new.self) ≡ _ = c.make_mut.follows.holds c.put.new.self (ap is_ok c.in_ok-group.was)
    ∙ rw group at c.in_ok-put.ensures.ok in
    rw (← c.self.view_is) (kept_put arc_value 262144 c.self.inside.groups.items c.args.i (lit< tt) c.self.invariant.filled
    (rw c.self.view_is c.requires) c.index_mut.result.now (c.make_mut.follows.lender c.put.new.self) c.args.item put)
