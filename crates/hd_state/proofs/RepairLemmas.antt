-- What one event takes away, or gives, makes of settled supports what a repair takes.
use Rattle.std.proofs.Common.{◌≡◌, ℕ, ◌+◌, ◌*◌, ◌^◌, ◌<◌, ◌≤◌, Bool, true, false, List, refl, arith}
use Rattle.std.proofs.Math.Nat.{mul-le-mul_right}
use Rattle.hd_terms.specs.declared.Edit.{Edit}
use Rattle.hd_terms.specs.declared.Event.{Event}
use Rattle.hd_terms.specs.Dump.{Dump}
use Rattle.hd_terms.specs.EditedDump.{standing}
use Rattle.hd_terms.specs.Regions.{Holding, IsWithout, WasSettledWith, WasSettledWithout}
use Rattle.hd_terms.specs.Settled.{Reached, Settled}
use Rattle.hd_terms.specs.Lost.{AreLost}
use Rattle.hd_view.specs.OneEdit.{LosesBy}
use Rattle.hd_view.proofs.OneEditLemmas.{StandsWithin, loses_alone}
use Rattle.hd_state.specs.Moves.{Moves}

-- one edited dump is the other without what is lost
without : (dump : Dump) (more less : List Event) (k : ℕ) (edit : Edit) (lost : List Holding) → LosesBy more less k edit → AreLost dump more less lost
    → IsWithout (standing dump less) (standing dump more) lost
without dump more less k edit lost by h =
    let within : StandsWithin dump less more = loses_alone dump more less k edit by in
    record {
      mode = refl;
      roots_within = within.roots;
      edges_within = within.edges;
      roots = h.roots;
      edges = h.edges;
    }

-- supports that were settled before a loss
pub before_loss : (dump : Dump) (before after : List Event) (k : ℕ) (edit : Edit) (lost : List Holding) (ks : List Reached) → LosesBy before after k edit
    → AreLost dump before after lost → Settled (standing dump before) ks → WasSettledWith (standing dump after) lost ks
before_loss dump before after k edit lost ks by h settled =
    record { before = standing dump before; without = without dump before after k edit lost by h; settled = settled }

-- and before a gain
pub before_gain : (dump : Dump) (before after : List Event) (k : ℕ) (edit : Edit) (gained : List Holding) (ks : List Reached) → LosesBy after before k edit
    → AreLost dump after before gained → Settled (standing dump before) ks → WasSettledWithout (standing dump after) gained ks
before_gain dump before after k edit gained ks by h settled =
    record { before = standing dump before; without = without dump after before k edit gained by h; settled = settled }

-- what an event moves, by whether it loses
pub moves_loss : (before after : List Event) (loses : Bool) (k : ℕ) (edit : Edit) → Moves before after loses k edit → loses ≡ true → LosesBy before after k edit
moves_loss before after true k edit moves is = moves
moves_loss before after false k edit moves is = absurd cc

pub moves_gain : (before after : List Event) (loses : Bool) (k : ℕ) (edit : Edit) → Moves before after loses k edit → loses ≡ false
    → LosesBy after before k edit
moves_gain before after true k edit moves is = absurd cc
moves_gain before after false k edit moves is = moves

-- each event raises stamps by no more than the number of objects, so all of a lawful log stay small
pub stamps_small : (events objects : ℕ) → events ≤ 4096 → objects < 2 ^ 32 → (events + 1) * objects ≤ 2 ^ 47
stamps_small events objects few small = omega (arith, mul-le-mul_right objects (let le : events + 1 ≤ 4097 = omega arith in le))

-- one event more
pub one_more : (events objects : ℕ) → (events + 1) * objects + objects ≡ (events + 2) * objects
one_more events objects = grind arith
