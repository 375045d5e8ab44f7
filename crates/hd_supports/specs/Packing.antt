-- What is kept of an object, packed: each strength, support and stamp has one form in which it is stored.
-- Source: this project.
use Rattle.std.specs.Prelude.{◌≡◌, ℕ, ◌+◌, ◌*◌, ◌/◌, ◌%◌, ◌^◌}
use Rattle.hd_terms.specs.declared.Strength.{Strength}
use Rattle.hd_terms.specs.declared.Support.{Support}
use Rattle.hd_terms.specs.declared.Support.TheVariants as supports
use Rattle.hd_terms.specs.Settled.{Reached}
use Rattle.hd_terms.specs.SlotKinds.{slot_parts}
use Rattle.hd_supports.specs.declared.packed_reached.How.TheVariants as hows
use Rattle.hd_supports.specs.declared.packed_reached.PackedReached.TheInside.{Inside}
use Rattle.hd_supports.specs.PackedReached.{edge_from, support_by}

-- what is stored, read
abbrev pub reached_of : Inside → Reached
reached_of h = record { strength = h.strength; support = support_by h.how h.high h.low; stamp = h.stamp_high * 2 ^ 32 + h.stamp_low }

-- the form in which it is stored. A field that says nothing is 0
abbrev pub packed_by : Strength → Support → (stamp : ℕ) → Inside
packed_by strength supports.Nothing stamp = record {
  stamp_low = stamp % 2 ^ 32;
  stamp_high = stamp / 2 ^ 32;
  how = hows.Nothing;
  strength = strength;
  low = 0;
  high = 0;
}
packed_by strength (supports.Root n) stamp = record {
  stamp_low = stamp % 2 ^ 32;
  stamp_high = stamp / 2 ^ 32;
  how = hows.Root;
  strength = strength;
  low =
      n % 2 ^ 32;
  high = n / 2 ^ 32;
}
packed_by strength (supports.Edge source slot) stamp = record {
  stamp_low = stamp % 2 ^ 32;
  stamp_high = stamp / 2 ^ 32;
  how = edge_from (slot_parts slot).0;
  strength = strength;
  low = (slot_parts slot).1;
  high = source;
}

abbrev pub packed_of : Reached → Inside
packed_of k = packed_by k.strength k.support k.stamp

-- the form is that of what is read
pub record IsPacked (h : Inside) : Type 0 where
  pub same : packed_of (reached_of h) ≡ h
