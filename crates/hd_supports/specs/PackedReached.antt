-- What is kept of an object, in the form in which it is stored.
-- Source: this project.
use Rattle.std.specs.Prelude.{Option, Some, None, ℕ, ◌+◌, ◌*◌, ◌^◌}
use Rattle.hd_terms.specs.declared.slots.SlotKind.{SlotKind}
use Rattle.hd_terms.specs.declared.slots.SlotKind.TheVariants as kinds
use Rattle.hd_terms.specs.declared.Strength.TheVariants as strengths
use Rattle.hd_terms.specs.declared.Support.{Support}
use Rattle.hd_terms.specs.declared.Support.TheVariants as supports
use Rattle.hd_terms.specs.Settled.{Reached}
use Rattle.hd_terms.specs.SlotKinds.{slot_of}
use Rattle.hd_supports.specs.declared.packed_reached.How.{How}
use Rattle.hd_supports.specs.declared.packed_reached.How.TheVariants as hows

-- an edge from a slot of a kind
abbrev pub edge_from : SlotKind → How
edge_from kinds.Field = hows.Field
edge_from kinds.Element = hows.Element
edge_from kinds.Static = hows.Static
edge_from kinds.Const = hows.Const
edge_from kinds.OfClass = hows.OfClass
edge_from kinds.Super = hows.Super
edge_from kinds.Loader = hows.Loader
edge_from kinds.Signers = hows.Signers
edge_from kinds.Domain = hows.Domain

-- the kind of the slot, of an edge
abbrev pub kind_of : How → Option SlotKind
kind_of hows.Nothing = None
kind_of hows.Root = None
kind_of hows.Field = Some kinds.Field
kind_of hows.Element = Some kinds.Element
kind_of hows.Static = Some kinds.Static
kind_of hows.Const = Some kinds.Const
kind_of hows.OfClass = Some kinds.OfClass
kind_of hows.Super = Some kinds.Super
kind_of hows.Loader = Some kinds.Loader
kind_of hows.Signers = Some kinds.Signers
kind_of hows.Domain = Some kinds.Domain

-- what an object owes its strength to, by two numbers of 32 bits: of an edge the source and the number of its slot, of a root the halves of its number
abbrev pub support_by : How → (high : ℕ) → (low : ℕ) → Support
support_by hows.Nothing high low = supports.Nothing
support_by hows.Root high low = supports.Root (high * 2 ^ 32 + low)
support_by hows.Field high low = supports.Edge high (slot_of kinds.Field low)
support_by hows.Element high low = supports.Edge high (slot_of kinds.Element low)
support_by hows.Static high low = supports.Edge high (slot_of kinds.Static low)
support_by hows.Const high low = supports.Edge high (slot_of kinds.Const low)
support_by hows.OfClass high low = supports.Edge high (slot_of kinds.OfClass low)
support_by hows.Super high low = supports.Edge high (slot_of kinds.Super low)
support_by hows.Loader high low = supports.Edge high (slot_of kinds.Loader low)
support_by hows.Signers high low = supports.Edge high (slot_of kinds.Signers low)
support_by hows.Domain high low = supports.Edge high (slot_of kinds.Domain low)

-- what is kept of an object that the root of a number holds
abbrev pub reached_by_root : ℕ → Reached
reached_by_root n = record { strength = strengths.Strong; support = supports.Root n; stamp = 0 }
