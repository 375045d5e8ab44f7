use Rattle.std.proofs.Common.{sum, take}
use Rattle.hd_parts.specs.Parts.{LeadTo}
use Rattle.hd_parts.proofs.part_index.parts_at.Given as goal

abbrev pub invariant-loop-part : goal.invariant-loop-part
invariant-loop-part l = LeadTo l.part (sum (take l.part l.lens)) l.lens l.at.items
