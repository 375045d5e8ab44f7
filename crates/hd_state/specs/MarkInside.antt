-- What a mark keeps, and what holds of it.
-- Source: this project.
use Rattle.std.specs.Arc.{arc_value}
use Rattle.hd_state.specs.declared.mark.Mark.TheInside.{Inside}
use Rattle.hd_terms.specs.Kept.{AreKept}
use Rattle.hd_totals.specs.LastChanges.{AreLastChanges}
use Rattle.hd_state.specs.Situation.{Situation}

-- the dump of the graph, under the log that is kept
abbrev pub marked_situation : Inside → Situation
marked_situation a = record { dump = arc_value a.graph; log = a.front }

-- what is kept of the objects is settled for what stands under the log, and was so since the last changes
pub record IsMark (a : Inside) : Type 0 where
  pub kept : AreKept (marked_situation a).dump (marked_situation a).log (arc_value a.supports)
  pub changes : AreLastChanges (marked_situation a).dump (marked_situation a).log (arc_value a.supports) (arc_value a.last_changes)
