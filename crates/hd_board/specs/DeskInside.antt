-- What a desk keeps, and what holds of it.
-- Source: this project.
use Rattle.hd_terms.specs.Log.{begins_with}
use Rattle.hd_board.specs.declared.desk.Desk.TheInside.{Inside}
use Rattle.hd_board.specs.Replicas.{Replica}

-- the desk as an analyst's replica
abbrev pub replica_of : Inside → Replica
replica_of d = record { who = d.who; dump = d.state.dump; seen = d.seen; front = d.state.log }

-- the state has come to a beginning of what was seen
abbrev pub IsDesk : Inside → Type 0
IsDesk d = begins_with d.seen d.state.log
