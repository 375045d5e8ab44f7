use Rattle.hd_queries.specs.Moved.{AreMoveRows}
use Rattle.hd_queries.proofs.moved.rows_of_moves.Given as goal

-- the rows of the first pairs are there
abbrev pub invariant-loop-place : goal.invariant-loop-place
invariant-loop-place l = AreMoveRows l.totals l.place l.rows.items
