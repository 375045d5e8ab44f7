-- What a view stands for.
-- Source: this project.
use Rattle.hd_strength.specs.Removed.{IsRemovedBy}
use Rattle.hd_reverse.specs.Reverse.{IsReverseOf}
use Rattle.hd_view.specs.declared.view.View.TheInside.{Inside}
use Rattle.hd_view.specs.Added.{IsAddedBy}
use Rattle.hd_view.specs.Finding.{IsCursor}
use Rattle.hd_view.specs.Viewed.{Viewed}

-- the graph's dump under the log
abbrev pub viewed_of : Inside → Viewed
viewed_of a = record { dump = a.edited.graph.now; log = a.edited.front.now; looks = a.looks }

-- what holds of what is kept: it all is of this dump and this log
pub record IsView (a : Inside) : Type 0 where
  pub reverse : IsReverseOf a.edited.graph.now a.reverse.now
  pub removed : IsRemovedBy a.edited.graph.now a.edited.front.now a.edited.removed.now
  pub added : IsAddedBy a.edited.graph.now a.edited.front.now a.added.now
  pub cursor : IsCursor a.edited.graph.now a.cursor
