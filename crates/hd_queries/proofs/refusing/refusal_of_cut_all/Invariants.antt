use Rattle.std.proofs.Common.{◌≡◌, false, take}
use Rattle.std.specs.List.{list_any}
use Rattle.hd_terms.specs.Refusals.{has_field, is_counted_under}
use Rattle.hd_queries.proofs.refusing.refusal_of_cut_all.Given as goal

-- whether the first objects have one of the class; none of them has the field
abbrev pub invariant-loop-o : goal.invariant-loop-o
invariant-loop-o l = (l.has_class ≡ list_any (is_counted_under l.class) (take l.o l.graph.objects))
    × (list_any (has_field l.class l.field) (take l.o l.graph.objects) ≡ false)
