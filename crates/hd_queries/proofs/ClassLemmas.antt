-- The groups that have objects of a strength, where what is kept of the objects is settled.
use Rattle.std.proofs.Common.{◌≡◌, ◌∙◌, ℕ, ◌<◌, List, length, map, get_or, Contains, refl, sym, subst, arith}
use Rattle.std.specs.Prelude.{sum_by}
use Rattle.std.specs.List.{range_with_len}
use Rattle.std.proofs.lemmas.List.{get_or-map, length-map}
use Rattle.std.proofs.lemmas.List.Elements.{recursion_from_All}
use Rattle.hd_terms.specs.declared.ClassRow.{ClassRow}
use Rattle.hd_terms.specs.declared.Group.{Group}
use Rattle.hd_terms.specs.declared.Strength.{Strength}
use Rattle.hd_terms.specs.declared.Event.{Event}
use Rattle.hd_terms.specs.Dump.{Dump}
use Rattle.hd_terms.specs.Listed.{AreClassRows, HasMember}
use Rattle.hd_terms.specs.EditedDump.{standing}
use Rattle.hd_terms.specs.Paths.{Standing}
use Rattle.hd_terms.specs.Settled.{Reached, Settled, reached_at}
use Rattle.hd_terms.specs.Strengths.{HasStrength}
use Rattle.hd_terms.specs.Totals.{Decides, IsMember, IsGroupTotal, AreGroupCounts}
use Rattle.hd_totals.specs.Members.{bytes_if, is_member, member_count, InRange}
use Rattle.hd_totals.specs.Rows.{row_group, AreMemberRows, IsMemberRow}
use Rattle.hd_totals.specs.Totals.{Totals, AreTotals, total_in}
use Rattle.hd_queries.proofs.ListedLemmas.{decides-member}
use Rattle.hd_queries.proofs.TotalLemmas.{is-kept}

module _ (gives : (g : Standing) (ks : List Reached) → Settled g ks → (o : ℕ) → HasStrength g o (reached_at ks o).strength)
    (one : (g : Standing) (o : ℕ) (a b : Strength) → HasStrength g o a → HasStrength g o b → a ≡ b)
    (dump : Dump) (log : List Event) (ks : List Reached) (settled : Settled (standing dump log) ks) where
  decides : (s : Strength) (g : Group) → Decides dump (IsMember dump log g s) (is_member dump ks g s)
  decides s g = decides-member gives one dump log ks settled g s

  -- the total of a group and a strength
  pub group-total : (t : Totals) → AreTotals dump ks t → (group : Group) (s : Strength) → InRange group
      → IsGroupTotal dump log group s (total_in t group s).count (total_in t group s).bytes
  group-total t h group s range = record {
    has = is_member dump ks group s;
    decides = decides s group;
    count_is = h.counts group s range;
    bytes_is = h.bytes group s range;
  }

  -- how many objects each group has of each strength
  pub group-counts : AreGroupCounts dump log (member_count dump ks)
  group-counts group s = (
    sum_by (bytes_if dump (is_member dump ks group s)) (range_with_len 0 (length dump.objects)),
    record { has = is_member dump ks group s; decides = decides s group; count_is = refl; bytes_is = refl },
  )

  -- the rows of groups
  module _ (s : Strength) (rows : List ClassRow) (h : AreMemberRows dump ks s rows) where
    row-total : (row : ClassRow) → IsMemberRow dump ks s row → IsGroupTotal dump log row.group s row.count row.bytes
    row-total row r = record { has = is_member dump ks row.group s; decides = decides s row.group; count_is = r.count_is; bytes_is = r.bytes_is }

    has-member : (g : Group) → Contains (map row_group rows) g → HasMember dump log s g
    has-member g (k, lt, is) =
        let within : k < length rows = omega (arith, lt, length-map rows row_group) in
        let d : ClassRow = record { group = g; count = 0; bytes = 0 } in
        let same : (get_or rows k d).group ≡ g = sym (get_or-map row_group rows k d g within) ∙ is in
        let at = (h.each k d within).some in
        (at.0, at.1, subst (λ (a : Group). IsMember dump log a s at.0) same ((decides s (get_or rows k d).group at.0 at.1).0 at.2))

    is-listed : (g : Group) → HasMember dump log s g → Contains (map row_group rows) g
    is-listed g (o, lt, member) = subst (λ (a : Group). Contains (map row_group rows) a) member.0
        (h.all o lt (is-kept one dump log ks (gives (standing dump log) ks settled) s o member.1))

    pub class-rows : AreClassRows dump log s rows
    class-rows = record {
      in_order = h.in_order;
      totals = recursion_from_All (λ (row : ClassRow). IsGroupTotal dump log row.group s row.count row.bytes) rows
          (λ j d lt. row-total (get_or rows j d) (h.each j d lt));
      groups = λ g. (has-member g, is-listed g);
    }
