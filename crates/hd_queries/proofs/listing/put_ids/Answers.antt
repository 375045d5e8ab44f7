use Rattle.std.proofs.Common.{◌≡◌, ◌∙◌, ℕ, [], ◌∷◌, ◌++◌, sym, subst, arith}
use Rattle.hd_terms.specs.Dump.{object_at}
use Rattle.hd_queries.specs.Gathered.{AreGathered}
use Rattle.hd_queries.specs.Listed.{is_listed, AreGatheredBefore}
use Rattle.hd_queries.specs.declared.gathered.Gathered.{Gathered}
use Rattle.hd_queries.proofs.ListedLemmas.{ids-with, ids-without}
use Rattle.hd_queries.proofs.listing.put_ids.Goals as goal
use Rattle.hd_queries.proofs.listing.put_ids.Goals.{then-has+in_ok-put, else-has}

pub loop-o-preserved : goal.loop-o-preserved
loop-o-preserved c most before =
    let dump = c.args.graph.now in
    let test = is_listed dump c.args.listed in
    let o = c.loop-o.o in
    let h = c.loop-o.invariant most before in
    elim c.if-has.branch [
      | then-has+in_ok-put w ↦
          let put : AreGathered most (h.0 ++ (object_at dump o).id ∷ []) c.if-has.ids =
          subst (λ (ids : Gathered). AreGathered most (h.0 ++ (object_at dump o).id ∷ []) ids) (sym w.ids-is)
          (subst (λ (id : ℕ). AreGathered most (h.0 ++ id ∷ []) w.put.new.self) w.id_of.ensures (w.in_ok-put.ensures most h.0 h.2)) in
          (h.0 ++ (object_at dump o).id ∷ [], ids-with dump test o h.0 h.1 (sym c.has.ensures ∙ w.if-has.true), put)
      | else-has w ↦
          (h.0, ids-without dump test o h.0 h.1 (sym c.has.ensures ∙ w.if-has.false), subst (λ (ids : Gathered). AreGathered most h.0 ids) (sym w.ids-is) h.2)
    ]

pub returns : goal.returns
returns c most before =
    let dump = c.args.graph.now in
    let test = is_listed dump c.args.listed in
    let end : c.loop-o.o ≡ c.args.end = omega arith in
    subst (λ (k : ℕ). AreGatheredBefore dump test most k c.loop-o.ids) end (c.loop-o.invariant most before)
