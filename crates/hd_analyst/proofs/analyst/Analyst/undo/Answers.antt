-- The desk takes the undo of a number, or of the last own edit: two cases of one end, `undo_ends`.
-- `put` only says such an end in other words.
use Rattle.std.proofs.Common.{◌≡◌, ◌∙◌, ℕ, Option, None, Some, Result, sym, ap, subst}
use Rattle.hd_lines.specs.Asking.{undo_asked}
use Rattle.hd_terms.specs.Log.{IsLawful}
use Rattle.hd_state.specs.declared.state.Done.{Done}
use Rattle.hd_analyst.specs.declared.analyst.Analyst.TheInside.{Inside}
use Rattle.hd_analyst.specs.declared.edit.NotDone.{NotDone}
use Rattle.hd_analyst.specs.AnalystInside.{work_of}
use Rattle.hd_analyst.specs.Editing.{EditEnds}
use Rattle.hd_analyst.specs.Work.{Work}
use Rattle.hd_analyst.proofs.EditLemmas.{undo_answer, undo_ends, last_ends, with_desk}
use Rattle.hd_analyst.proofs.analyst.Analyst.undo.Goals as goal
use Rattle.hd_analyst.proofs.analyst.Analyst.undo.Goals.{in-Ok, in-Err, in-Some, in-None}

-- an end that is said in other words
put : (old : Work) (a b : Inside) (n m : Option ℕ) (x y : Result Done NotDone) → a ≡ b → n ≡ m → x ≡ y
    → EditEnds old (work_of b) (undo_asked old.memory.log old.analyst.who m) y → EditEnds old (work_of a) (undo_asked old.memory.log old.analyst.who n) x
put old a b n m x y p q r h =
    subst (λ (i : Inside). EditEnds old (work_of i) (undo_asked old.memory.log old.analyst.who n) x) (sym p)
    (subst (λ (k : Option ℕ). EditEnds old (work_of b) (undo_asked old.memory.log old.analyst.who k) x) (sym q)
    (subst (EditEnds old (work_of b) (undo_asked old.memory.log old.analyst.who m)) (sym r) h))

pub returns : goal.returns
returns g c =
    let is : c.match-ended.result ≡ undo_answer c.match-number.ended = elim c.match-ended.branch [
      | in-Ok w ↦ w.result-is ∙ sym (ap undo_answer w.in-Ok.is)
      | in-Err w ↦ cc (ap undo_answer w.in-Err.is)
    ] in
    elim c.match-number.branch [
      | in-Some w ↦ put c.args.self.now c.match-number.self-inside (with_desk c.self.inside w.undo-ended.new.self) c.args.number
          (Some w.in-Some.number) c.match-ended.result
          (undo_answer w.undo-ended.result) w.self-inside-is w.in-Some.is (is ∙ ap undo_answer w.ended-is)
          (undo_ends c.args.self.now c.self.inside c.board_in-board.result.now w.undo-ended.new.self w.in-Some.number w.undo-ended.result c.self.view_is
          c.board_in-board.ensures c.self.invariant.part
          w.undo-ended.ensures.ok w.undo-ended.ensures.err (subst (λ (i : Inside). IsLawful i.desk.seen) w.self-inside-is c.lawful_seen.ensures))
      | in-None w ↦ put c.args.self.now c.match-number.self-inside (with_desk c.self.inside w.undo_last-ended.new.self) c.args.number None c.match-ended.result
          (undo_answer w.undo_last-ended.result) w.self-inside-is w.in-None.is (is ∙ ap undo_answer w.ended-is)
          (last_ends c.args.self.now c.self.inside c.board_in-board.result.now w.undo_last-ended.new.self w.undo_last-ended.result c.self.view_is
          c.board_in-board.ensures c.self.invariant.part
          w.undo_last-ended.ensures.ok w.undo_last-ended.ensures.err (subst (λ (i : Inside). IsLawful i.desk.seen) w.self-inside-is c.lawful_seen.ensures))
    ]
