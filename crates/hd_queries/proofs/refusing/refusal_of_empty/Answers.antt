use Rattle.std.proofs.Common.{◌≡◌, ◌∙◌, ℕ, Bool, true, false, not, Option, Some, None, is_some, is_none, refl, sym, ap}
use Rattle.hd_terms.specs.Dump.{SlotEntry}
use Rattle.hd_queries.proofs.RefusalLemmas.{null, absent, refers}
use Rattle.hd_queries.proofs.refusing.refusal_of_empty.Goals as goal
use Rattle.hd_queries.proofs.refusing.refusal_of_empty.Goals.{then-read-eq0-via-then-read-eq0, then-read-eq0-via-else-read-eq0+then-is_none}

-- nothing is there where there isn't something
none_is : (o : Option ℕ) (b : Bool) → is_some o ≡ not b → is_none o ≡ b
none_is None true h = refl
none_is None false h = absurd cc
none_is (Some x) true h = absurd cc
none_is (Some x) false h = refl

pub returns-then-read-eq0 : goal.returns-then-read-eq0
returns-then-read-eq0 c =
    let s : SlotEntry = record { slot = c.slots-read.result.slot; kind = c.slots-read.result.kind; id = c.slots-read.result.id } in
    elim c.then-read-eq0.branch [
      | then-read-eq0-via-then-read-eq0 w ↦ (s, c.slots-read.ensures.entry, sym (null c.args.graph.now s w.if-read-eq0.true))
      | then-read-eq0-via-else-read-eq0+then-is_none w ↦ (
        s,
        c.slots-read.ensures.entry,
        sym (absent c.args.graph.now s w.if-read-eq0.false
            (ap is_none (sym c.slots-read.ensures.target) ∙ none_is c.slots-read.result.target w.is_none.result w.is_none.ensures ∙ w.if-is_none.true)),
      )
    ]

pub returns : goal.returns
returns c =
    let s : SlotEntry = record { slot = c.slots-read.result.slot; kind = c.slots-read.result.kind; id = c.slots-read.result.id } in (
      s,
      c.slots-read.ensures.entry,
      sym (refers c.args.graph.now s c.if-read-eq0.false
          (ap is_none (sym c.slots-read.ensures.target) ∙ none_is c.slots-read.result.target c.is_none.result c.is_none.ensures ∙ c.if-is_none.false)),
    )
