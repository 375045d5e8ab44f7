-- One case for each query: its text is the answer that the definition gives, printed (`answers_as`).
-- Queries on an object or a mark also have the case that there is none (`about_none`, `about_no_mark`).
use Rattle.std.proofs.Common.{◌≡◌, ℕ, Option, Some, Ok, map, refl, ap}
use Rattle.std.specs.String.{string_bytes}
use Rattle.hd_terms.specs.Edges.{index_of}
use Rattle.hd_terms.specs.RootRows.{root_rows}
use Rattle.hd_lines.specs.declared.commands.Query.TheVariants as queries
use Rattle.hd_lines.specs.Replies.{Answer, AnswersChain, AnswersFell, AnswersFreed, AnswersMoved, AnswersObject, into_answer, log_lines, root_line}
use Rattle.hd_lines.specs.Replies.{slots_answer}
use Rattle.hd_analyst.proofs.QueryLemmas.{about_mark, about_no_mark, about_none, about_object, answers_as, of_mark}
use Rattle.hd_analyst.proofs.query.answer_query.Goals as goal
use Rattle.hd_analyst.proofs.query.answer_query.Goals.{in-Chain+in-Some+in_ok-text-in-Some, in-Slots+in-Some-find_object+in_ok-text-in-Some-find_object}
use Rattle.hd_analyst.proofs.query.answer_query.Goals.{in-Into+in-Some-find_object-2+in_ok-text-in-Some-find_object-2}
use Rattle.hd_analyst.proofs.query.answer_query.Goals.{in-Object+in-Some-find_object-3+in_ok-text-in-Some-find_object-3, in-Roots+in_ok-text-in-Roots}
use Rattle.hd_analyst.proofs.query.answer_query.Goals.{in-Classes+in_ok-text-in-Classes, in-Members+in_ok-text-in-Members}
use Rattle.hd_analyst.proofs.query.answer_query.Goals.{in-Fell+in-Some-find_mark+in_ok-text-in-Some-find_mark, in-Events+in_ok-text-in-Events}
use Rattle.hd_analyst.proofs.query.answer_query.Goals.{in-Top+in_ok-text-in-Top, in-Freed+in-Some-find_mark-2+in_ok-text-in-Some-find_mark-2}
use Rattle.hd_analyst.proofs.query.answer_query.Goals.{in-Moved+in-Some-find_mark-3+in_ok-text-in-Some-find_mark-3, in-Find+in_ok-text-in-Find}

pub returns-in-None : goal.returns-in-None
returns-in-None c =
    let state = c.args.state.now in
    let showing = c.args.showing in
    answers_as state c.args.marks.now showing c.args.question.text.now c.args.question.query
    (queries.Chain c.in-Chain.id) c.find_object.new.out c.find_object.new.out c.in-Chain.is refl
    (λ home. about_none (AnswersChain state.dump showing.names state.log) showing.most
    (index_of state.dump.objects c.in-Chain.id) c.find_object.new.out refl c.in-None.ensures.0 c.in-None.ensures.1)

pub returns-in-None-find_object : goal.returns-in-None-find_object
returns-in-None-find_object c =
    let state = c.args.state.now in
    let showing = c.args.showing in
    answers_as state c.args.marks.now showing c.args.question.text.now c.args.question.query
    (queries.Slots c.in-Slots.id) c.find_object-in-Slots.new.out c.find_object-in-Slots.new.out c.in-Slots.is refl
    (λ home. about_none (λ (o : Option ℕ) (answer : Answer). answer ≡ slots_answer state.dump showing.names state.log o) showing.most
    (index_of state.dump.objects c.in-Slots.id) c.find_object-in-Slots.new.out refl c.in-None-find_object.ensures.0 c.in-None-find_object.ensures.1)

pub returns-in-None-find_object-2 : goal.returns-in-None-find_object-2
returns-in-None-find_object-2 c =
    let state = c.args.state.now in
    let showing = c.args.showing in
    answers_as state c.args.marks.now showing c.args.question.text.now c.args.question.query
    (queries.Into c.in-Into.id) c.find_object-in-Into.new.out c.find_object-in-Into.new.out c.in-Into.is refl
    (λ home. about_none (λ (o : Option ℕ) (answer : Answer). answer ≡ into_answer state.dump showing.names state.log o) showing.most
    (index_of state.dump.objects c.in-Into.id) c.find_object-in-Into.new.out refl c.in-None-find_object-2.ensures.0 c.in-None-find_object-2.ensures.1)

pub returns-in-None-find_object-3 : goal.returns-in-None-find_object-3
returns-in-None-find_object-3 c =
    let state = c.args.state.now in
    let showing = c.args.showing in
    answers_as state c.args.marks.now showing c.args.question.text.now c.args.question.query
    (queries.Object c.in-Object.id) c.find_object-in-Object.new.out c.find_object-in-Object.new.out c.in-Object.is refl
    (λ home. about_none (AnswersObject state.dump state.log) showing.most
    (index_of state.dump.objects c.in-Object.id) c.find_object-in-Object.new.out refl c.in-None-find_object-3.ensures.0 c.in-None-find_object-3.ensures.1)

pub fell_text-requires : goal.fell_text-requires
fell_text-requires c = of_mark c.args.marks.now c.args.state.now.dump c.in-Fell.number c.in-Some-find_mark.mark.now c.requires c.in-Some-find_mark.ensures

pub returns-in-None-find_mark : goal.returns-in-None-find_mark
returns-in-None-find_mark c =
    let state = c.args.state.now in
    let showing = c.args.showing in
    answers_as state c.args.marks.now showing c.args.question.text.now c.args.question.query
    (queries.Fell c.in-Fell.number) c.find_mark.new.out c.find_mark.new.out c.in-Fell.is refl
    (λ home. about_no_mark (AnswersFell state.dump showing.names state.log) showing.most c.args.marks.now c.in-Fell.number c.find_mark.new.out refl
    c.in-None-find_mark.ensures.0 c.in-None-find_mark.ensures.1)

pub freed_text-requires : goal.freed_text-requires
freed_text-requires c = of_mark c.args.marks.now c.args.state.now.dump c.in-Freed.number c.in-Some-find_mark-2.mark.now c.requires c.in-Some-find_mark-2.ensures

pub returns-in-None-find_mark-2 : goal.returns-in-None-find_mark-2
returns-in-None-find_mark-2 c =
    let state = c.args.state.now in
    let showing = c.args.showing in
    let out = c.find_mark-in-Freed.new.out in
    answers_as state c.args.marks.now showing c.args.question.text.now c.args.question.query (queries.Freed c.in-Freed.number) out out c.in-Freed.is refl
    (λ home. about_no_mark (AnswersFreed state.dump state.log) showing.most c.args.marks.now c.in-Freed.number out refl c.in-None-find_mark-2.ensures.0
    c.in-None-find_mark-2.ensures.1)

pub moved_text-requires : goal.moved_text-requires
moved_text-requires c = of_mark c.args.marks.now c.args.state.now.dump c.in-Moved.number c.in-Some-find_mark-3.mark.now c.requires c.in-Some-find_mark-3.ensures

pub returns-in-None-find_mark-3 : goal.returns-in-None-find_mark-3
returns-in-None-find_mark-3 c =
    let state = c.args.state.now in
    let showing = c.args.showing in
    let out = c.find_mark-in-Moved.new.out in
    answers_as state c.args.marks.now showing c.args.question.text.now c.args.question.query (queries.Moved c.in-Moved.number) out out c.in-Moved.is refl
    (λ home. about_no_mark (AnswersMoved state.dump state.log) showing.most c.args.marks.now c.in-Moved.number out refl c.in-None-find_mark-3.ensures.0
    c.in-None-find_mark-3.ensures.1)

pub returns : goal.returns
returns c =
    let state = c.args.state.now in
    let marks = c.args.marks.now in
    let showing = c.args.showing in
    let text = string_bytes c.match-question.text in
    elim c.match-question.branch [
      | in-Chain+in-Some+in_ok-text-in-Some w ↦ answers_as state marks showing c.args.question.text.now c.args.question.query
          (queries.Chain w.in-Chain.id) text _ w.in-Chain.is (ap string_bytes w.text-is)
          (λ home. about_object (AnswersChain state.dump showing.names state.log) showing.most (index_of state.dump.objects w.in-Chain.id) w.in-Some.object
          (string_bytes w.in_ok-text-in-Some.text) w.in-Some.ensures w.in_ok-text-in-Some.ensures)
      | in-Slots+in-Some-find_object+in_ok-text-in-Some-find_object w ↦ answers_as state marks showing c.args.question.text.now c.args.question.query
          (queries.Slots w.in-Slots.id) text _ w.in-Slots.is (ap string_bytes w.text-is)
          (λ home. about_object (λ (o : Option ℕ) (answer : Answer). answer ≡ slots_answer state.dump showing.names state.log o) showing.most
          (index_of state.dump.objects w.in-Slots.id) w.in-Some-find_object.object
          (string_bytes w.in_ok-text-in-Some-find_object.text) w.in-Some-find_object.ensures
          (slots_answer state.dump showing.names state.log (Some w.in-Some-find_object.object), refl, w.in_ok-text-in-Some-find_object.ensures))
      | in-Into+in-Some-find_object-2+in_ok-text-in-Some-find_object-2 w ↦ answers_as state marks showing c.args.question.text.now c.args.question.query
          (queries.Into w.in-Into.id) text _ w.in-Into.is (ap string_bytes w.text-is)
          (λ home. about_object (λ (o : Option ℕ) (answer : Answer). answer ≡ into_answer state.dump showing.names state.log o) showing.most
          (index_of state.dump.objects w.in-Into.id) w.in-Some-find_object-2.object
          (string_bytes w.in_ok-text-in-Some-find_object-2.text) w.in-Some-find_object-2.ensures
          (into_answer state.dump showing.names state.log (Some w.in-Some-find_object-2.object), refl, w.in_ok-text-in-Some-find_object-2.ensures))
      | in-Object+in-Some-find_object-3+in_ok-text-in-Some-find_object-3 w ↦ answers_as state marks showing c.args.question.text.now c.args.question.query
          (queries.Object w.in-Object.id) text _ w.in-Object.is (ap string_bytes w.text-is)
          (λ home. about_object (AnswersObject state.dump state.log) showing.most (index_of state.dump.objects w.in-Object.id) w.in-Some-find_object-3.object
          (string_bytes w.in_ok-text-in-Some-find_object-3.text) w.in-Some-find_object-3.ensures w.in_ok-text-in-Some-find_object-3.ensures)
      | in-Roots+in_ok-text-in-Roots w ↦ answers_as state marks showing c.args.question.text.now c.args.question.query queries.Roots text
          (string_bytes w.in_ok-text-in-Roots.text) w.in-Roots.is (ap string_bytes w.text-is)
          (λ home. (Ok (map (root_line state.dump showing.names) (root_rows state.dump state.log)), refl, w.in_ok-text-in-Roots.ensures))
      | in-Classes+in_ok-text-in-Classes w ↦ answers_as state marks showing c.args.question.text.now c.args.question.query
          (queries.Classes w.in-Classes.strength) text (string_bytes w.in_ok-text-in-Classes.text) w.in-Classes.is (ap string_bytes w.text-is)
          (λ home. w.in_ok-text-in-Classes.ensures)
      | in-Members+in_ok-text-in-Members w ↦ answers_as state marks showing c.args.question.text.now c.args.question.query
          (queries.Members w.in-Members.group w.in-Members.strength) text (string_bytes w.in_ok-text-in-Members.text) w.in-Members.is
          (ap string_bytes w.text-is) (λ home. w.in_ok-text-in-Members.ensures)
      | in-Fell+in-Some-find_mark+in_ok-text-in-Some-find_mark w ↦ answers_as state marks showing c.args.question.text.now c.args.question.query
          (queries.Fell w.in-Fell.number) text _ w.in-Fell.is (ap string_bytes w.text-is)
          (λ home. about_mark (AnswersFell state.dump showing.names state.log) showing.most marks w.in-Fell.number
          (string_bytes w.in_ok-text-in-Some-find_mark.text) w.in-Some-find_mark.mark.now w.in-Some-find_mark.ensures
          w.in_ok-text-in-Some-find_mark.ensures)
      | in-Events+in_ok-text-in-Events w ↦ answers_as state marks showing c.args.question.text.now c.args.question.query queries.Events text
          (string_bytes w.in_ok-text-in-Events.text) w.in-Events.is (ap string_bytes w.text-is)
          (λ home. (Ok (log_lines state.log), refl, w.in_ok-text-in-Events.ensures))
      | in-Top+in_ok-text-in-Top w ↦ answers_as state marks showing c.args.question.text.now c.args.question.query (queries.Top w.in-Top.strength) text
          (string_bytes w.in_ok-text-in-Top.text) w.in-Top.is (ap string_bytes w.text-is) (λ home. w.in_ok-text-in-Top.ensures)
      | in-Freed+in-Some-find_mark-2+in_ok-text-in-Some-find_mark-2 w ↦ answers_as state marks showing c.args.question.text.now c.args.question.query
          (queries.Freed w.in-Freed.number) text _ w.in-Freed.is (ap string_bytes w.text-is)
          (λ home. about_mark (AnswersFreed state.dump state.log) showing.most marks w.in-Freed.number
          (string_bytes w.in_ok-text-in-Some-find_mark-2.text) w.in-Some-find_mark-2.mark.now w.in-Some-find_mark-2.ensures
          w.in_ok-text-in-Some-find_mark-2.ensures)
      | in-Moved+in-Some-find_mark-3+in_ok-text-in-Some-find_mark-3 w ↦ answers_as state marks showing c.args.question.text.now c.args.question.query
          (queries.Moved w.in-Moved.number) text _ w.in-Moved.is (ap string_bytes w.text-is)
          (λ home. about_mark (AnswersMoved state.dump state.log) showing.most marks w.in-Moved.number
          (string_bytes w.in_ok-text-in-Some-find_mark-3.text) w.in-Some-find_mark-3.mark.now w.in-Some-find_mark-3.ensures
          w.in_ok-text-in-Some-find_mark-3.ensures)
      | in-Find+in_ok-text-in-Find w ↦ answers_as state marks showing c.args.question.text.now c.args.question.query queries.Find text
          (string_bytes w.in_ok-text-in-Find.text) w.in-Find.is (ap string_bytes w.text-is) (λ home. w.in_ok-text-in-Find.ensures)
    ]
