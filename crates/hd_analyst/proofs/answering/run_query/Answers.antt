use Rattle.std.proofs.Common.{◌≡◌, ℕ, List, MatchOption, Option, None, Some, Ok, String, Global, inl}
use Rattle.std.specs.String.{string_bytes}
use Rattle.std.specs.Option.{option_map}
use Rattle.hd_lines.specs.declared.commands.Command.TheVariants as commands
use Rattle.hd_lines.specs.declared.commands.Query.{Query}
use Rattle.hd_state.specs.Situation.{Situation}
use Rattle.hd_state.specs.Solution.{Solution}
use Rattle.hd_analyst.specs.declared.texts.Showing.{Showing}
use Rattle.hd_analyst.specs.Answering.{IsRun}
use Rattle.hd_analyst.specs.Replying.{IsAnswerIn}
use Rattle.hd_analyst.specs.Work.{Work, logs_of}
use Rattle.hd_analyst.proofs.QueryLemmas.{query_run, query_unserved}
use Rattle.hd_analyst.proofs.answering.run_query.Goals as goal

-- the reply is given back, or put
given : (w : Work) (state : Solution) (marks : List Situation) (showing : Showing) (word : List ℕ) (query : Query) (text : Option (String Global))
    (out : List ℕ) → state.dump ≡ w.analyst.dump → state.log ≡ w.front → w.front ≡ w.memory.log
    → logs_of marks ≡ w.memory.marks → showing.names ≡ w.memory.names → IsAnswerIn state marks showing word query (option_map string_bytes text) out
    → MatchOption text (IsRun w w word (Ok (commands.Ask showing.most query)) out) (λ t. IsRun w w word (Ok (commands.Ask showing.most query)) (string_bytes t))
given w state marks showing word query None out dump log front logs names h = query_run w state marks showing word query out dump log front logs names h
given w state marks showing word query (Some t) out dump log front logs names h =
    query_run w state marks showing word query (string_bytes t) dump log front logs names h

pub returns-in-Ok : goal.returns-in-Ok
returns-in-Ok c =
    given c.args.analyst.now c.state.result.now c.marks.result.now
    (record { names = c.names.result; most = c.args.most }) c.args.text.now c.args.query c.in-Ok.reply c.answer_query.new.out
    c.state.ensures.dump c.state.ensures.log c.requires c.marks.ensures.logs c.names.ensures c.in-Ok.ensures

pub returns-in-Err : goal.returns-in-Err
returns-in-Err c = query_unserved c.args.analyst.now c.args.most c.args.text.now c.args.query c.put_refused.new.out
    (inl (cc (c.put_refused.ensures, c.refusal_text.ensures.name)))
