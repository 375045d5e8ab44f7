-- Parts of replies, and replies to queries.
-- Source: this project.
use Rattle.std.specs.Prelude.{◌≡◌, ℕ, Bool, List, ◌++◌, codes, decimal, Option, None, Some}
use Rattle.hd_terms.specs.declared.Event.{Event}
use Rattle.hd_lines.specs.declared.commands.Query.{Query}
use Rattle.hd_lines.specs.Replies.{Answer, IsAnswer, RepliesQuery, answer_text, with_newline}
use Rattle.hd_state.specs.Situation.{Situation}
use Rattle.hd_state.specs.Solution.{Solution}
use Rattle.hd_analyst.specs.declared.texts.Showing.{Showing}
use Rattle.hd_analyst.specs.Work.{memory_at}

-- `ok N`
abbrev pub answered_head : ℕ → List ℕ
answered_head lines = with_newline (codes "ok " ++ decimal lines)

-- the first `most` lines of such an answer, all without a number, as they are written
abbrev pub IsWritten : (Is : Answer → Type 0) → (most : Option ℕ) → List ℕ → Type 0
IsWritten Is most text = (answer : Answer) × Is answer × (text ≡ answer_text most answer)

-- the reply to a query with the last word of its line, under a state and marks, in a private part or not
abbrev pub IsQueryReply : (state : Solution) → (marks : List Situation) → Showing → (text : List ℕ) → Query → List ℕ → Type 0
IsQueryReply state marks showing text query reply = (home : Option (List Event))
    → RepliesQuery state.dump (memory_at state.log marks home showing.names) text showing.most query reply

-- the reply is given back as a text, or where it is short it is put into a buffer
abbrev pub IsAnswerIn : (state : Solution) → (marks : List Situation) → Showing → (text : List ℕ) → Query → (given : Option (List ℕ)) → (buffer : List ℕ)
    → Type 0
IsAnswerIn state marks showing text query None buffer = IsQueryReply state marks showing text query buffer
IsAnswerIn state marks showing text query (Some given) buffer = IsQueryReply state marks showing text query given
