-- A line is answered by a long reply or a short one, and a message with that reply is sent.
use Rattle.std.proofs.Common.{◌≡◌, ℕ, List, Option, None, Some, Result, Err, OnOk, subst}
use Rattle.std.specs.Prelude.{MatchOption}
use Rattle.websocket.specs.Connection.{write_step}
use Rattle.websocket.specs.Content.{Content, text}
use Rattle.tungstenite.specs.declared.error.Error.{Error}
use Rattle.tungstenite.specs.declared.message.Message.{Message}
use Rattle.tungstenite.specs.Socket.{Socket, Writes, content_of}
use Rattle.hd_lines.specs.Lines.{command_of, last_word}
use Rattle.hd_analyst.specs.Answering.{IsAnswered}
use Rattle.hd_analyst.specs.Work.{Work}
use Rattle.hd_web.specs.Talks.{AnswersLine}

-- a line is answered so, by a long reply or a short one
abbrev pub IsAnsweredBy : {X : Type 0} → (bytes : X → List ℕ) → (old new : Work) → (line short : List ℕ) → (long : Option X) → Type 0
IsAnsweredBy bytes old new line short long =
    MatchOption long (IsAnswered old new (last_word line) (command_of line) short) (λ x. IsAnswered old new (last_word line) (command_of line) (bytes x))

module _ {S X : Type 0} (bytes : X → List ℕ) (contents : S → Option (List ℕ)) (old new : Work) (before after : Socket S) (line short : List ℕ) where
  -- the message can't be made
  pub no_message : (long : Option X) (e : Error) (result : Result (Unit {0}) Error) → IsAnsweredBy bytes old new line short long → result ≡ Err e
      → AnswersLine contents old new before after line result
  no_message None e result h is = record { reply = short; answered = h; sent = rw is tt }
  no_message (Some x) e result h is = record { reply = bytes x; answered = h; sent = rw is tt }

  -- the message of the reply is sent, or can't be
  pub message_sent : (long : Option X) (m : Message) (result : Result (Unit {0}) Error) → IsAnsweredBy bytes old new line short long
      → MatchOption long (content_of m ≡ text short) (λ x. content_of m ≡ text (bytes x))
      → OnOk result (Writes contents before after (write_step before.conn (content_of m)))
      → AnswersLine contents old new before after line result
  message_sent None m result h is sent = record {
    reply = short;
    answered = h;
    sent = subst (λ (content : Content). OnOk result (Writes contents before after (write_step before.conn content))) is sent;
  }
  message_sent (Some x) m result h is sent = record {
    reply = bytes x;
    answered = h;
    sent = subst (λ (content : Content). OnOk result (Writes contents before after (write_step before.conn content))) is sent;
  }
