-- What the messages of a WebSocket are answered.
-- Source: this project's protocol (docs/PROTOCOL.md); RFC 6455, sections 5.6 and 7.4.1, for kinds of messages and codes of closes.
use Rattle.std.specs.Prelude.{◌≡◌, ℕ, true, false, List, Option, None, Some, Result, Ok, Err, OnOk}
use Rattle.tungstenite.specs.declared.error.Error.{Error}
use Rattle.tungstenite.specs.declared.message.Message.{Message}
use Rattle.tungstenite.specs.declared.message.Message.TheVariants as kinds
use Rattle.tungstenite.specs.Socket.{Socket, Reads, Writes}
use Rattle.websocket.specs.declared.protocol.frame.coding.CloseCode.{CloseCode}
use Rattle.websocket.specs.declared.protocol.frame.coding.CloseCode.TheVariants as codes_of_close
use Rattle.websocket.specs.Connection.{write_step}
use Rattle.websocket.specs.Content.{text}
use Rattle.hd_lines.specs.Lines.{command_of, last_word, is_quit}
use Rattle.hd_analyst.specs.Answering.{IsAnswered}
use Rattle.hd_analyst.specs.Work.{Work}
use Rattle.hd_web.specs.declared.talking.End.{End}
use Rattle.hd_web.specs.declared.talking.End.TheVariants as ends
use Rattle.hd_web.specs.Messages.{line_of}

-- how a text message ends: its reply was sent, and it was `quit` or not; or the reply couldn't be sent
abbrev pub EndsText : (line : List ℕ) → (Sent : Type 0) → Option End → Type 0
EndsText line Sent None = Sent × (is_quit line ≡ false)
EndsText line Sent (Some ends.Quits) = Sent × (is_quit line ≡ true)
EndsText line Sent (Some ends.QuitsUnheard) = is_quit line ≡ true
EndsText line Sent (Some (ends.Frees None)) = is_quit line ≡ false
EndsText line Sent (Some (ends.Frees (Some code))) = ⊥

module _ {S : Type 0} where
  -- a frame with this text, and nothing else, went to what the socket sends
  abbrev pub SendsText : (contents : S → Option (List ℕ)) → (before after : Socket S) → List ℕ → Type 0
  SendsText contents before after reply = Writes contents before after (write_step before.conn (text reply))

  -- a line is answered by the session, and its reply sent
  pub record AnswersLine (contents : S → Option (List ℕ)) (old new : Work) (before after : Socket S) (line : List ℕ)
      (result : Result (Unit {0}) Error) : Type 0 where
    pub reply : List ℕ
    pub answered : IsAnswered old new (last_word line) (command_of line) reply
    pub sent : OnOk result (SendsText contents before after reply)

  -- a text message is answered: its line is run by the session, and its reply sent
  pub record AnswersText (contents : S → Option (List ℕ)) (old new : Work) (before after : Socket S) (message : List ℕ) (end : Option End) : Type 0 where
    pub reply : List ℕ
    pub answered : IsAnswered old new (last_word (line_of message)) (command_of (line_of message)) reply
    pub ends : EndsText (line_of message) (SendsText contents before after reply) end

  -- nothing is run and nothing sent, and it ends so
  abbrev pub Passes : (old new : Work) → (before after : Socket S) → (end wanted : Option End) → Type 0
  Passes old new before after end wanted = (new ≡ old) × (after ≡ before) × (end ≡ wanted)

  -- what was read is served: a text is answered, a binary message ends the talk with 1003, other messages are passed over, and where
  -- nothing can be read the talk ends
  abbrev pub Serves : (contents : S → Option (List ℕ)) → (old new : Work) → (before after : Socket S) → Result Message Error → Option End → Type 0
  Serves contents old new before after (Ok (kinds.Text message)) end = AnswersText contents old new before after message end
  Serves contents old new before after (Ok (kinds.Binary bytes)) end = Passes old new before after end (Some (ends.Frees (Some codes_of_close.Unsupported)))
  Serves contents old new before after (Ok (kinds.Ping bytes)) end = Passes old new before after end None
  Serves contents old new before after (Ok (kinds.Pong bytes)) end = Passes old new before after end None
  Serves contents old new before after (Ok (kinds.Close frame)) end = Passes old new before after end None
  Serves contents old new before after (Err e) end = (code : Option CloseCode) × Passes old new before after end (Some (ends.Frees code))

  -- the next message is read from the socket and served
  pub record ServesNext (remaining contents : S → Option (List ℕ)) (old new : Work) (before after : Socket S) (end : Option End) : Type 0 where
    pub read : Result Message Error
    pub between : Socket S
    pub reads : Reads remaining before between read
    pub serves : Serves contents old new between after read end

  -- messages were read and served, one after another, and none of them ended the talk
  pub data GoesOn (remaining contents : S → Option (List ℕ)) (old : Work) (before : Socket S) : Work → Socket S → Type 0 where
    none : GoesOn remaining contents old before old before
    more : (mid : Work) (between : Socket S) (new : Work) (after : Socket S) → GoesOn remaining contents old before mid between
        → ServesNext remaining contents mid new between after None → GoesOn remaining contents old before new after

  -- messages were read and served in their order, up to one that ended the talk so
  pub record Talks (remaining contents : S → Option (List ℕ)) (old new : Work) (before after : Socket S) (end : End) : Type 0 where
    pub mid : Work
    pub between : Socket S
    pub goes_on : GoesOn remaining contents old before mid between
    pub last : ServesNext remaining contents mid new between after (Some end)
