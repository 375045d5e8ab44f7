-- What the stream of a connection is answered.
-- Source: this project.
use Rattle.std.specs.Prelude.{◌≡◌, ◌⊎◌, ℕ, Bool, true, false, List, ◌++◌, drop, Option, None, Some}
use Rattle.std.specs.Io.KnownBytes.{Consumes, Appends, Keeps}
use Rattle.hd_routes.specs.declared.answer.Answer.TheVariants as answers
use Rattle.hd_routes.specs.declared.answer.Refusal.{Refusal}
use Rattle.hd_routes.specs.declared.answer.Refusal.TheVariants as refusals
use Rattle.hd_routes.specs.declared.head.Reading.TheVariants as readings
use Rattle.hd_routes.specs.declared.hearing.Guest.{Guest}
use Rattle.hd_routes.specs.declared.hearing.Heard.{Heard}
use Rattle.hd_routes.specs.Answers.{answer_bytes}
use Rattle.hd_routes.specs.Heads.{IsReading, IsNoHead, IsWhole}

-- a whole head was read, and this is its answer; what came behind it is left
abbrev pub IsWholeHead : (port : ℕ) → (bytes : List ℕ) → Heard → Type 0
IsWholeHead port bytes heard = (len : ℕ) × IsWhole port bytes heard.answer len × (heard.left.items ≡ drop len bytes)

-- what was read is no head, and this is the refusal
abbrev pub IsNone : (bytes : List ℕ) → Heard → Type 0
IsNone bytes heard = (refusal : Refusal) × (heard.answer ≡ answers.Refused refusal) × IsNoHead bytes refusal

-- the input ended in the beginning of a head, which is refused as a bad request
abbrev pub IsCutOff : (port : ℕ) → (bytes : List ℕ) → Heard → Type 0
IsCutOff port bytes heard = IsReading port bytes readings.Unfinished × (heard.answer ≡ answers.Refused refusals.BadRequest)

-- what these bytes are answered, at the end of the input or before it
abbrev pub IsHeard : (port : ℕ) → (bytes : List ℕ) → (is_end : Bool) → Heard → Type 0
IsHeard port bytes true heard = IsWholeHead port bytes heard ⊎ (IsNone bytes heard ⊎ IsCutOff port bytes heard)
IsHeard port bytes false heard = IsWholeHead port bytes heard ⊎ IsNone bytes heard

-- these bytes are answered, or more are awaited
abbrev pub IsSettled : (port : ℕ) → (bytes : List ℕ) → (is_end : Bool) → Option Heard → Type 0
IsSettled port bytes is_end None = (is_end ≡ false) × IsReading port bytes readings.Unfinished
IsSettled port bytes is_end (Some heard) = IsHeard port bytes is_end heard

-- some bytes were taken from a stream, and stand behind those that there were
abbrev pub Grows : (before after : Option (List ℕ)) → (old new : List ℕ) → Type 0
Grows before after old new = (more : List ℕ) × Consumes before after more × (new ≡ old ++ more)

-- some bytes were taken from a stream, and this is what they are answered
abbrev pub Hears : (port : ℕ) → (before after : Option (List ℕ)) → Heard → Type 0
Hears port before after heard = (bytes : List ℕ) × Consumes before after bytes × ((is_end : Bool) × IsHeard port bytes is_end heard)

-- a connection was answered by what was heard, and the answer written; or it is a guest, with leave to take a desk, and nothing is
-- written
abbrev pub Greets : (port : ℕ) → (page : List ℕ) → (before after written writes : Option (List ℕ)) → Option Guest → Type 0
Greets port page before after written writes None = (heard : Heard) × Hears port before after heard × Appends written writes (answer_bytes page heard.answer)
Greets port page before after written writes (Some guest) =
    (heard : Heard) × Hears port before after heard × (heard.answer ≡ answers.Desk guest.pass) × (guest.left ≡ heard.left) × Keeps written writes
