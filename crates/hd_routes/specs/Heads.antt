-- What the first bytes of a connection are answered.
-- Source: this project. The grammar of a head is that of `httparse` (RFC 9112).
use Rattle.std.specs.Prelude.{◌≡◌, ◌<◌, ◌≤◌, ◌⊎◌, ℕ, List, length, take, drop}
use Rattle.httparse.specs.declared.Error.{Error}
use Rattle.httparse.specs.declared.Error.TheVariants as errors
use Rattle.httparse.specs.Grammar.{RequestHead, print_request, ReadsRequest, HasNoRequest, NeverHasRequest, MayBecomeRequest}
use Rattle.httparse.specs.Spans.{RequestExceeds}
use Rattle.hd_routes.specs.declared.answer.Answer.{Answer}
use Rattle.hd_routes.specs.declared.answer.Refusal.{Refusal}
use Rattle.hd_routes.specs.declared.answer.Refusal.TheVariants as refusals
use Rattle.hd_routes.specs.declared.head.Reading.{Reading}
use Rattle.hd_routes.specs.declared.head.Reading.TheVariants as readings
use Rattle.hd_routes.specs.Requests.{request_of}
use Rattle.hd_routes.specs.Routes.{IsAnswer}

-- the most bytes of a head: 16 KiB
abbrev pub most_bytes : ℕ
most_bytes = 16384

-- the most fields of a head
abbrev pub most_fields : ℕ
most_fields = 128

-- as much of the bytes as may be a head
abbrev pub front_of : List ℕ → List ℕ
front_of bytes = take most_bytes bytes

-- what bytes are answered that are no head, by the parser's reason
abbrev pub fault_refusal : Error → Refusal
fault_refusal errors.TooManyHeaders = refusals.HeadTooLarge
fault_refusal errors.HeaderName = refusals.BadRequest
fault_refusal errors.HeaderValue = refusals.BadRequest
fault_refusal errors.NewLine = refusals.BadRequest
fault_refusal errors.Status = refusals.BadRequest
fault_refusal errors.Token = refusals.BadRequest
fault_refusal errors.Version = refusals.BadRequest

-- why bytes are no head: nothing that follows makes them one, or it is too long or has too many fields
abbrev pub IsNoHead : List ℕ → Refusal → Type 0
IsNoHead bytes refusal =
    (NeverHasRequest (front_of bytes) × (refusal ≡ refusals.BadRequest))
    ⊎ (((most_bytes ≤ length bytes) × HasNoRequest (front_of bytes) × (refusal ≡ refusals.HeadTooLarge))
    ⊎ (RequestExceeds most_fields (front_of bytes) × (refusal ≡ refusals.HeadTooLarge)))

-- the first bytes are a whole head of this length, and it is answered so
abbrev pub IsWhole : (port : ℕ) → (bytes : List ℕ) → Answer → (len : ℕ) → Type 0
IsWhole port bytes answer len =
    (h : RequestHead) × ReadsRequest (front_of bytes) h (drop len (front_of bytes)) × (len ≡ length (print_request h)) × IsAnswer port (request_of h) answer

-- what the first bytes of a connection to this port are
abbrev pub IsReading : (port : ℕ) → (bytes : List ℕ) → Reading → Type 0
IsReading port bytes readings.Unfinished = (length bytes < most_bytes) × HasNoRequest bytes × MayBecomeRequest bytes
IsReading port bytes (readings.NoHead refusal) = IsNoHead bytes refusal
IsReading port bytes (readings.Whole answer len) = IsWhole port bytes answer len

-- a whole head is no longer than what came
abbrev pub IsWithin : (bytes : List ℕ) → Reading → Type 0
IsWithin bytes readings.Unfinished = Unit {0}
IsWithin bytes (readings.NoHead refusal) = Unit {0}
IsWithin bytes (readings.Whole answer len) = len ≤ length bytes
