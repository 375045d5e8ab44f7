-- What a request head is answered: the table of routes.
-- Source: this project. Methods and status codes are those of RFC 9110; upgrades, keys and origins those of RFC 6455.
use Rattle.std.specs.Prelude.{◌≡◌, ℕ, not, ◌||◌, if◌then◌else◌, List, codes, bytes_eq, Option, None, Some}
use Rattle.websocket.specs.Headers.{Fields}
use Rattle.websocket.specs.Handshake.{IsValidKey, accept_key_of}
use Rattle.hd_routes.specs.declared.answer.Answer.{Answer}
use Rattle.hd_routes.specs.declared.answer.Answer.TheVariants as answers
use Rattle.hd_routes.specs.declared.answer.Refusal.TheVariants as refusals
use Rattle.hd_routes.specs.Requests.{Request, own_host, has_origin, is_upgrade, key_of}

-- the rows of the table, in the order in which they are looked at
pub data Row : Type 0 where
  other_host other_path other_method the_page head_of_page no_upgrade other_origin an_upgrade : Row

-- the row of a request for the desk, from this host
abbrev pub desk_row : (host : List ℕ) → Request → Row
desk_row host r =
    if not (is_upgrade r.method r.minor r.fields) then no_upgrade else (if has_origin host r.fields then an_upgrade else other_origin)

-- the row of a request by GET or HEAD for the page or the desk, from this host
abbrev pub path_row : (host : List ℕ) → Request → Row
path_row host r =
    if bytes_eq r.target (codes "/") then (if bytes_eq r.method (codes "HEAD") then head_of_page else the_page) else desk_row host r

-- the row of a request from this host, if it names this server
abbrev pub row_from : Option (List ℕ) → Request → Row
row_from None r = other_host
row_from (Some host) r =
    if not (bytes_eq r.target (codes "/") || bytes_eq r.target (codes "/desk")) then other_path
    else (if not (bytes_eq r.method (codes "GET") || bytes_eq r.method (codes "HEAD")) then other_method else path_row host r)

-- the row of a request to this port
abbrev pub row_of : (port : ℕ) → Request → Row
row_of port r = row_from (own_host port r.fields) r

-- an upgrade that has this key is answered by the key's accept key, where it is a valid key, and else as a bad request
abbrev pub IsKeyAnswer : Option (List ℕ) → Answer → Type 0
IsKeyAnswer (Some key) (answers.Desk pass) = IsValidKey key × (pass.accept_key ≡ accept_key_of key)
IsKeyAnswer (Some key) (answers.Refused refusal) = ¬ (IsValidKey key) × (refusal ≡ refusals.BadRequest)
IsKeyAnswer (Some key) answers.Page = ⊥
IsKeyAnswer (Some key) answers.HeadOfPage = ⊥
IsKeyAnswer None a = a ≡ answers.Refused refusals.BadRequest

-- what a row is answered
abbrev pub IsRowAnswer : Row → Fields → Answer → Type 0
IsRowAnswer other_host fields a = a ≡ answers.Refused refusals.Forbidden
IsRowAnswer other_path fields a = a ≡ answers.Refused refusals.NotFound
IsRowAnswer other_method fields a = a ≡ answers.Refused refusals.MethodNotAllowed
IsRowAnswer the_page fields a = a ≡ answers.Page
IsRowAnswer head_of_page fields a = a ≡ answers.HeadOfPage
IsRowAnswer no_upgrade fields a = a ≡ answers.Refused refusals.NotFound
IsRowAnswer other_origin fields a = a ≡ answers.Refused refusals.Forbidden
IsRowAnswer an_upgrade fields a = IsKeyAnswer (key_of fields) a

-- what a request to this port is answered
abbrev pub IsAnswer : (port : ℕ) → Request → Answer → Type 0
IsAnswer port r a = IsRowAnswer (row_of port r) r.fields a
