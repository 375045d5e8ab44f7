-- What the check of an upgrade says of it where it is accepted.
use Rattle.std.proofs.Common.{◌≡◌, ℕ, Bool, true, false, not, ◌&&◌, cond, List, [], Option, None, Some, Ok, Err, refl}
use Rattle.std.specs.Prelude.{◌==◌, if◌then◌else◌, codes, bytes_eq, ok_or, unwrap_or}
use Rattle.websocket.specs.declared.handshake.failure.HandshakeError.TheVariants as errors
use Rattle.websocket.specs.Headers.{Fields, header_value, has_token, value_is}
use Rattle.websocket.specs.Handshake.{IsValidKey, accept_key_of, Answers, requested_key}
use Rattle.hd_routes.specs.Requests.{is_upgrade, key_of}

-- this key is valid, and answered so
abbrev HasKey : (key : Option (List ℕ)) → (accept_key : List ℕ) → Type 0
HasKey found accept_key = (key : List ℕ) × (found ≡ Some key) × IsValidKey key × (accept_key ≡ accept_key_of key)

-- by what each test of the check comes to
by_tests : (is_get is_old connection upgrade version : Bool) (key : Option (List ℕ)) (accept_key : List ℕ)
    → Answers (Ok accept_key)
    (cond (not is_get) (Err errors.WrongHttpMethod)
    (cond is_old (Err errors.WrongHttpVersion)
    (cond (not connection) (Err errors.MissingConnectionUpgradeHeader)
    (cond (not upgrade) (Err errors.MissingUpgradeWebSocketHeader)
    (cond (not version) (Err errors.MissingSecWebSocketVersionHeader) (ok_or key errors.MissingSecWebSocketKey))))))
    → ((is_get && not is_old && connection && upgrade) ≡ true) × HasKey (if version then key else None) accept_key
by_tests true false true true true (Some key) accept_key h = (refl, (key, refl, h.0, h.1))
by_tests true false true true true None accept_key h = cc
by_tests true false true true false key accept_key h = cc
by_tests true false true false version key accept_key h = cc
by_tests true false false upgrade version key accept_key h = cc
by_tests true true connection upgrade version key accept_key h = cc
by_tests false is_old connection upgrade version key accept_key h = cc

-- an upgrade that is accepted is one, and has a key
pub accepted : (method : List ℕ) (minor : ℕ) (fields : Fields) (accept_key : List ℕ) → Answers (Ok accept_key) (requested_key method minor fields)
    → (is_upgrade method minor fields ≡ true) × HasKey (key_of fields) accept_key
accepted method minor fields accept_key h =
    by_tests (bytes_eq method (codes "GET")) (minor == 0) (has_token (unwrap_or (header_value fields (codes "Connection")) []) (codes "Upgrade"))
    (value_is fields (codes "Upgrade") (codes "websocket")) (value_is fields (codes "Sec-WebSocket-Version") (codes "13"))
    (header_value fields (codes "Sec-WebSocket-Key")) accept_key h
