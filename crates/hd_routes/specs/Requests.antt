-- What a request head says that counts for its answer.
-- Source: this project. Upgrades, keys and origins are those of RFC 6455, sections 4.2.1, 4.2.2 and 10.2; the Host is that of RFC
-- 9110, section 7.2.
use Rattle.std.specs.Prelude.{◌≡◌, ℕ, Bool, true, false, not, ◌&&◌, ◌||◌, ◌==◌, ◌++◌, if◌then◌else◌, List, [], codes, decimal, bytes_eq, map, take, Option}
use Rattle.std.specs.Prelude.{None, Some, unwrap_or}
use Rattle.httparse.specs.declared.spans.HeaderSpan.{HeaderSpan}
use Rattle.httparse.specs.declared.spans.RequestSpans.{RequestSpans}
use Rattle.httparse.specs.Grammar.{RequestHead}
use Rattle.httparse.specs.Spans.{name_and_value, span_bytes}
use Rattle.websocket.specs.Headers.{Fields, fields_of, header_value, has_token, value_is}
use Rattle.websocket.specs.Handshake.{IsValidKey, accept_key_of}
use Rattle.hd_routes.specs.Fields.{only_value}

-- a server on this port of the loopback, as a client names it
abbrev pub is_own_host : (port : ℕ) → List ℕ → Bool
is_own_host port host = bytes_eq host (codes "127.0.0.1:" ++ decimal port) || bytes_eq host (codes "localhost:" ++ decimal port)

-- the value, if it is such a name
abbrev pub kept_host : (port : ℕ) → Option (List ℕ) → Option (List ℕ)
kept_host port None = None
kept_host port (Some host) = if is_own_host port host then Some host else None

-- the value of the only Host, if it names this server
abbrev pub own_host : (port : ℕ) → Fields → Option (List ℕ)
own_host port fields = kept_host port (only_value fields (codes "Host"))

-- this is the Origin of a page that came from this host
abbrev pub is_origin : (host : List ℕ) → Option (List ℕ) → Bool
is_origin host None = false
is_origin host (Some origin) = bytes_eq origin (codes "http://" ++ host)

-- the only Origin is that of a page that came from this host
abbrev pub has_origin : (host : List ℕ) → Fields → Bool
has_origin host fields = is_origin host (only_value fields (codes "Origin"))

-- an upgrade to a WebSocket is asked for: by GET, in HTTP/1.1, where Connection names Upgrade, and Upgrade is websocket
abbrev pub is_upgrade : (method : List ℕ) → (minor : ℕ) → Fields → Bool
is_upgrade method minor fields =
    bytes_eq method (codes "GET") && not (minor == 0) && has_token (unwrap_or (header_value fields (codes "Connection")) []) (codes "Upgrade")
    && value_is fields (codes "Upgrade") (codes "websocket")

-- what a head says that counts for its answer
pub record Request : Type 0 where
  pub method : List ℕ
  pub target : List ℕ
  pub minor : ℕ
  pub fields : Fields

-- what a head of the grammar says
abbrev pub request_of : RequestHead → Request
request_of h = record { method = h.method; target = h.target; minor = h.minor; fields = map name_and_value h.fields }

-- what the spans of a head in these bytes cover
abbrev pub spanned : (buf : List ℕ) → List HeaderSpan → RequestSpans → Request
spanned buf spans r = record {
  method = span_bytes buf r.method;
  target = span_bytes buf r.path;
  minor = r.version;
  fields =
      fields_of buf (take r.headers spans);
}

-- the key of an upgrade of version 13, if it has one
abbrev pub key_of : Fields → Option (List ℕ)
key_of fields = if value_is fields (codes "Sec-WebSocket-Version") (codes "13") then header_value fields (codes "Sec-WebSocket-Key") else None

-- a request to this port asks for a desk, and this accept key answers it: its only Host names this server, it is an upgrade of
-- version 13 with a valid key, and its only Origin is that of a page that came from that Host
pub record AsksForDesk (port : ℕ) (accept_key : List ℕ) (r : Request) : Type 0 where
  pub host : List ℕ
  pub to_server : own_host port r.fields ≡ Some host
  pub upgrade : is_upgrade r.method r.minor r.fields ≡ true
  pub from_page : has_origin host r.fields ≡ true
  pub key : List ℕ
  pub has_key : key_of r.fields ≡ Some key
  pub valid : IsValidKey key
  pub answers : accept_key ≡ accept_key_of key

-- some request asks so
abbrev pub IsAsked : (port : ℕ) → (accept_key : List ℕ) → Type 0
IsAsked port accept_key = (r : Request) × AsksForDesk port accept_key r
