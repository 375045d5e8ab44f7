-- The bytes of answers.
-- Source: this project's protocol (docs/PROTOCOL.md); RFC 9112, sections 4 and 5, for the form of heads; RFC 6455, section 4.2.2, for
-- that of an upgrade.
use Rattle.std.specs.Prelude.{ℕ, List, [], ◌++◌, length, codes, decimal}
use Rattle.websocket.specs.Handshake.{response_bytes}
use Rattle.hd_routes.specs.declared.answer.Answer.{Answer}
use Rattle.hd_routes.specs.declared.answer.Answer.TheVariants as answers
use Rattle.hd_routes.specs.declared.answer.Refusal.{Refusal}
use Rattle.hd_routes.specs.declared.answer.Refusal.TheVariants as refusals

-- the status of a refusal
abbrev pub status_text : Refusal → List ℕ
status_text refusals.BadRequest = codes "400 Bad Request"
status_text refusals.Forbidden = codes "403 Forbidden"
status_text refusals.NotFound = codes "404 Not Found"
status_text refusals.MethodNotAllowed = codes "405 Method Not Allowed"
status_text refusals.HeadTooLarge = codes "431 Request Header Fields Too Large"
status_text refusals.Unavailable = codes "503 Service Unavailable"

-- the fields of a refusal that others don't have: a refused method is told which there are (RFC 9110, section 15.5.6)
abbrev pub refusal_fields : Refusal → List ℕ
refusal_fields refusals.BadRequest = []
refusal_fields refusals.Forbidden = []
refusal_fields refusals.NotFound = []
refusal_fields refusals.MethodNotAllowed = codes "Allow: GET, HEAD\r\n"
refusal_fields refusals.HeadTooLarge = []
refusal_fields refusals.Unavailable = []

-- the fields of the page
abbrev pub page_fields : List ℕ
page_fields =
    codes "Content-Type: text/html; charset=utf-8\r\n"
    ++ codes "Content-Security-Policy: default-src 'none'; script-src 'unsafe-inline'; style-src 'unsafe-inline'; img-src data:; connect-src 'self'\r\n"
    ++ codes "X-Content-Type-Options: nosniff\r\n"
    ++ codes "Cache-Control: no-store\r\n"

-- the head of an answer after which the connection closes, before a body of this length
abbrev pub closing_head : (status fields : List ℕ) → (len : ℕ) → List ℕ
closing_head status fields len =
    codes "HTTP/1.1 " ++ status ++ codes "\r\n" ++ fields ++ codes "Content-Length: " ++ decimal len ++ codes "\r\nConnection: close\r\n\r\n"

-- the head of an answer where the page has this length
abbrev pub answer_head : (len : ℕ) → Answer → List ℕ
answer_head len answers.Page = closing_head (codes "200 OK") page_fields len
answer_head len answers.HeadOfPage = closing_head (codes "200 OK") page_fields len
answer_head len (answers.Desk pass) = response_bytes pass.accept_key []
answer_head len (answers.Refused refusal) = closing_head (status_text refusal) (refusal_fields refusal) 0

-- the body of an answer: the page for a GET of it, and else nothing
abbrev pub answer_body : (page : List ℕ) → Answer → List ℕ
answer_body page answers.Page = page
answer_body page answers.HeadOfPage = []
answer_body page (answers.Desk pass) = []
answer_body page (answers.Refused refusal) = []

-- the bytes of an answer
abbrev pub answer_bytes : (page : List ℕ) → Answer → List ℕ
answer_bytes page answer = answer_head (length page) answer ++ answer_body page answer
