-- What the parser says of the first bytes of a connection is what these are answered by.
use Rattle.std.proofs.Common.{◌≡◌, ◌≢◌, ◌<◌, ◌≤◌, ℕ, List, length, drop, sym, ◌∙◌, subst, ap, inl, inr, refl, Result, Err, arith, ◌++◌, length-append}
use Rattle.std.proofs.Common.{length-take}
use Rattle.std.proofs.lemmas.List.{take_all}
use Rattle.httparse.specs.declared.Error.{Error}
use Rattle.httparse.specs.declared.Error.TheVariants as errors
use Rattle.httparse.specs.declared.Status.{Status}
use Rattle.httparse.specs.declared.spans.HeaderSpan.{HeaderSpan}
use Rattle.httparse.specs.declared.spans.RequestSpans.{RequestSpans}
use Rattle.httparse.specs.Grammar.{RequestHead, print_request, ReadsRequest, HasNoRequest, NeverHasRequest, MayBecomeRequest}
use Rattle.httparse.specs.Spans.{IsRequestAt, IsRequestOf, RequestExceeds}
use Rattle.hd_routes.specs.declared.answer.Answer.{Answer}
use Rattle.hd_routes.specs.declared.answer.Refusal.TheVariants as refusals
use Rattle.hd_routes.specs.Heads.{most_bytes, most_fields, front_of, fault_refusal, IsNoHead, IsWhole}
use Rattle.hd_routes.specs.Requests.{Request, spanned, request_of}
use Rattle.hd_routes.specs.Routes.{IsAnswer}

-- what the spans of a head cover is what the head says
pub spanned_is : (buf : List ℕ) (spans : List HeaderSpan) (r : RequestSpans) (h : RequestHead) → IsRequestAt buf spans r h → spanned buf spans r ≡ request_of h
spanned_is buf spans r h covers = rw (covers.method, covers.path, covers.version, covers.fields)

-- so both are answered alike
pub answered_alike : (port : ℕ) (buf : List ℕ) (spans : List HeaderSpan) (r : RequestSpans) (h : RequestHead) (answer : Answer)
    → IsRequestAt buf spans r h → IsAnswer port (spanned buf spans r) answer → IsAnswer port (request_of h) answer
answered_alike port buf spans r h answer covers answered =
    let P : Request → Type 0 = λ request. IsAnswer port request answer in subst P (spanned_is buf spans r h covers) answered

-- a whole head
pub whole_head : (port : ℕ) (bytes front : List ℕ) (spans : List HeaderSpan) (r : RequestSpans) (answer : Answer)
    → front ≡ front_of bytes → IsRequestOf front spans r → IsAnswer port (spanned front spans r) answer → IsWhole port bytes answer r.len
whole_head port bytes front spans r answer same (h, covers) answered =
    let P : List ℕ → Type 0 = λ xs. ReadsRequest xs h (drop r.len xs) in
    (h, subst P same covers.reads, covers.len, answered_alike port front spans r h answer covers answered)

-- fewer bytes than a head may have are its front
pub front_is_all : (bytes : List ℕ) → length bytes < most_bytes → bytes ≡ front_of bytes
front_is_all bytes short = sym (take_all most_bytes bytes (omega arith))

-- the beginning of a head that may become whole
pub unfinished : (bytes front : List ℕ) → front ≡ front_of bytes → length bytes < most_bytes → HasNoRequest front → MayBecomeRequest front
    → (length bytes < most_bytes) × HasNoRequest bytes × MayBecomeRequest bytes
unfinished bytes front same short none may =
    let all : front ≡ bytes = same ∙ sym (front_is_all bytes short) in (short, subst HasNoRequest all none, subst MayBecomeRequest all may)

-- the beginning of a head that is too long
pub too_long : (bytes front : List ℕ) → front ≡ front_of bytes → most_bytes ≤ length bytes → HasNoRequest front → IsNoHead bytes refusals.HeadTooLarge
too_long bytes front same long none = inr (inl (long, subst HasNoRequest same none, refl))

-- what the parser refuses
pub no_head : (bytes front : List ℕ) (room : ℕ) (r : Result (Status RequestSpans) Error) (e : Error) → r ≡ Err e → front ≡ front_of bytes → room ≡ most_fields
    → (e ≢ errors.TooManyHeaders → NeverHasRequest front) → (r ≡ Err errors.TooManyHeaders → RequestExceeds room front)
    → IsNoHead bytes (fault_refusal e)
no_head bytes front room r errors.TooManyHeaders is same whole invalid many =
    let P : List ℕ → Type 0 = λ xs. RequestExceeds most_fields xs in
    let Q : ℕ → Type 0 = λ n. RequestExceeds n front in
    inr (inr (subst P same (subst Q whole (many is)), refl))
no_head bytes front room r errors.HeaderName is same whole invalid many = inl (subst NeverHasRequest same (invalid (λ e. cc)), refl)
no_head bytes front room r errors.HeaderValue is same whole invalid many = inl (subst NeverHasRequest same (invalid (λ e. cc)), refl)
no_head bytes front room r errors.NewLine is same whole invalid many = inl (subst NeverHasRequest same (invalid (λ e. cc)), refl)
no_head bytes front room r errors.Status is same whole invalid many = inl (subst NeverHasRequest same (invalid (λ e. cc)), refl)
no_head bytes front room r errors.Token is same whole invalid many = inl (subst NeverHasRequest same (invalid (λ e. cc)), refl)
no_head bytes front room r errors.Version is same whole invalid many = inl (subst NeverHasRequest same (invalid (λ e. cc)), refl)

-- a whole head is no longer than what was read
pub whole_fits : (port : ℕ) (bytes : List ℕ) (answer : Answer) (len : ℕ) → IsWhole port bytes answer len → len ≤ length bytes
whole_fits port bytes answer len (h, reads, len_is, answered) =
    let split : length (front_of bytes) ≡ length (print_request h ++ drop len (front_of bytes)) = ap length reads.1 in
    omega (arith, split, len_is, length-append (print_request h) (drop len (front_of bytes)), length-take most_bytes bytes)
