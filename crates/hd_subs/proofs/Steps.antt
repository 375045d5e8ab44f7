-- Reading sub-records one after another, as a loop does.
use Rattle.std.proofs.Common.{◌≡◌, ℕ, ◌+◌, ◌-◌, ◌≤◌, ◌<◌, List, [], ◌∷◌, ◌++◌, length, take, drop, refl, sym, ap, subst, ◌∙◌, append_assoc, add-zero, arith}
use Rattle.std.specs.List.{flat_map, AllByRecursion}
use Rattle.std.proofs.lemmas.List.{append-nil, length-append, drop_at, drop-take, drop-drop}
use Rattle.std.proofs.lemmas.List.Concat.{flat_map-append}
use Rattle.hd_terms.specs.declared.IdSize.{IdSize}
use Rattle.hd_terms.specs.declared.errors.Cause.{Cause}
use Rattle.hd_terms.specs.SubRecords.{SubRecord, RootOf, ClassDump, InstanceDump, ObjectArray, PrimitiveArray, IsSubRecord, sub_record_text, Sub, item_at}
use Rattle.hd_terms.specs.SubRecords.{subs_at}
use Rattle.hd_terms.specs.ReadFaults.{fault, IsStuck, IsSegmentFault}
use Rattle.hd_subs.specs.ParsedSubs.{BeginsWithSub, LiesAt}
use Rattle.hd_subs.specs.Reading.{Reader, AppendsSub, AppendsSegment, HasGrown}

-- what was read, and what is left
pub record IsReadSoFar (size : IdSize) (base : ℕ) (body rest : List ℕ) (old list : List Sub) : Type 0 where
  pub front : List SubRecord
  pub whole : body ≡ flat_map sub_record_text front ++ rest
  pub each : AllByRecursion (IsSubRecord size) front
  pub list_is : list ≡ old ++ subs_at size base front

pub begin : (size : IdSize) (base : ℕ) (body : List ℕ) (old : List Sub) → IsReadSoFar size base body body old old
begin size base body old = record { front = []; whole = refl; each = tt; list_is = sym (append-nil old) }

pub rest-le : (size : IdSize) (base : ℕ) (body rest : List ℕ) (old list : List Sub) (h : IsReadSoFar size base body rest old list) → length rest ≤ length body
rest-le size base body rest old list h =
    omega (arith, ap length h.whole, length-append (flat_map sub_record_text h.front) rest)

-- where what is left begins
place : (size : IdSize) (base : ℕ) (body rest : List ℕ) (old list : List Sub) (h : IsReadSoFar size base body rest old list)
    → base + (length body - length rest) ≡ base + length (flat_map sub_record_text h.front)
place size base body rest old list h =
    omega (arith, ap length h.whole, length-append (flat_map sub_record_text h.front) rest)

all_more : (size : IdSize) (ss : List SubRecord) (s : SubRecord) → AllByRecursion (IsSubRecord size) ss → IsSubRecord size s
    → AllByRecursion (IsSubRecord size) (ss ++ s ∷ [])
all_more size [] s all is = (is, tt)
all_more size (x ∷ ss) s all is = (all.0, all_more size ss s all.1 is)

-- a sub-record at a place
abbrev sub_at : IdSize → ℕ → SubRecord → Sub
sub_at size at s = record { offset = at; item = item_at size at s }

subs_at-push : (size : IdSize) (at : ℕ) (ss : List SubRecord) (s : SubRecord)
    → subs_at size at (ss ++ s ∷ []) ≡ subs_at size at ss ++ sub_at size (at + length (flat_map sub_record_text ss)) s ∷ []
subs_at-push size at [] s = ap (λ (k : ℕ). sub_at size k s ∷ []) (sym (add-zero at))
subs_at-push size at (x ∷ ss) s =
    let after : ℕ = at + length (sub_record_text x) in
    let here : after + length (flat_map sub_record_text ss) ≡ at + length (sub_record_text x ++ flat_map sub_record_text ss) =
    omega (arith, length-append (sub_record_text x) (flat_map sub_record_text ss)) in
    ap (λ (xs : List Sub). sub_at size at x ∷ xs) (subs_at-push size after ss s ∙ ap (λ (k : ℕ). subs_at size after ss ++ sub_at size k s ∷ []) here)

flat_map-push : (ss : List SubRecord) (s : SubRecord) (after : List ℕ) → flat_map sub_record_text (ss ++ s ∷ []) ++ after ≡ flat_map sub_record_text ss
    ++ (sub_record_text s ++ after)
flat_map-push ss s after =
    ap (λ (xs : List ℕ). xs ++ after) (flat_map-append sub_record_text ss (s ∷ []) ∙ ap (λ (xs : List ℕ). flat_map sub_record_text ss ++ xs)
    (append-nil (sub_record_text s)))
    ∙ append_assoc (flat_map sub_record_text ss) (sub_record_text s) after

-- one sub-record more was read
pub step : (size : IdSize) (base : ℕ) (body rest text after : List ℕ) (old list : List Sub) (sub : Sub) → IsReadSoFar size base body rest old list → rest ≡ text
    → BeginsWithSub size (base + (length body - length rest)) text sub after → IsReadSoFar size base body after old (list ++ sub ∷ [])
step size base body rest text after old list sub h is f =
    let here : sub ≡ sub_at size (base + length (flat_map sub_record_text h.front)) f.s = f.sub_is
    ∙ ap (λ (k : ℕ). sub_at size k f.s) (place size base body rest old list h) in
    record {
      front = h.front ++ f.s ∷ [];
      whole = h.whole ∙ ap (λ (xs : List ℕ). flat_map sub_record_text h.front ++ xs) (is ∙ f.whole) ∙ sym (flat_map-push h.front f.s after);
      each = all_more size h.front f.s h.each f.is;
      list_is = ap (λ (xs : List Sub). xs ++ sub ∷ []) h.list_is
          ∙ append_assoc old (subs_at size base h.front) (sub ∷ [])
          ∙ ap (λ (x : Sub). old ++ (subs_at size base h.front ++ x ∷ [])) here
          ∙ ap (λ (xs : List Sub). old ++ xs) (sym (subs_at-push size base h.front f.s));
    }

text-some : (s : SubRecord) → 0 < length (sub_record_text s)
text-some (RootOf kind id more) = omega arith
text-some (ClassDump head constants statics fields) = omega arith
text-some (InstanceDump id serial class count values) = omega arith
text-some (ObjectArray id serial count class elements) = omega arith
text-some (PrimitiveArray id serial count element elements) = omega arith

-- what is left then is less
pub after-lt : (size : IdSize) (at : ℕ) (rest after : List ℕ) (sub : Sub) → BeginsWithSub size at rest sub after → length after < length rest
after-lt size at rest after sub f =
    omega (arith, ap length f.whole, length-append (sub_record_text f.s) after, text-some f.s)

-- no sub-record can be read from what is left
pub is_fault : (size : IdSize) (base : ℕ) (body rest : List ℕ) (old list : List Sub) (cause : Cause) → IsReadSoFar size base body rest old list
    → IsStuck size rest cause → IsSegmentFault size base body (fault cause (base + (length body - length rest)))
is_fault size base body rest old list cause h stuck = record {
  front = h.front;
  rest = rest;
  whole = h.whole;
  each = h.each;
  stuck = stuck;
  place = place size base body rest old list h;
}

-- nothing is left
pub is_whole : (size : IdSize) (base : ℕ) (body rest : List ℕ) (old list : List Sub) → IsReadSoFar size base body rest old list → rest ≡ []
    → AppendsSegment size base body old list
is_whole size base body rest old list h none = record {
  subs = h.front;
  whole = record {
    whole = h.whole ∙ ap (λ (xs : List ℕ). flat_map sub_record_text h.front ++ xs) none ∙ append-nil (flat_map sub_record_text h.front);
    each =
        h.each;
  };
  list_is = h.list_is;
}

-- what a reader has read of a body, and what is left
pub record IsReadByNow (base : ℕ) (body rest : List ℕ) (old new : Reader) : Type 0 where
  pub read : IsReadSoFar old.size base body rest old.subs new.subs
  pub same : new ≡ record old { subs = new.subs }

pub begin-reading : (base : ℕ) (body : List ℕ) (old : Reader) → IsReadByNow base body body old old
begin-reading base body old = record { read = begin old.size base body old.subs; same = refl }

-- what is left lies behind what was read
pub rest-lies : (bytes : List ℕ) (base : ℕ) (body rest : List ℕ) (old new : Reader) → IsReadByNow base body rest old new → LiesAt bytes base body
    → LiesAt bytes (base + (length body - length rest)) rest
rest-lies bytes base body rest old new h lies =
    let front : List ℕ = flat_map sub_record_text h.read.front in
    let k : ℕ = length front in
    let sum : length body ≡ k + length rest = ap length h.read.whole ∙ length-append front rest in
    let at : base + k ≡ base + (length body - length rest) = omega (arith, sum) in
    sym (drop_at front rest k refl)
    ∙ ap (λ (xs : List ℕ). drop k xs) (sym h.read.whole ∙ lies ∙ ap (λ (m : ℕ). take m (drop base bytes)) sum)
    ∙ drop-take k (length rest) (drop base bytes)
    ∙ ap (λ (xs : List ℕ). take (length rest) xs) (drop-drop k base bytes ∙ ap (λ (j : ℕ). drop j bytes) at)

-- one sub-record more was read
pub read-next : (base : ℕ) (body rest text after : List ℕ) (old now new : Reader) → IsReadByNow base body rest old now → rest ≡ text
    → AppendsSub (base + (length body - length rest)) text now new after → IsReadByNow base body after old new
read-next base body rest text after old now new h is a =
    let size : now.size ≡ old.size = ap (λ (r : Reader). r.size) h.same in
    let begins = subst (λ (s : IdSize). BeginsWithSub s (base + (length body - length rest)) text a.sub after) size a.begins in
    let s : IsReadSoFar old.size base body after old.subs (now.subs ++ a.sub ∷ []) =
    step old.size base body rest text after old.subs now.subs a.sub h.read is begins in
    let subs : new.subs ≡ now.subs ++ a.sub ∷ [] = ap (λ (r : Reader). r.subs) a.is in
    record {
      read = subst (λ (xs : List Sub). IsReadSoFar old.size base body after old.subs xs) (sym subs) s;
      same = a.is ∙ ap (λ (r : Reader). let x : Reader = record r { subs = now.subs ++ a.sub ∷ [] } in x) h.same
          ∙ ap (λ (xs : List Sub). let x : Reader = record old { subs = xs } in x) (sym subs);
    }

pub grown : (base : ℕ) (body rest : List ℕ) (old new : Reader) → IsReadByNow base body rest old new → HasGrown old new
grown base body rest old new h = record {
  more = subs_at old.size base h.read.front;
  is = h.same ∙ ap (λ (xs : List Sub). let x : Reader = record old { subs = xs } in x) h.read.list_is;
}
