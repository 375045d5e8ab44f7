-- The record at the front of some bytes, and what it says.
-- Source: HPROF binary format: u1 tag, u4 time, u4 length of the body, the body.
use Rattle.std.specs.Prelude.{◌≡◌, ℕ, ◌≤◌, List, [], ◌∷◌, ◌++◌, length}
use Rattle.std.specs.List.{filter_map}
use Rattle.hd_terms.specs.declared.IdSize.{IdSize}
use Rattle.hd_terms.specs.declared.Span.{Span}
use Rattle.hd_terms.specs.declared.Text.{Text}
use Rattle.hd_terms.specs.declared.Load.{Load}
use Rattle.hd_terms.specs.Records.{Record, IsFramed, least_body, record_text, segment_spans, text_of, load_of}
use Rattle.hd_terms.specs.ReadFaults.{IsCutOff}

-- the bytes begin with a framed record of this tag and this body, and these bytes come after it
pub record BeginsWithFramed (rest : List ℕ) (tag : ℕ) (body after : List ℕ) : Type 0 where
  pub r : Record
  pub framed : IsFramed r
  pub tag_is : r.tag ≡ tag
  pub body_is : r.body ≡ body
  pub whole : rest ≡ record_text r ++ after

-- and the record can be read
pub record BeginsWithRecord (size : IdSize) (rest : List ℕ) (tag : ℕ) (body after : List ℕ) : Type 0 where
  pub begins : BeginsWithFramed rest tag body after
  pub fields : least_body size tag ≤ length body

-- the bytes end inside a record
pub record IsCutOffRecord (rest : List ℕ) : Type 0 where
  pub r : Record
  pub framed : IsFramed r
  pub cut : IsCutOff rest (record_text r)

-- a record of a tag and a body: neither its time nor the bytes of its length tell what it says
abbrev saying : ℕ → List ℕ → Record
saying tag body = record { tag = tag; time = []; size = []; body = body }

-- the text of the record at an offset, if it has one
abbrev pub texts_of : IdSize → ℕ → ℕ → List ℕ → List Text
texts_of size at tag body = filter_map (text_of size) ((at, saying tag body) ∷ [])

-- the class that a record says was loaded, if it says so
abbrev pub loads_of : IdSize → ℕ → List ℕ → List Load
loads_of size tag body = filter_map (load_of size) (saying tag body ∷ [])

-- where the body of the record at an offset lies, if it is a segment
abbrev pub spans_of : ℕ → ℕ → List ℕ → List Span
spans_of at tag body = segment_spans at (saying tag body ∷ [])
