-- What reading the sub-records of a segment comes to.
-- Source: HPROF binary format, HEAP DUMP and HEAP DUMP SEGMENT.
use Rattle.std.specs.Prelude.{◌≡◌, ◌⊎◌, ℕ, List, [], ◌∷◌, ◌++◌}
use Rattle.hd_terms.specs.declared.IdSize.{IdSize}
use Rattle.hd_terms.specs.declared.errors.Cause.TheVariants.{OutOfMemory}
use Rattle.hd_terms.specs.declared.errors.ReadFault.{ReadFault}
use Rattle.hd_terms.specs.SubRecords.{SubRecord, Sub, AreSubRecords, subs_at}
use Rattle.hd_terms.specs.ReadFaults.{fault, IsSegmentFault}
use Rattle.hd_subs.specs.ParsedSubs.{BeginsWithSub}

-- a list got the sub-records of a body at its end
pub record AppendsSegment (size : IdSize) (base : ℕ) (body : List ℕ) (old new : List Sub) : Type 0 where
  pub subs : List SubRecord
  pub whole : AreSubRecords size body subs
  pub list_is : new ≡ old ++ subs_at size base subs

-- a reader: the bytes of its file, the size of their IDs, and the sub-records that it has read
pub record Reader : Type 0 where
  pub bytes : List ℕ
  pub size : IdSize
  pub subs : List Sub

-- a reader got the sub-record that the bytes at an offset begin with, and these bytes come after it
pub record AppendsSub (at : ℕ) (rest : List ℕ) (old new : Reader) (after : List ℕ) : Type 0 where
  pub sub : Sub
  pub begins : BeginsWithSub old.size at rest sub after
  pub is : new ≡ record old { subs = old.subs ++ sub ∷ [] }

-- a reader got something at the end of its list, or nothing
pub record HasGrown (old new : Reader) : Type 0 where
  pub more : List Sub
  pub is : new ≡ record old { subs = old.subs ++ more }

-- a fault of a body at an offset, or out of memory
abbrev pub IsSegmentFaultOrMemory : IdSize → ℕ → List ℕ → ReadFault → Type 0
IsSegmentFaultOrMemory size base body f = (f ≡ fault OutOfMemory 0) ⊎ IsSegmentFault size base body f
