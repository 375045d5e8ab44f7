-- What reading the records of a file comes to.
-- Source: HPROF binary format, JAVA PROFILE 1.0.2.
use Rattle.std.specs.Prelude.{◌≡◌, ◌⊎◌, ℕ, List}
use Rattle.hd_terms.specs.declared.IdSize.{IdSize}
use Rattle.hd_terms.specs.declared.Span.{Span}
use Rattle.hd_terms.specs.declared.Text.{Text}
use Rattle.hd_terms.specs.declared.Load.{Load}
use Rattle.hd_terms.specs.declared.errors.Cause.TheVariants.{OutOfMemory}
use Rattle.hd_terms.specs.declared.errors.ReadFault.{ReadFault}
use Rattle.hd_terms.specs.Records.{Record, HasHeader, AreRecords, header_len, texts, loads, segment_spans}
use Rattle.hd_terms.specs.ReadFaults.{fault, IsRecordsFault}

-- a file with this identifier size, with these texts and loaded classes, whose segments have their bodies there
pub record ReadsRecords (bytes : List ℕ) (size : IdSize) (strings : List Text) (classes : List Load) (segments : List Span) : Type 0 where
  pub header : HasHeader size bytes
  pub records : List Record
  pub whole : AreRecords size bytes records
  pub strings_are : strings ≡ texts size records
  pub loads_are : classes ≡ loads size records
  pub spans : segments ≡ segment_spans header_len records

-- a fault of the header and the records, or out of memory
abbrev pub IsRecordsFaultOrMemory : List ℕ → ReadFault → Type 0
IsRecordsFaultOrMemory bytes f = (f ≡ fault OutOfMemory 0) ⊎ IsRecordsFault bytes f
