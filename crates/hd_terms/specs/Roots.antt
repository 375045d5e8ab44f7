-- The roots of a dump.
-- Source: HPROF binary format, the ROOT sub-records.
use Rattle.std.specs.Prelude.{List, Option, Some, None}
use Rattle.std.specs.List.{filter_map}
use Rattle.byteorder.specs.Endian.{big_number}
use Rattle.hd_terms.specs.declared.IdSize.{IdSize}
use Rattle.hd_terms.specs.Records.{id_len}
use Rattle.hd_terms.specs.SubRecords.{SubRecord, RootOf, ClassDump, InstanceDump, ObjectArray, PrimitiveArray}
use Rattle.hd_terms.specs.Dump.{Root}

-- the root of a root sub-record
abbrev pub root_of : IdSize → SubRecord → Option Root
root_of size (RootOf kind id more) = Some (record { kind = kind; id = big_number (id_len size) id })
root_of size (ClassDump head constants statics fields) = None
root_of size (InstanceDump id serial class count values) = None
root_of size (ObjectArray id serial count class elements) = None
root_of size (PrimitiveArray id serial count element elements) = None

-- the roots of sub-records, in their order
abbrev pub roots_of : IdSize → List SubRecord → List Root
roots_of size subs = filter_map (root_of size) subs
