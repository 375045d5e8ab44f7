-- Records of a file: the header of 31 bytes, and then one record after another.
-- Source: HPROF binary format, JAVA PROFILE 1.0.2, and 1.0.1, as JDK 8 writes it. That all that follows the header of 1.0.1
-- is read as for 1.0.2 is this project's choice. The header is the zero-terminated text, u4 identifier size, u4 and u4
-- of time; a record is u1 tag, u4 time, u4 length of the body, the body. Numbers have their highest byte first.
use Rattle.std.specs.Prelude.{◌≡◌, ℕ, ◌+◌, ◌-◌, ◌*◌, ◌≤◌, Bool, true, ◌||◌, ◌==◌, if◌then◌else◌, List, [], ◌∷◌, ◌++◌, length, take, drop, codes, Option, Some}
use Rattle.std.specs.Prelude.{None}
use Rattle.std.specs.List.{flat_map, filter_map, AllByRecursion}
use Rattle.std.specs.Str.{bytes_eq}
use Rattle.byteorder.specs.Endian.{big_number}
use Rattle.hd_terms.specs.declared.IdSize.{IdSize}
use Rattle.hd_terms.specs.declared.IdSize.TheVariants as sizes
use Rattle.hd_terms.specs.declared.Span.{Span}
use Rattle.hd_terms.specs.declared.Text.{Text}
use Rattle.hd_terms.specs.declared.Load.{Load}

-- the bytes of an identifier
abbrev pub id_len : IdSize → ℕ
id_len sizes.Four = 4
id_len sizes.Eight = 8

-- the largest file that is read, in bytes
abbrev pub largest_file : ℕ
largest_file = 2147483647

-- the bytes of the header
abbrev pub header_len : ℕ
header_len = 31

-- the texts that a file may begin with, each with its zero byte
abbrev pub magic_1_0_1 : List ℕ
magic_1_0_1 = codes "JAVA PROFILE 1.0.1" ++ 0 ∷ []

abbrev pub magic_1_0_2 : List ℕ
magic_1_0_2 = codes "JAVA PROFILE 1.0.2" ++ 0 ∷ []

-- the file begins with one of these texts
abbrev pub has_magic : List ℕ → Bool
has_magic bytes = bytes_eq (take 19 bytes) magic_1_0_2 || bytes_eq (take 19 bytes) magic_1_0_1

-- the number that the header gives as identifier size
abbrev pub id_size_of : List ℕ → ℕ
id_size_of bytes = big_number 4 (drop 19 bytes)

-- a record: its tag, the four bytes of its time, the four bytes of its length, its body
pub record Record : Type 0 where
  pub tag : ℕ
  pub time : List ℕ
  pub size : List ℕ
  pub body : List ℕ

-- the time and the size have four bytes each, and the size reads as the length of the body
pub record IsFramed (r : Record) : Type 0 where
  pub time : length r.time ≡ 4
  pub size : length r.size ≡ 4
  pub body : length r.body ≡ big_number 4 r.size

-- the least bytes of a body, by the record's tag: UTF8 begins with an ID; LOAD CLASS has u4 class serial, the ID of the
-- class object, u4 stack trace serial, the ID of the name
abbrev pub least_body : IdSize → ℕ → ℕ
least_body size tag = if tag == 0x01 then id_len size else if tag == 0x02 then 8 + 2 * id_len size else 0

-- a record that can be read: it is framed, and its body has its fields
pub record IsRecord (size : IdSize) (r : Record) : Type 0 where
  pub framed : IsFramed r
  pub fields : least_body size r.tag ≤ length r.body

-- how a record is spelled
abbrev pub record_text : Record → List ℕ
record_text r = r.tag ∷ r.time ++ r.size ++ r.body

-- the header stands as it has to
pub record HasHeader (size : IdSize) (bytes : List ℕ) : Type 0 where
  pub fits : length bytes ≤ largest_file
  pub long : header_len ≤ length bytes
  pub magic : has_magic bytes ≡ true
  pub id_size : id_size_of bytes ≡ id_len size

-- the records of a file: what follows the header is their spellings, joined
pub record AreRecords (size : IdSize) (bytes : List ℕ) (records : List Record) : Type 0 where
  pub whole : drop header_len bytes ≡ flat_map record_text records
  pub each : AllByRecursion (IsRecord size) records

-- HEAP DUMP and HEAP DUMP SEGMENT have sub-records as their bodies
abbrev pub is_segment : Record → Bool
is_segment r = (r.tag == 0x0c) || (r.tag == 0x1c)

-- where the bodies of the segments lie, for records that begin at a place of the file
abbrev pub segment_spans : ℕ → List Record → List Span
segment_spans at [] = []
segment_spans at (r ∷ rs) =
    if is_segment r then (record { start = at + 9; len = length r.body }) ∷ segment_spans (at + 9 + length r.body) rs
    else segment_spans (at + 9 + length r.body) rs

-- records that begin at a place of the file, each with its own
abbrev pub placed : ℕ → List Record → List (ℕ × Record)
placed at [] = []
placed at (r ∷ rs) = (at, r) ∷ placed (at + 9 + length r.body) rs

-- the text of a UTF8 record: its ID, and the place of what follows the ID
abbrev pub text_of : IdSize → ℕ × Record → Option Text
text_of size (at, r) =
    if r.tag == 0x01 then Some (record {
      id = big_number (id_len size) r.body;
      text = record { start = at + 9 + id_len size; len = length r.body - id_len size };
    }) else None

-- the texts of a file, in file order
abbrev pub texts : IdSize → List Record → List Text
texts size records = filter_map (text_of size) (placed header_len records)

-- what a LOAD CLASS record says: the IDs of the class object and of its name
abbrev pub load_of : IdSize → Record → Option Load
load_of size r =
    if r.tag == 0x02 then Some (record {
      class = big_number (id_len size) (drop 4 r.body);
      name = big_number (id_len size) (drop (8 + id_len size) r.body);
    }) else None

-- the loaded classes of a file, in file order
abbrev pub loads : IdSize → List Record → List Load
loads size records = filter_map (load_of size) records
