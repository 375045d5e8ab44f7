-- Parts of a CLASS DUMP at the front of some bytes: its head, its lists and their items.
use Rattle.std.specs.Prelude.{◌≡◌, ◌≢◌, ℕ, ◌+◌, ◌<◌, true, false, List, [], ◌∷◌, ◌++◌, length}
use Rattle.byteorder.specs.Endian.{big_number}
use Rattle.hd_terms.specs.declared.IdSize.{IdSize}
use Rattle.hd_terms.specs.declared.errors.Cause.TheVariants.{ShortSub, UnknownType}
use Rattle.hd_terms.specs.Records.{id_len}
use Rattle.hd_terms.specs.SubRecords.{ClassHead, ClassValue, ClassField, Counted, IsCounted, IsBegun, counted_text, ConstantItem, StaticItem, FieldItem}
use Rattle.hd_terms.specs.SubRecords.{field_item}
use Rattle.hd_terms.specs.Types.{is_type, value_len}
use Rattle.hd_terms.specs.ReadFaults.{IsStuck}
use Rattle.hd_subs.specs.declared.class_reading.Head.{Head}
use Rattle.hd_subs.specs.declared.class_reading.Stop.{Stop}
use Rattle.hd_subs.specs.declared.class_reading.Stop.TheVariants as stops

-- the bytes at an offset begin with the text of something valid, which holds b; these bytes come after it, and lie at `end`
pub record BeginsWith {A B : Type 0} (Is : A → Type 0) (text : A → List ℕ) (item : ℕ → A → B) (at : ℕ) (rest : List ℕ) (b : B) (after : List ℕ)
    (end : ℕ) : Type 0 where
  pub a : A
  pub is : Is a
  pub whole : rest ≡ text a ++ after
  pub item_is : b ≡ item at a
  pub end_is : end ≡ at + length (text a)

-- these bytes end inside the text of something valid
pub record EndsInside {A : Type 0} (Is : A → Type 0) (text : A → List ℕ) (rest : List ℕ) : Type 0 where
  pub a : A
  pub is : Is a
  pub missing : List ℕ
  pub lacks : missing ≢ []
  pub whole : rest ++ missing ≡ text a

-- the two bytes of a count, and what is behind them
pub record HasCount (at : ℕ) (rest : List ℕ) (many : ℕ) (after : List ℕ) (end : ℕ) : Type 0 where
  pub count : List ℕ
  pub long : length count ≡ 2
  pub whole : rest ≡ count ++ after
  pub many_is : many ≡ big_number 2 count
  pub end_is : end ≡ at + 2

-- these bytes begin with a key of n bytes and an unknown type
pub record HasOtherType (n : ℕ) (rest : List ℕ) : Type 0 where
  pub key : List ℕ
  pub code : ℕ
  pub more : List ℕ
  pub long : length key ≡ n
  pub whole : rest ≡ key ++ code ∷ more
  pub other : is_type code ≡ false

-- these bytes begin with the first items of a list, of which there are more, and the next has an unknown type
pub record HasOtherTypeIn {A : Type 0} (Is : A → Type 0) (text : A → List ℕ) (n : ℕ) (rest : List ℕ) : Type 0 where
  pub begun : Counted A
  pub is : IsBegun Is begun
  pub behind : List ℕ
  pub whole : rest ≡ counted_text text begun ++ behind
  pub other : HasOtherType n behind

-- these bytes begin with a key of n bytes and a type, whose values have `bytes` bytes; what is behind them lies at `end`
pub record BeginsWithType (size : IdSize) (n at : ℕ) (rest : List ℕ) (code bytes : ℕ) (behind : List ℕ) (end : ℕ) : Type 0 where
  pub key : List ℕ
  pub long : length key ≡ n
  pub whole : rest ≡ key ++ code ∷ behind
  pub known : is_type code ≡ true
  pub bytes_is : bytes ≡ value_len size code
  pub end_is : end ≡ at + (n + 1)

-- why no type can be read behind a key of n bytes
abbrev pub IsTypeStop : ℕ → List ℕ → Stop → Type 0
IsTypeStop n rest stops.Short = length rest < n + 1
IsTypeStop n rest stops.UnknownType = HasOtherType n rest
IsTypeStop n rest stops.NoMemory = Unit {0}

-- why no item can be read, whose key has n bytes
abbrev pub IsItemStop : {A : Type 0} → (A → Type 0) → (A → List ℕ) → ℕ → List ℕ → Stop → Type 0
IsItemStop Is text n rest stops.Short = EndsInside Is text rest
IsItemStop Is text n rest stops.UnknownType = HasOtherType n rest
IsItemStop Is text n rest stops.NoMemory = Unit {0}

-- why no list of such items can be read
abbrev pub IsListStop : {A : Type 0} → (A → Type 0) → (A → List ℕ) → ℕ → List ℕ → Stop → Type 0
IsListStop Is text n rest stops.Short = EndsInside (IsCounted Is) (counted_text text) rest
IsListStop Is text n rest stops.UnknownType = HasOtherTypeIn Is text n rest
IsListStop Is text n rest stops.NoMemory = Unit {0}

-- why no class can be read from the fields of a CLASS DUMP
abbrev pub IsClassStop : IdSize → List ℕ → Stop → Type 0
IsClassStop size fields stops.Short = IsStuck size (0x20 ∷ fields) ShortSub
IsClassStop size fields stops.UnknownType = IsStuck size (0x20 ∷ fields) UnknownType
IsClassStop size fields stops.NoMemory = Unit {0}

-- what the items hold whose texts begin at an offset, one behind the other
abbrev pub items_at : {A B : Type 0} → (ℕ → A → B) → (A → List ℕ) → ℕ → List A → List B
items_at item text at [] = []
items_at item text at (x ∷ xs) = item at x ∷ items_at item text (at + length (text x)) xs

-- what the list holds whose count lies at an offset
abbrev pub list_at : {A B : Type 0} → (ℕ → A → B) → (A → List ℕ) → ℕ → Counted A → List B
list_at item text at c = items_at item text (at + 2) c.items

-- what a class value at an offset holds, whose key has n bytes
abbrev pub typed_item : IdSize → ℕ → ℕ → ClassValue → ConstantItem
typed_item size n at v = record { code = v.code; value = record { start = at + n + 1; len = value_len size v.code } }

abbrev pub static_item : IdSize → ℕ → ClassValue → StaticItem
static_item size at v = record {
  name = big_number (id_len size) v.key;
  code = v.code;
  value =
      record { start = at + id_len size + 1; len = value_len size v.code };
}

-- a field holds no offset
abbrev pub field_at : IdSize → ℕ → ClassField → FieldItem
field_at size at f = field_item size f

-- the IDs of a head
abbrev pub head_item : IdSize → ℕ → ClassHead → Head
head_item size at h = record {
  id = big_number (id_len size) h.id;
  super_id = big_number (id_len size) h.super;
  loader = big_number (id_len size) h.loader;
  signers = big_number (id_len size) h.signers;
  domain = big_number (id_len size) h.domain;
}
