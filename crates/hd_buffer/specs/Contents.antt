-- What a buffer holds, and how its memory lies.
-- Source: this project.
use Rattle.std.specs.Prelude.{◌≡◌, refl, ℕ, ◌+◌, ◌^◌, ◌<◌, List, Vec}
use Rattle.std.specs.Coded.{Coded, code_by, coded×, coded_list, coded_ℕ}
use denote.RawPtr.{◌+ₚ◌}
use Rattle.std_alloc.specs.declared.vec.lodged.Lodged.{Lodged}
use Rattle.hd_buffer.specs.Space.{Extent}

-- the bytes that are filled, and how many more there is room for
pub record Contents : Type 0 where
  pub items : List ℕ
  pub room : ℕ

-- they are stored as the pair of the fields
abbrev pub contents_code : Coded Contents
contents_code = code_by (List ℕ × ℕ) (coded× (coded_list coded_ℕ) coded_ℕ) (λ c. (c.items, c.room)) (λ p. record { items = p.0; room = p.1 }) (λ _. refl)

-- a part without bytes directly after a part that is full, both together in memory of this extent
pub record AreSideBySide (filled room : Vec ℕ Lodged) (whole : Extent) : Type 0 where
  pub full : filled.len ≡ filled.cap
  pub empty : room.len ≡ 0
  pub next : room.ptr ≡ filled.ptr +ₚ filled.cap
  pub first : whole.ptr ≡ filled.ptr
  pub together : whole.capacity ≡ filled.cap + room.cap
  pub small : whole.capacity < 2 ^ 63
