-- Memory that several threads fill: who owns it.
-- Source: this project.
use Rattle.std.specs.Prelude.{refl, ℕ, ◌-◌, List, length}
use Rattle.std.specs.Coded.{Coded, code_by, coded×, coded_ℕ}
use mir.Syntax.{ty_int, ty_array, w8}
use base.Fraction.{full_share}
use base.Fml.{Fml, fsep}
use denote.Array.{Array}
use denote.Builtin.{u8}
use denote.RawPtr.{Ptr, coded_ptr, lies_at, room_for, ◌+ₚ◌}

-- where memory begins, and how many bytes it has
pub record Extent : Type 0 where
  pub ptr : Ptr
  pub capacity : ℕ

-- it is stored as the pair of its fields
abbrev pub extent_code : Coded Extent
extent_code = code_by (Ptr × ℕ) (coded× coded_ptr coded_ℕ) (λ e. (e.ptr, e.capacity)) (λ p. record { ptr = p.0; capacity = p.1 }) (λ _. refl)

-- xs lie at p, and directly after them is room for what is left of `capacity` bytes
abbrev pub space_owns : Ptr → ℕ → List ℕ → Fml
space_owns p capacity xs = fsep (lies_at (Array u8 (length xs)) full_share p xs) (room_for (ty_array (ty_int w8) (capacity - length xs)) (p +ₚ length xs))
