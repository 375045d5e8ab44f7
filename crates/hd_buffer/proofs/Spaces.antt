-- A space in two parts, and as one. Assumes `Logic`.
use Rattle.std.proofs.Common.{◌≡◌, ℕ, suc, true, ◌+◌, ◌-◌, ◌*◌, ◌≤◌, List, [], ◌∷◌, ◌++◌, length, refl, sym, arith}
use lib.ListN.{length-append}
use seplogic.Ra.Ura.{Ura}
use mir.Syntax.{Ty, given as dict_at, ty_int, ty_array, w8}
use base.Fraction.{full_share}
use base.Logic.{ent, sep, emp, never, id⊢}
use base.Fml.{Fml, ftrue, fsep, feq, froom}
use types.Logic.{Logic, sem}
use types.Kit.{‵, ◌⊛◌, ◌$◌, ◌∵◌, !, qed, by, move, keep, use0, use1, use2, drop, split, fsplit, fjoin, feq_i, rewrite, done}
use denote.Array.{Array}
use denote.Builtin.{u8}
use denote.Memory.{part_at}
use denote.RawPtr.{Ptr, block_ptr, null_ptr, lies_at, room_for, in_a_block, ◌+ₚ◌}
use denote.RawPtr.Bytes.{bytes, bytes_apart, bytes_glue, bytes_whole, bytes-room}
use denote.Steps.{nothing}
use Rattle.std_alloc.proofs.VecSteps.El.{El}
use Rattle.std_alloc.proofs.VecSteps.Rows.{room_split, glued}
use Rattle.std.proofs.lemmas.Bool.{ne_eqb, not_from_false}
use Rattle.std_alloc.specs.Vec.Ownership.{has_block}
use Rattle.bytes.proofs.Lodging.{byte_laws}
use Rattle.hd_buffer.specs.Space.{space_owns}

-- a `Vec` of some capacity has a block
pub live : (c : ℕ) → has_block (suc c) ≡ true
live c = not_from_false _ (ne_eqb (suc c) 0 (λ e. omega arith))

abbrev pub byte : Ty
byte = ty_int w8

-- a byte, where an element's type is asked for
abbrev E : El
E = record {
  row = u8;
  laws = byte_laws;
  al = record {
    row = u8;
    laws = byte_laws;
    g = record { dealloc_token = λ _ _ _. ftrue };
    d = dict_at 0;
    drops =
        dict_at 0;
  };
}

module _ {M : Type 1} {𝓤 : Ura M} (𝓛 : Logic 𝓤) where
  -- room for n bytes, from the o-th of a block on
  abbrev pub room : ℕ → ℕ → ℕ → Fml
  room n b o = froom (ty_array byte n) b o

  abbrev pub array : List ℕ → ℕ → ℕ → Fml
  array xs b o = part_at (Array u8 (length xs)) full_share xs b o

  -- no space is at null
  pub nowhere : (n : ℕ) (xs : List ℕ) → ent 𝓤 (sem 𝓛 (space_owns null_ptr n xs)) (never 𝓤)
  nowhere n xs = qed 𝓛 (‵ (space_owns null_ptr n xs) ∷ []) ∵ fsplit ! $ keep ! (0 ∷ []) $ done !

  -- no bytes lie anywhere
  pub no_bytes : (b o : ℕ) → ent 𝓤 (emp 𝓤) (sem 𝓛 (array [] b o))
  no_bytes b o = qed 𝓛 [] ∵ nothing ! $ feq_i ! ℕ 0 0 refl $ fjoin ! $ by ! (bytes_whole 𝓛 full_share 0 [] b o)

  pub glue : (xs ys : List ℕ) (b o : ℕ) → ent 𝓤 (sep 𝓤 (sem 𝓛 (array xs b o)) (sem 𝓛 (array ys b (o + length xs)))) (sem 𝓛 (array (xs ++ ys) b o))
  glue xs ys b o =
      let at = o + length xs in
      qed 𝓛 (‵ (array xs b o) ∷ ‵ (array ys b at) ∷ []) ∵
      use1 𝓛 (‵ (fsep (feq ℕ (length xs) (length xs)) (bytes full_share xs b o))) (bytes_apart 𝓛 full_share (length xs) xs b o) $ fsplit ! $ drop ! $ move !
      (1 ∷ []) $
      use1 𝓛 (‵ (fsep (feq ℕ (length ys) (length ys)) (bytes full_share ys b at))) (bytes_apart 𝓛 full_share (length ys) ys b at) $ fsplit ! $ drop ! $ move !
      (1 ∷ 0 ∷ []) $
      use2 𝓛 (‵ (bytes full_share (xs ++ ys) b o)) (bytes_glue 𝓛 full_share xs ys b o) $
      feq_i ! ℕ (length (xs ++ ys)) (length (xs ++ ys)) refl $ fjoin ! $ by ! (bytes_whole 𝓛 full_share (length (xs ++ ys)) (xs ++ ys) b o)

  -- room for n bytes is a space without values, and back
  pub opened : (n b o : ℕ) → ent 𝓤 (sem 𝓛 (space_owns (block_ptr b o) n [])) (sem 𝓛 (room n b o))
  opened n b o =
      let count : n - 0 ≡ n = omega arith in
      let place : o + 0 ≡ o = omega arith in
      qed 𝓛 (‵ (space_owns (block_ptr b o) n []) ∷ []) ∵ fsplit ! $ drop ! $
      rewrite ! 0 (λ i. ‵ (room i b (o + 0))) count refl $ rewrite ! 0 (λ i. ‵ (room n b i)) place refl $ done !

  pub closed : (n b o : ℕ) → ent 𝓤 (sem 𝓛 (room n b o)) (sem 𝓛 (space_owns (block_ptr b o) n []))
  closed n b o =
      let count : n ≡ n - 0 = omega arith in
      let place : o ≡ o + 0 = omega arith in
      qed 𝓛 (‵ (room n b o) ∷ []) ∵ rewrite ! 0 (λ i. ‵ (room i b o)) count refl $ rewrite ! 0 (λ i. ‵ (room (n - 0) b i)) place refl $
      use0 𝓛 (‵ (array [] b o)) (no_bytes b o) $ fjoin ! $ done !

  -- room in two parts
  pub parted : (p : Ptr) (k n : ℕ) → k ≤ n → ent 𝓤 (sem 𝓛 (space_owns p n [])) (sep 𝓤 (sem 𝓛 (space_owns p k [])) (sem 𝓛 (space_owns (p +ₚ k) (n - k) [])))
  parted p k n le =
      qed 𝓛 (‵ (space_owns p n []) ∷ []) ∵ fsplit ! $ in_a_block ! p (λ r. lies_at (Array u8 0) full_share r []) (id⊢ 𝓤 (never 𝓤)) (λ b o at.
      let place : o + k * 1 ≡ o + k = omega arith in
      rewrite ! 1 (λ r. ‵ (room_for (ty_array byte (n - 0)) (r +ₚ 0))) at refl $ fjoin ! $
      use1 𝓛 (‵ (room n b o)) (opened n b o) $
      use1 𝓛 (‵ (room k b o) ⊛ ‵ (room (n - k) b (o + k * 1))) (room_split E 𝓛 k n b o le) $ split ! $
      rewrite ! 1 (λ i. ‵ (room (n - k) b i)) place refl $
      use1 𝓛 (‵ (space_owns (block_ptr b o) k [])) (closed k b o) $ rewrite ! 0 (λ r. ‵ (space_owns r k [])) (sym at) refl $ move ! (1 ∷ []) $
      use1 𝓛 (‵ (space_owns (block_ptr b (o + k)) (n - k) [])) (closed (n - k) b (o + k)) $ rewrite ! 0 (λ r. ‵ (space_owns (r +ₚ k) (n - k) []))
      (sym at) refl $ move ! (1 ∷ 0 ∷ []) $ done !)

  -- bytes side by side, and the room after them
  pub united : (p : Ptr) (n m : ℕ) (xs ys : List ℕ) → length xs ≡ n → ent 𝓤 (sep 𝓤 (sem 𝓛 (space_owns p n xs)) (sem 𝓛 (space_owns (p +ₚ n) m ys)))
      (sem 𝓛 (space_owns p (n + m) (xs ++ ys)))
  united p n m xs ys long =
      qed 𝓛 (‵ (space_owns p n xs) ∷ ‵ (space_owns (p +ₚ n) m ys) ∷ []) ∵ fsplit ! $ in_a_block ! p (λ r. lies_at (Array u8 (length xs)) full_share r xs)
      (id⊢ 𝓤 (never 𝓤)) (λ b o at.
      let sum = length-append xs ys in
      let count : m - length ys ≡ n + m - length (xs ++ ys) = omega arith in
      let place : o + length xs + length ys ≡ o + length (xs ++ ys) = omega arith in
      move ! (2 ∷ []) $ rewrite ! 0 (λ r. ‵ (space_owns (r +ₚ n) m ys)) at refl $ rewrite ! 0 (λ i. ‵ (space_owns (block_ptr b (o + i)) m ys))
      (sym long) refl $ fsplit ! $
      keep ! (2 ∷ 0 ∷ 1 ∷ []) $ use2 𝓛 (‵ (array (xs ++ ys) b o)) (glue xs ys b o) $
      rewrite ! 1 (λ i. ‵ (room i b (o + length xs + length ys))) count refl $ rewrite ! 1
      (λ i. ‵ (room (n + m - length (xs ++ ys)) b i)) place refl $ fjoin ! $
      rewrite ! 0 (λ r. ‵ (space_owns r (n + m) (xs ++ ys))) (sym at) refl $ done !)

  -- the bytes are let go
  pub forgotten : (p : Ptr) (n : ℕ) (xs : List ℕ) → length xs ≤ n → ent 𝓤 (sem 𝓛 (space_owns p n xs)) (sem 𝓛 (space_owns p n []))
  forgotten p n xs within =
      qed 𝓛 (‵ (space_owns p n xs) ∷ []) ∵ fsplit ! $ in_a_block ! p (λ r. lies_at (Array u8 (length xs)) full_share r xs) (id⊢ 𝓤 (never 𝓤)) (λ b o at.
      let whole : length xs + (n - length xs) ≡ n = omega arith in
      let place : o + length xs ≡ o + length xs * 1 = omega arith in
      rewrite ! 1 (λ r. ‵ (room_for (ty_array byte (n - length xs)) (r +ₚ length xs))) at refl $ rewrite ! 1 (λ i. ‵ (room (n - length xs) b i)) place refl $
      use1 𝓛 (‵ (fsep (feq ℕ (length xs) (length xs)) (bytes full_share xs b o))) (bytes_apart 𝓛 full_share (length xs) xs b o) $ fsplit ! $ drop ! $
      use1 𝓛 (‵ (room (length xs) b o)) (bytes-room 𝓛 xs b o) $
      use2 𝓛 (‵ (room n b o)) (glued E 𝓛 (length xs) (n - length xs) n b o whole) $
      use1 𝓛 (‵ (space_owns (block_ptr b o) n [])) (closed n b o) $ rewrite ! 0 (λ r. ‵ (space_owns r n [])) (sym at) refl $ done !)
