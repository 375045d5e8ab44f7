-- A `Vec` without elements is its memory and the way back. Assumes `Logic`.
use Rattle.std.proofs.Common.{◌≡◌, ℕ, zero, suc, List, [], ◌∷◌, length, refl, sym, ◌∙◌, arith, Vec}
use seplogic.Ra.Ura.{Ura}
use mir.Syntax.{Ty, ty_array}
use mir.Val.{Val}
use base.Logic.{ent, sep, never, id⊢}
use base.Fml.{Fml, ftrue, fsep, feq, fwand}
use types.Logic.{Logic, sem}
use types.Kit.{use0, use1, use2, split, drop, ◌⊛◌, ‵, ◌$◌, ◌∵◌, !, qed, move, frame, assume, show, fsplit, fjoin, feq_i, rewrite, done}
use denote.RattleType.{RattleType}
use denote.Builtin.{u8}
use denote.RawPtr.{Ptr, block_ptr, in_block, in_a_block}
use Rattle.std.specs.declared.alloc.Allocator.{Ghosts}
use Rattle.std.specs.Allocator.{block_with_items}
use Rattle.std_alloc.specs.Vec.Ownership.{owns_if, has_block}
use Rattle.std_alloc.specs.contracts.vec.Vec as V
use Rattle.hd_buffer.specs.Space.{space_owns}
use Rattle.hd_buffer.specs.contracts.space.Lender as Lender
use Rattle.hd_buffer.proofs.Spaces.{live, byte, room, closed}
use Rattle.bytes.proofs.Walks.{plainly, one, one_made}

none : (xs : List ℕ) → length xs ≡ 0 → xs ≡ []
none [] e = refl
none (x ∷ xs) e = absurd (omega arith)

-- A `Vec` whose capacity is 0 has no block, and nothing to take out.
module _ {M : Type 1} {𝓤 : Ura M} (𝓛 : Logic 𝓤) (t : Ty → Ptr → Fml) (b o : ℕ) where
  abbrev whole : ℕ → Fml
  whole c = owns_if (has_block c) (block_with_items t u8 (block_ptr b o) 0 c [])

  abbrev right : ℕ → Fml
  right c = owns_if (has_block c) (t (ty_array byte c) (block_ptr b o))

  apart : (c : ℕ) → ent 𝓤 (sem 𝓛 (whole c)) (sep 𝓤 (sem 𝓛 (space_owns (block_ptr b o) c [])) (sem 𝓛 (right c)))
  apart zero =
      qed 𝓛 (‵ ftrue ∷ []) ∵ use0 𝓛 (‵ (room 𝓛 0 b o)) (𝓛.laws.room_nil byte b o) $
      use1 𝓛 (‵ (space_owns (block_ptr b o) 0 [])) (closed 𝓛 0 b o) $ done !
  apart (suc c) =
      let Held = block_with_items t u8 (block_ptr b o) 0 (suc c) [] in
      let Right = t (ty_array byte (suc c)) (block_ptr b o) in
      qed 𝓛 (‵ (whole (suc c)) ∷ []) ∵ rewrite ! 0 (λ y. ‵ (owns_if y Held)) (live c) refl $ fsplit ! $ move ! (1 ∷ []) $ fsplit ! $ move !
      (2 ∷ 0 ∷ []) $ fjoin ! $
      move ! (1 ∷ []) $ rewrite ! 0 (λ y. ‵ (owns_if y Right)) (sym (live c)) refl $ move ! (1 ∷ 0 ∷ []) $ done !

  together : (c : ℕ) → ent 𝓤 (sep 𝓤 (sem 𝓛 (space_owns (block_ptr b o) c [])) (sem 𝓛 (right c))) (sem 𝓛 (whole c))
  together zero = qed 𝓛 (‵ (space_owns (block_ptr b o) 0 []) ∷ ‵ ftrue ∷ []) ∵ drop ! $ done !
  together (suc c) =
      let Held = block_with_items t u8 (block_ptr b o) 0 (suc c) [] in
      let Right = t (ty_array byte (suc c)) (block_ptr b o) in
      qed 𝓛 (‵ (space_owns (block_ptr b o) (suc c) []) ∷ ‵ (right (suc c)) ∷ []) ∵ move ! (1 ∷ []) $ rewrite ! 0 (λ y. ‵ (owns_if y Right))
      (live c) refl $ move ! (1 ∷ []) $ fsplit ! $
      move ! (1 ∷ 2 ∷ []) $ fjoin ! $ move ! (1 ∷ 0 ∷ []) $ fjoin ! $ rewrite ! 0 (λ y. ‵ (owns_if y Held)) (sym (live c)) refl $ done !

module _ (P : RattleType) (g : Ghosts P.Denot) {M : Type 1} {𝓤 : Ura M} (𝓛 : Logic 𝓤) (v : Vec ℕ P.Denot) (u : Val) where
  pub carve : v.len ≡ 0 → ent 𝓤 (sem 𝓛 ((V.the_row u8 P g).own_val v (u ∷ [])))
      (sep 𝓤 (sem 𝓛 (space_owns v.ptr v.cap [])) (sem 𝓛 (Lender.the_own P g (record { ptr = v.ptr; capacity = v.cap }) (one u ∷ []))))
  carve empty =
      let t = g.dealloc_token v.alloc in
      let Held = space_owns v.ptr v.cap [] in
      let Whole = λ (w : Vec ℕ P.Denot). (plainly (V.the_row u8 P g ∷ [])).own_val (w, tt) (one u ∷ []) in
      let nil : v.items ≡ [] = none v.items (sym v.ok.0 ∙ empty) in
      let Laid = λ (z : ℕ × List ℕ) (p : Ptr). owns_if (has_block v.cap) (block_with_items t u8 p z.0 v.cap z.1) in
      let both : (v.len, v.items) ≡ (0, []) = λ i. (empty i, nil i) in
      qed 𝓛 (‵ ((V.the_row u8 P g).own_val v (u ∷ [])) ∷ []) ∵ fsplit ! $ move ! (1 ∷ []) $ fsplit ! $ move ! (1 ∷ []) $
      in_a_block ! v.ptr (λ p. in_block p (Laid (v.len, v.items) p)) (id⊢ 𝓤 (never 𝓤)) (λ b o at.
      -- [the block; the bound; the fields]
      rewrite ! 0 (λ z. ‵ (Laid z (block_ptr b o))) both refl $
      use1 𝓛 (‵ (space_owns (block_ptr b o) v.cap []) ⊛ ‵ (right 𝓛 t b o v.cap)) (apart 𝓛 t b o v.cap) $ split ! $
      rewrite ! 0 (λ p. ‵ (space_owns p v.cap [])) (sym at) refl $ frame ! $
      show ! (λ i. sem 𝓛 (fsep (feq ℕ i.vec.len 0) (fwand Held (Whole i.vec)))) (record { vec = v }) $ feq_i ! ℕ v.len 0 empty $ frame ! $ assume ! (‵ Held) $
      rewrite ! 0 (λ p. ‵ (space_owns p v.cap [])) at refl $ use2 𝓛 (‵ (whole 𝓛 t b o v.cap)) (together 𝓛 t b o v.cap) $
      rewrite ! 0 (λ z. ‵ (Laid z (block_ptr b o))) (sym both) refl $ rewrite ! 0 (λ p. ‵ (in_block p (Laid (v.len, v.items) p))) (sym at) refl $
      move ! (1 ∷ 0 ∷ []) $ fjoin ! $ move ! (1 ∷ 0 ∷ []) $ fjoin ! $ one_made ! (V.the_row u8 P g) v u $ done !)
