-- `lodge` and `dislodge` at a call, for bytes. Assumes `Logic`.
use Rattle.std.proofs.Common.{◌≡◌, ℕ, zero, suc, ◌+◌, ◌-◌, ◌*◌, ◌^◌, ◌<◌, ◌≤◌, List, [], ◌∷◌, length, refl, sym, ap, ◌∙◌, arith, Vec}
use seplogic.Ra.Ura.{Ura}
use mir.Syntax.{w8, w64, ty_int}
use mir.Val.{Val, vint, vptr}
use base.Fraction.{full_share}
use base.Logic.{SProp, ent, ex, guard, emp, never, id⊢}
use base.Fml.{Fml, ftrue, fsep, flft}
use prog.Memory.{Memory}
use prog.Routine.{Routine}
use contract.Monad.{Fun, fact, fact_i}
use contract.BorrowLft.{◌⊑◌, ⊑_refl}
use types.Logic.{Logic, sem}
use types.Kit.{by, ‵, raw, ◌⊛◌, some, later, ◌$◌, ◌∵◌, !, qed, move, keep, use0, use1, drop, split, split3, join, pick, fsplit, fjoin, feq_l, feq_i, flt_l}
use types.Kit.{flt_i, rewrite, check, show, await, updating, now, done}
use denote.Exit.{no, left}
use denote.Builtin.{u8, usize}
use denote.Array.{Array}
use denote.Param.{param}
use denote.RawPtr.{Ptr, block_ptr, lies_at, in_block, in_a_block}
use denote.Steps.{only, nothing, heard}
use Rattle.std.specs.Allocator.{block_with_items}
use Rattle.std_alloc.specs.Vec.Ownership.{lodged, owns_if, has_block}
use Rattle.std_alloc.specs.declared.vec.lodged.Lodged.{Lodged}
use Rattle.std_alloc.specs.contracts.vec.Vec as V
use Rattle.std_alloc.specs.contracts.vec.lodged.Lodged as L
use Rattle.std_alloc.specs.contracts.vec.lodged.LodgedAllocator.TheImpl.{ghosts}
use Rattle.hd_buffer.specs.Space.{space_owns}
use Rattle.bytes.proofs.Lodging.{Housed, Lodges, Dislodges, at_dislodge}
use Rattle.hd_buffer.proofs.Spaces.{live, room, closed}

module _ {M : Type 1} {𝓤 : Ura M} (𝓛 : Logic 𝓤) (at_mem : Memory → SProp 𝓤) (run : Routine → Fun 𝓤) where
  open 𝓛 use {H}

  -- what a `Vec` over memory owns, whether its capacity is 0 or not
  abbrev Blk : Ptr → ℕ → ℕ → List ℕ → Fml
  Blk p n c xs = block_with_items (λ _ _. ftrue) u8 p n c xs

  held_if : (c : ℕ) (F : Fml) → ent 𝓤 (sem 𝓛 F) (sem 𝓛 (owns_if (has_block c) F))
  held_if zero F = qed 𝓛 (‵ F ∷ []) ∵ drop ! $ nothing ! $ done !
  held_if (suc c) F = qed 𝓛 (‵ F ∷ []) ∵ rewrite ! 0 (λ y. ‵ (owns_if y F)) (sym (live c)) refl $ done !

  space_of : (b o c : ℕ) (xs : List ℕ) → length xs ≤ c → ent 𝓤 (sem 𝓛 (owns_if (has_block c) (Blk (block_ptr b o) (length xs) c xs)))
      (sem 𝓛 (space_owns (block_ptr b o) c xs))
  space_of b o zero [] le = qed 𝓛 (‵ ftrue ∷ []) ∵ drop ! $ use0 𝓛 (‵ (room 𝓛 0 b o)) (𝓛.laws.room_nil (ty_int w8) b o) $ by ! (closed 𝓛 0 b o)
  space_of b o zero (x ∷ xs) le = absurd (omega arith)
  space_of b o (suc c) xs le =
      let n = length xs in
      let place : o + n * 1 ≡ o + n = omega arith in
      let Held = Blk (block_ptr b o) n (suc c) xs in
      qed 𝓛 (‵ (owns_if (has_block (suc c)) Held) ∷ []) ∵ rewrite ! 0 (λ y. ‵ (owns_if y Held)) (live c) refl $ fsplit ! $ move ! (1 ∷ []) $ fsplit ! $
      rewrite ! 0 (λ i. ‵ (room 𝓛 (suc c - n) b i)) place refl $ keep ! (2 ∷ 0 ∷ []) $ fjoin ! $ done !

  module _ (b o n c : ℕ) (xs : List ℕ) where
    abbrev pub at_lodge : (Lodges 𝓛 at_mem run).Ghost
    at_lodge = ((([], tt), (full_share, tt), tt, (block_ptr b o, (n, (c, tt))), (vptr b o ∷ [], (vint w64 n ∷ [], (vint w64 c ∷ [], tt)))), xs)

    abbrev pub IsLodged : Vec ℕ Lodged → Type 0
    IsLodged r = (r.items ≡ xs) × (r.len ≡ n) × (r.cap ≡ c) × (r.ptr ≡ block_ptr b o)

    pub lodge_goes : length xs ≡ n → n ≤ c → c < 2 ^ 63 → ent 𝓤 (sem 𝓛 (space_owns (block_ptr b o) c xs)) ((Lodges 𝓛 at_mem run).pre at_lodge)
    lodge_goes long within small =
        let p = block_ptr b o in
        let Asked : Type 0 = (n ≡ length xs) × (n ≤ c) × (c < 2 ^ 63) in
        let place : o + n ≡ o + n * 1 = omega arith in
        qed 𝓛 (‵ (space_owns p c xs) ∷ []) ∵ fsplit ! $
        rewrite ! 0 (λ k. ‵ (lies_at (Array u8 k) full_share p xs)) long refl $ rewrite ! 1 (λ k. ‵ (room 𝓛 (c - k) b (o + k))) long refl $ rewrite ! 1
        (λ i. ‵ (room 𝓛 (c - n) b i)) place refl $
        nothing ! $ move ! (2 ∷ 0 ∷ []) $ fjoin ! $ move ! (1 ∷ 0 ∷ []) $ fjoin ! $
        use1 𝓛 (‵ (owns_if (has_block c) (Blk p n c xs))) (held_if c (Blk p n c xs)) $ flt_i ! (c * 1) (2 ^ 63) (omega arith) $ fjoin ! $
        use0 𝓛 (raw (fact 𝓤 Asked)) (fact_i 𝓤 Asked (emp 𝓤) (sym long, within, small)) $ join ! $
        use0 𝓛 (raw (fact 𝓤 ([] ⊑ []))) (fact_i 𝓤 ([] ⊑ []) (emp 𝓤) (⊑_refl [])) $ join ! $
        nothing ! $ flt_i ! c (2 ^ 64) (omega arith) $ feq_i ! (List Val) (vint w64 c ∷ []) (vint w64 c ∷ []) refl $ fjoin ! $ fjoin ! $
        flt_i ! n (2 ^ 64) (omega arith) $ feq_i ! (List Val) (vint w64 n ∷ []) (vint w64 n ∷ []) refl $ fjoin ! $ fjoin ! $
        feq_i ! (List Val) (vptr b o ∷ []) (vptr b o ∷ []) refl $ fjoin ! $ nothing ! $ use0 𝓛 (‵ (flft [] full_share))
        (𝓛.lfts.lft-nil full_share) $ join ! $ join ! $ done !

    pub lodge_gives : (v : Val)
        → ent 𝓤 ((Lodges 𝓛 at_mem run).post at_lodge v) (H.⇛ (ex 𝓤 (λ (r : Vec ℕ Lodged). guard 𝓤 (IsLodged r) (sem 𝓛 (Housed.own_val r (v ∷ []))))))
    lodge_gives v =
        qed 𝓛 (raw ((Lodges 𝓛 at_mem run).post at_lodge v) ∷ []) ∵ updating ! $
        use1 𝓛 (later (some (λ (r : Vec ℕ Lodged). ((‵ (flft [] full_share) ⊛ ‵ ftrue) ⊛ ‵ (Housed.own_val r (v ∷ [])))
        ⊛ some (λ (ws : Unit {0} × (Unit {0} × (Unit {0} × Unit {0}))). ‵ (fsep ftrue (fsep ftrue (fsep ftrue ftrue))) ⊛ raw (fact 𝓤 (IsLodged r))))))
        (id⊢ 𝓤 _) $ await ! tt $ pick ! (λ r.
        split ! $ move ! (1 ∷ []) $ pick ! (λ ws. split ! $ drop ! $ heard ! (IsLodged r) (λ is. split ! $ drop ! $ now ! $
        show ! (λ (z : Vec ℕ Lodged). guard 𝓤 (IsLodged z) (sem 𝓛 (Housed.own_val z (v ∷ [])))) r $ check ! is $ done !)))

  module _ (d : Vec ℕ Lodged) (u : Val) where
    pub dislodge_gives : (v : Val) → ent 𝓤 ((Dislodges 𝓛 at_mem run).post (at_dislodge 𝓛 at_mem run d u) v)
        (H.⇛ (guard 𝓤 ((v ≡ vint w64 d.len) × (d.len < 2 ^ 64)) (sem 𝓛 (space_owns d.ptr d.cap d.items))))
    dislodge_gives v =
        let within : length d.items ≤ d.cap = omega (arith, d.ok.0, d.ok.1) in
        qed 𝓛 (raw ((Dislodges 𝓛 at_mem run).post (at_dislodge 𝓛 at_mem run d u) v) ∷ []) ∵ updating ! $
        use1 𝓛 (later (some (λ (r : ℕ). ((‵ (flft [] full_share) ⊛ ‵ ftrue) ⊛ ‵ (usize.own_val r (v ∷ [])))
        ⊛ some (λ (ws : Unit {0} × Unit {0}). ‵ (fsep (left ((V.the_row (param 0 u8) L.the_row ghosts).exit no) d ws.0) ftrue) ⊛ raw (fact 𝓤 (r ≡ d.len)) ⊛ ‵
        (lodged u8 d.ptr d.len d.cap d.items))))) (id⊢ 𝓤 _) $ await ! tt $ pick ! (λ r.
        split ! $ move ! (1 ∷ []) $ pick !
        (λ ws. split3 ! $ drop ! $ heard ! (r ≡ d.len) (λ is. move ! (1 ∷ []) $ split ! $ drop ! $ fsplit ! $ feq_l ! (λ e. flt_l ! (λ f. now ! $
        check ! (ap only e ∙ ap (vint w64) is, omega arith) $ fsplit ! $ drop ! $
        in_a_block ! d.ptr (λ p. in_block p (owns_if (has_block d.cap) (Blk p d.len d.cap d.items))) (id⊢ 𝓤 (never 𝓤)) (λ b o at.
        keep ! (0 ∷ []) $ rewrite ! 0 (λ k. ‵ (owns_if (has_block d.cap) (Blk (block_ptr b o) k d.cap d.items))) d.ok.0 refl $
        use1 𝓛 (‵ (space_owns (block_ptr b o) d.cap d.items)) (space_of b o d.cap d.items within) $
        rewrite ! 0 (λ p. ‵ (space_owns p d.cap d.items)) (sym at) refl $ done !))))))
