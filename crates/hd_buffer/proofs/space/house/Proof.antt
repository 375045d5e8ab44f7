-- `house` hands the space to `lodge`. Assumes `Logic`.
use Rattle.std.proofs.Common.{◌≡◌, ℕ, ◌^◌, ◌<◌, ◌≤◌, List, [], ◌∷◌, ◌++◌, length, refl, sym, ap, ◌∙◌, subst, Vec}
use mir.Syntax.{Fn, w64, seq, assign, place, rv_opd, copy, return}
use mir.Val.{Val, vptr, vint}
use prog.Wp.{WpFn}
use contract.Monad.{fact}
use contract.Running.{tables}
use types.Kit.{‵, raw, ◌⊛◌, later, prop, ◌$◌, ◌∵◌, !, qed, move, drop, use1, split, fsplit, fjoin, feq_l, regoal, rewrite, suffices, await, done, some, given}
use types.Kit.{pick, learn, at_ret, flt_l}
use types.Run.{enter, returns, of_opd, and_then, no_more, first, blocks, exec}
use types.ByLocal.{alloc_all, pass_all, free_all, look_at, get, sets, lands_last, env}
use denote.Exit.{yes}
use denote.RattleType.{owns}
use denote.Builtin.{u8, RawPtr, usize}
use denote.Signature.{plain, types_at}
use denote.Steps.{nothing, heard, only}
use denote.Triple.Clauses.{Clauses}
use denote.Triple.Entry.{alive}
use denote.Triple.Walked.{says, Stays, stay_dropped, walk_of, ends_at}
use Rattle.std.proofs.alloc.Calls.{Goes-blank}
use Rattle.bytes.proofs.Walks.{Good, none, tells, none_had}
use Rattle.hd_buffer.specs.contracts.space.Space as Space
use denote.RawPtr.{Ptr, ptr_val, in_a_block}
use Rattle.hd_buffer.proofs.Spaces.{nowhere}
use denote.Triple.Call.{calls_at_last}
use Rattle.std_alloc.specs.declared.vec.lodged.Lodged.{Lodged}
use Rattle.std_alloc.proofs.vec.lodge.Met as callee
use Rattle.hd_buffer.specs.Space.{space_owns}
use Rattle.bytes.proofs.Lodging.{byte_laws, Housed, housed-laws, Lodges}
use Rattle.hd_buffer.proofs.Lodging.{at_lodge, IsLodged, lodge_goes, lodge_gives}
use Rattle.hd_buffer.specs.contracts.space.house as F
use Rattle.hd_buffer.specs.contracts.space.house.Key.{name as #self}
use Rattle.hd_buffer.proofs.space.house.Statement.{statement}
use Rattle.hd_buffer.proofs.space.house.Code as code
use base.Logic.{SProp}
use Rattle.std.proofs.raw_atomic.Walks.{proved_at}
use denote.Triple.Table.{framed}

abbrev stayed : Stays F.ended.signature.params F.ended.kept
stayed = (
  stay_dropped (plain (λ _. RawPtr)) yes,
  (stay_dropped (plain (λ _. usize)) yes, (stay_dropped (plain (λ _. usize)) yes, (stay_dropped (plain (λ _. Space.the_row)) yes, tt))),
)

pub house_spec : {M : Type 1} → statement M
house_spec 𝓤 𝓛 𝓜 𝓡 wired =
    let H = 𝓛.H in
    let fn : Fn = code.function in
    let held : Clauses 𝓤 F.ended = F.clauses 𝓛 𝓜.mem 𝓡.returns in
    let C = (tables 𝓤 H 𝓜 𝓡 𝓡.env).C in
    let Λ = (tables 𝓤 H 𝓜 𝓡 𝓡.env).Λ in
    proved_at 𝓛 F.ended stayed held 𝓜 𝓡 (
      Goes-blank 𝓛 0 (plain (λ _. RawPtr)) yes (λ κs x f. tt),
      (
        Goes-blank 𝓛 0 (plain (λ _. usize)) yes (λ κs x f. tt),
        (Goes-blank 𝓛 0 (plain (λ _. usize)) yes (λ κs x f. tt), (Goes-blank 𝓛 0 (plain (λ _. Space.the_row)) yes (λ κs x f. tt), tt)),
      ),
    ) #self fn
    (code.unfolded 𝓤 H 𝓜 𝓡 wired) (λ z _.
    let Post : Val → SProp 𝓤 = (walk_of 𝓛 F.ended stayed held).post z in
    let toks : SProp 𝓤 = alive 𝓛 F.ended.signature z.0.0 z.0.1 in
    let a = z.0.3 in
    let vss = z.0.4 in
    let p = a.0 in
    let n = a.1.0 in
    let c = a.1.1.0 in
    let s = a.1.1.1.0 in
    let xs = s.items in
    let Asked = (s.ptr ≡ p) × (s.capacity ≡ c) × (length xs ≡ n) × (n ≤ c) × (c < 2 ^ 63) in
    qed 𝓛 ((raw toks ⊛ ‵ (owns (types_at F.ended.signature.params z.0.0) a vss)) ∷ raw (fact 𝓤 Asked) ∷ []) ∵
    move ! (1 ∷ []) $ heard ! Asked (λ asked. split ! $ move ! (1 ∷ []) $
    fsplit ! $ feq_l ! (λ is₀. fsplit ! $ fsplit ! $ feq_l !
    (λ is₁. flt_l ! (λ fits. fsplit ! $ fsplit ! $ feq_l !
    (λ is₂. flt_l ! (λ fits₂. fsplit ! $ fsplit ! $ none_had ! vss.1.1.1.0 (λ is₃. move ! (1 ∷ []) $ drop ! $
    rewrite ! 0 (λ (y : Ptr × ℕ). ‵ (space_owns y.0 y.1 xs)) (λ i. (asked.0 i, asked.1 i)) refl $ in_a_block ! p (λ r. space_owns r c xs) (nowhere 𝓛 c xs)
    (λ b o at.
    let y = at_lodge 𝓛 𝓜.mem 𝓡.returns b o n c xs in
    regoal ! (λ (us : List Val). prop (WpFn 𝓤 H C Λ fn (us ++ (vss.1.0 ++ (vss.1.1.0 ++ (vss.1.1.1.0 ++ [])))) Post)) (is₀ ∙ ap (λ r. ptr_val r ∷ []) at) refl $
    regoal ! (λ (us : List Val). prop (WpFn 𝓤 H C Λ fn ((vptr b o ∷ []) ++ (us ++ (vss.1.1.0 ++ (vss.1.1.1.0 ++ [])))) Post)) is₁ refl $
    regoal ! (λ (us : List Val). prop (WpFn 𝓤 H C Λ fn ((vptr b o ∷ []) ++ ((vint w64 n ∷ []) ++ (us ++ (vss.1.1.1.0 ++ [])))) Post)) is₂ refl $
    regoal ! (λ (us : List Val). prop (WpFn 𝓤 H C Λ fn ((vptr b o ∷ []) ++ ((vint w64 n ∷ []) ++ ((vint w64 c ∷ []) ++ (us ++ [])))) Post)) is₃ refl $
    enter ! C Λ fn (vptr b o ∷ vint w64 n ∷ vint w64 c ∷ none ∷ []) Post $ alloc_all !
    (λ l. pass_all ! refl ((tt, tt), ((tt, record { fits = fits }), ((tt, record { fits = fits₂ }), ((tt, tt), tt)))) $
    first ! $ blocks ! $ use1 𝓛 (raw ((Lodges 𝓛 𝓜.mem 𝓡.returns).pre y)) (lodge_goes 𝓛 𝓜.mem 𝓡.returns b o n c xs asked.2 asked.3 asked.4) $
    calls_at_last ! (λ f. framed 𝓤 H 𝓜 (tables 𝓤 H 𝓜 𝓡 𝓡.env) f) (Lodges 𝓛 𝓜.mem 𝓡.returns)
    (callee.met 𝓤 𝓛 𝓜 𝓡 (code.calls-std_alloc::vec::lodge 𝓡.env wired) u8 byte_laws) y
    (and_then ! (get ! refl) (and_then ! (get ! refl) (and_then ! (get ! refl) (no_more !)))) (λ v.
    use1 𝓛 (later (some (λ (r : Vec ℕ Lodged). given (IsLodged 𝓛 𝓜.mem 𝓡.returns b o n c xs r) (‵ (Housed.own_val r (v ∷ []))))))
    (lodge_gives 𝓛 𝓜.mem 𝓡.returns b o n c xs v) $
    await ! tt $ pick ! (λ r. learn ! (λ is. tells ! Housed housed-laws r (v ∷ []) (λ u same good.
    let fine : Good Housed v = subst (Good Housed) (sym (ap only same)) good in
    rewrite ! 0 (λ w. ‵ (Housed.own_val r (w ∷ []))) (sym (ap only same)) refl $ lands_last ! refl fine $
    exec ! C Λ (env fn.locals l) (seq (assign (place 0 []) (rv_opd (copy (place 5 [])))) return) (at_ret (env fn.locals l) Post) $
    sets ! (of_opd ! (get ! refl)) refl fine $
    returns ! (look_at ! 0 refl) $ free_all ! refl $
    suffices ! _ (ends_at 𝓛 F.ended stayed held z v r (tt, (tt, (tt, (tt, tt)))) (tt, (tt, (tt, (tt, tt))))) $ says ! (is.0, is.1, is.2, is.3 ∙ sym at) $
    nothing ! $ nothing ! $ fjoin ! $ nothing ! $ fjoin ! $ nothing ! $ fjoin ! $ nothing ! $ fjoin ! $ move ! (2 ∷ 0 ∷ 1 ∷ []) $ done !))))))))))))))
