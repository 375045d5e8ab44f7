-- `attach` hands the space to what waits for it. Assumes `Logic`.
use Rattle.std.proofs.Common.{◌≡◌, ℕ, List, [], ◌∷◌, ◌++◌, refl, subst}
use mir.Syntax.{Fn, Args, a_type, dcons, dnil}
use mir.Val.{Val}
use mir.MapTy.{inst_fn}
use base.Logic.{apply∗}
use prog.Wp.{WpFn}
use contract.Monad.{fact}
use contract.Running.{tables}
use types.Logic.{sem}
use types.Kit.{‵, raw, ◌⊛◌, prop, ◌$◌, ◌∵◌, !, qed, move, drop, use2, split, fsplit, fjoin, fpick, feq_l, regoal, rewrite, suffices, done}
use types.Part.{sub, whole}
use types.Run.{enter, returns, of_opd, fld, stop}
use types.ByLocal.{alloc_all, pass_all, free_all, look_at, get, get_in, sets}
use denote.Exit.{yes, no}
use denote.Laws.{Typed}
use denote.RattleType.{RattleType, owns}
use denote.Builtin.{u8}
use denote.Param.{param, bounded}
use denote.Param.Laws.{Laws, param_laws}
use denote.Signature.{plain, types_at}
use denote.Steps.{nothing, heard}
use denote.Triple.Clauses.{Clauses, Ended}
use denote.Triple.Entry.{alive}
use denote.Triple.Walked.{says, Stays, stay_dropped, walk_of, ends_at}
use Rattle.std.proofs.alloc.Calls.{Goes-blank}
use Rattle.bytes.proofs.Lodging.{byte_laws}
use Rattle.bytes.proofs.Walks.{plainly, none, one, one_had, none_had}
use contract.BorrowLft.{◌⊑◌}
use Rattle.hd_buffer.specs.contracts.space.Space as Space
use Rattle.hd_buffer.specs.contracts.space.Lender as Lender
use Rattle.std_alloc.specs.contracts.vec.Vec as Vec
use Rattle.std_alloc.proofs.vec.Vec.TheLaws as vec_laws
use denote.RawPtr.{Ptr}
use Rattle.hd_buffer.specs.Space.{space_owns}
use Rattle.hd_buffer.specs.contracts.space.attach as F
use Rattle.hd_buffer.specs.contracts.space.attach.Key.{name as #self}
use Rattle.hd_buffer.proofs.space.attach.Statement.{statement}
use Rattle.hd_buffer.proofs.space.attach.Code as code
use base.Logic.{SProp}
use Rattle.std.proofs.raw_atomic.Walks.{proved_at}

pub attach_spec : {M : Type 1} → statement M
attach_spec 𝓤 𝓛 𝓜 𝓡 wired A L g d dd met md =
    let H = 𝓛.H in
    let P : RattleType = param 0 A in
    let LP : Laws P = param_laws 0 A L in
    let args : Args = bounded (a_type ∷ []) (A, tt) (dcons d (dcons dd dnil)) in
    let fn : Fn = inst_fn args code.function in
    let En : Ended = F.ended A g d dd in
    let stayed : Stays En.signature.params En.kept = (stay_dropped (plain (λ _. Space.the_row)) yes, (stay_dropped (plain (λ _. Lender.the_row P g)) no, tt)) in
    let held : Clauses 𝓤 En = F.clauses A g d dd 𝓛 𝓜.mem 𝓡.returns in
    let C = (tables 𝓤 H 𝓜 𝓡 𝓡.env).C in
    let Λ = (tables 𝓤 H 𝓜 𝓡 𝓡.env).Λ in
    proved_at 𝓛 En stayed held 𝓜 𝓡
    (Goes-blank 𝓛 1 (plain (λ _. Space.the_row)) yes (λ κs x f. tt), (Goes-blank 𝓛 1 (plain (λ _. Lender.the_row P g)) no (λ κs x f. tt), tt))
    (#self args) fn (code.unfolded 𝓤 H 𝓜 𝓡 wired (A, tt) d dd) (λ z _.
    let Post : Val → SProp 𝓤 = (walk_of 𝓛 En stayed held).post z in
    let toks : SProp 𝓤 = alive 𝓛 En.signature z.0.0 z.0.1 in
    let a = z.0.3 in
    let vss = z.0.4 in
    let e = a.1.0 in
    let V = Vec.the_row u8 P g in
    let Asked = (a.0.ptr ≡ e.ptr) × (a.0.capacity ≡ e.capacity) × (a.0.items ≡ []) in
    let Held = space_owns e.ptr e.capacity [] in
    qed 𝓛 ((raw toks ⊛ ‵ (owns (types_at En.signature.params z.0.0) a vss)) ∷ (raw (fact 𝓤 (z.0.0.0 ⊑ A.lives)) ⊛ raw (fact 𝓤 Asked)) ∷ []) ∵
    move ! (1 ∷ []) $ split ! $ drop ! $ heard ! Asked (λ asked. split ! $ move ! (1 ∷ []) $
    fsplit ! $ fsplit ! $ none_had ! vss.0 (λ is₀. move ! (1 ∷ []) $ fsplit ! $ fsplit ! $ fpick ! (λ typed. drop ! $ fpick ! (λ v. fsplit ! $ feq_l ! (λ len.
    let Whole = (plainly (V ∷ [])).own_val (v.vec, tt) vss.1.0 in
    -- [the way back; nothing; the space; the tokens]
    move ! (2 ∷ []) $
    rewrite ! 0 (λ (y : Ptr × (ℕ × List ℕ)). ‵ (space_owns y.0 y.1.0 y.1.1)) (λ i. (asked.0 i, (asked.1 i, asked.2 i))) refl $
    use2 𝓛 (‵ Whole) (apply∗ 𝓤 (sem 𝓛 Held) (sem 𝓛 Whole)) $ one_had ! V (vec_laws.the_row_laws u8 P g byte_laws LP) v.vec vss.1.0 (λ u is₁ good.
    move ! (1 ∷ []) $ drop ! $
    regoal ! (λ (us : List Val). prop (WpFn 𝓤 H C Λ fn (us ++ (vss.1.0 ++ [])) Post)) is₀ refl $
    regoal ! (λ (us : List Val). prop (WpFn 𝓤 H C Λ fn ((none ∷ []) ++ (us ++ [])) Post)) is₁ refl $
    enter ! C Λ fn (none ∷ one u ∷ []) Post $ alloc_all ! (λ l. pass_all ! refl ((tt, tt), ((subst (Typed (Lender.the_row P g).mir) is₁ typed).0, tt)) $
    sets ! (of_opd ! (get_in ! (fld ! refl (stop !)) (sub ! 0 refl (whole !)))) refl good $
    sets ! (of_opd ! (get ! refl)) refl good $
    returns ! (look_at ! 0 refl) $ free_all ! refl $
    suffices ! _ (ends_at 𝓛 En stayed held z u v.vec (tt, (tt, tt)) (tt, (tt, tt))) $ says ! len $
    nothing ! $ nothing ! $ fjoin ! $ nothing ! $ fjoin ! $ move ! (2 ∷ 0 ∷ 1 ∷ []) $ done !))))))))
