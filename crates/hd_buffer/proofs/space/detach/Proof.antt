-- `detach` takes the memory out, and leaves the way back. Assumes `Logic`.
use Rattle.std.proofs.Common.{◌≡◌, List, [], ◌∷◌, ◌++◌, refl}
use mir.Syntax.{Fn, Args, a_type, dcons, dnil}
use mir.Val.{Val}
use mir.MapTy.{inst_fn}
use base.Fml.{ftrue}
use prog.Wp.{WpFn}
use contract.Monad.{fact}
use contract.Running.{tables}
use types.Kit.{‵, raw, ◌⊛◌, prop, ◌$◌, ◌∵◌, !, qed, move, drop, use1, split, fsplit, fjoin, fpack, regoal, suffices, done}
use types.Part.{agg}
use types.Run.{enter, returns, of_opd, and_then, no_more}
use types.ByLocal.{alloc_all, pass_all, free_all, look_at, get, sets}
use denote.Exit.{no}
use denote.RattleType.{RattleType, owns}
use denote.Builtin.{u8}
use denote.Param.{param, bounded, layout}
use denote.Param.Laws.{Laws, param_laws}
use denote.Signature.{plain, types_at}
use denote.Steps.{nothing, heard}
use denote.Triple.Clauses.{Clauses, Ended}
use denote.Triple.Entry.{alive}
use denote.Triple.Walked.{says, Stays, stay_dropped, walk_of, ends_at}
use Rattle.std.proofs.alloc.Calls.{Goes-blank}
use Rattle.bytes.proofs.Lodging.{byte_laws}
use Rattle.bytes.proofs.Walks.{none, one, two, tells, none_made, two_made}
use contract.BorrowLft.{◌⊑◌}
use Rattle.hd_buffer.specs.contracts.space.Space as Space
use Rattle.hd_buffer.specs.contracts.space.Lender as Lender
use Rattle.std_alloc.specs.contracts.vec.Vec as Vec
use Rattle.std_alloc.proofs.vec.Vec.TheLaws as vec_laws
use denote.Laws.{Typed}
use denote.Struct.Struct.{as_fields}
use Rattle.hd_buffer.specs.Space.{space_owns}
use Rattle.hd_buffer.proofs.Lending.{carve}
use Rattle.hd_buffer.specs.contracts.space.detach as F
use Rattle.hd_buffer.specs.contracts.space.detach.Key.{name as #self}
use Rattle.hd_buffer.proofs.space.detach.Statement.{statement}
use Rattle.hd_buffer.proofs.space.detach.Code as code
use base.Logic.{SProp}
use Rattle.std.proofs.raw_atomic.Walks.{proved_at}

pub detach_spec : {M : Type 1} → statement M
detach_spec 𝓤 𝓛 𝓜 𝓡 wired A L g d dd met md =
    let H = 𝓛.H in
    let P : RattleType = param 0 A in
    let LP : Laws P = param_laws 0 A L in
    let args : Args = bounded (a_type ∷ []) (A, tt) (dcons d (dcons dd dnil)) in
    let fn : Fn = inst_fn args code.function in
    let En : Ended = F.ended A g d dd in
    let stayed : Stays En.signature.params En.kept = (stay_dropped (plain (λ _. Vec.the_row u8 P g)) no, tt) in
    let held : Clauses 𝓤 En = F.clauses A g d dd 𝓛 𝓜.mem 𝓡.returns in
    let C = (tables 𝓤 H 𝓜 𝓡 𝓡.env).C in
    let Λ = (tables 𝓤 H 𝓜 𝓡 𝓡.env).Λ in
    proved_at 𝓛 En stayed held 𝓜 𝓡 (Goes-blank 𝓛 1 (plain (λ _. Vec.the_row u8 P g)) no (λ κs x f. tt), tt) (#self args) fn
    (code.unfolded 𝓤 H 𝓜 𝓡 wired (A, tt) d dd) (λ z _.
    let Post : Val → SProp 𝓤 = (walk_of 𝓛 En stayed held).post z in
    let toks : SProp 𝓤 = alive 𝓛 En.signature z.0.0 z.0.1 in
    let a = z.0.3 in
    let vss = z.0.4 in
    let v = a.0 in
    let V = Vec.the_row u8 P g in
    let S = Lender.the_row P g in
    let Asked = v.len ≡ 0 in
    let e : S.Denot = record { ptr = v.ptr; capacity = v.cap } in
    let r : (Space.the_row).Denot = record { ptr = v.ptr; capacity = v.cap; items = [] } in
    qed 𝓛 ((raw toks ⊛ ‵ (owns (types_at En.signature.params z.0.0) a vss)) ∷ (raw (fact 𝓤 (z.0.0.0 ⊑ A.lives)) ⊛ raw (fact 𝓤 Asked)) ∷ []) ∵
    move ! (1 ∷ []) $ split ! $ drop ! $ heard ! Asked (λ asked. split ! $ move ! (1 ∷ []) $
    fsplit ! $ tells ! V (vec_laws.the_row_laws u8 P g byte_laws LP) v vss.0 (λ u is good. move ! (1 ∷ []) $ drop ! $
    let inner = as_fields ((layout V) ∷ []) (u ∷ []) (good, tt) in
    use1 𝓛 (‵ (space_owns v.ptr v.cap []) ⊛ ‵ (Lender.the_own P g e (one u ∷ []))) (carve P g 𝓛 v u asked) $ split ! $
    none_made ! $ fjoin ! $ move ! (1 ∷ []) $ nothing ! $ fpack ! (Typed S.mir (one u ∷ [])) (λ _. ftrue) (inner, tt) $ fjoin ! $ move ! (1 ∷ 0 ∷ []) $
    two_made ! Space.the_row S r e none (one u) $
    regoal ! (λ (us : List Val). prop (WpFn 𝓤 H C Λ fn (us ++ []) Post)) is refl $
    enter ! C Λ fn (u ∷ []) Post $ alloc_all ! (λ l. pass_all ! refl (good, tt) $
    sets ! (agg ! (no_more !)) refl (tt, tt) $
    sets ! (of_opd ! (get ! refl)) refl good $
    sets ! (agg ! (and_then ! (get ! refl) (no_more !))) refl inner $
    sets ! (agg ! (and_then ! (get ! refl) (and_then ! (get ! refl) (no_more !)))) refl
    (as_fields (layout Space.the_row ∷ layout S ∷ []) (none ∷ one u ∷ []) ((tt, tt), (inner, tt))) $
    returns ! (look_at ! 0 refl) $ free_all ! refl $
    suffices ! _ (ends_at 𝓛 En stayed held z (two none (one u)) (r, e) ((tt, (tt, (tt, (tt, tt)))), tt) (tt, tt)) $ says ! (refl, refl, refl, refl, refl) $
    nothing ! $ nothing ! $ fjoin ! $ move ! (2 ∷ 0 ∷ 1 ∷ []) $ done !))))
