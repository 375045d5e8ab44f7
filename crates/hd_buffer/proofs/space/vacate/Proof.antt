-- `vacate` takes the space from `dislodge`. Assumes `Logic`.
use Rattle.std.proofs.Common.{◌≡◌, ◌^◌, ◌<◌, List, [], ◌∷◌, ◌++◌, refl}
use mir.Syntax.{Fn, w64}
use mir.Val.{Val, vint}
use prog.Wp.{WpFn}
use contract.Running.{tables}
use types.Kit.{‵, raw, ◌⊛◌, later, prop, ◌$◌, ◌∵◌, !, qed, keep, move, drop, use1, split, fsplit, fjoin, regoal, suffices, await, done, given, learn}
use types.Part.{agg}
use types.Run.{enter, returns, of_opd, and_then, no_more}
use types.ByLocal.{alloc_all, pass_all, free_all, look_at, get, sets, lands_as}
use denote.Exit.{yes}
use denote.RattleType.{owns}
use denote.Builtin.{u8}
use denote.Signature.{plain, types_at}
use denote.Steps.{nothing}
use denote.Triple.Clauses.{Clauses}
use denote.Triple.Entry.{alive}
use denote.Triple.Walked.{says, Stays, stay_dropped, walk_of, ends_at}
use Rattle.std.proofs.alloc.Calls.{Goes-blank}
use Rattle.bytes.proofs.Walks.{none, tells, none_made}
use Rattle.hd_buffer.specs.contracts.space.Space as Space
use denote.Triple.Call.{calls_at}
use Rattle.std_alloc.proofs.vec.lodged.Vec+T+Lodged.dislodge.Met as callee
use Rattle.hd_buffer.specs.Space.{space_owns}
use Rattle.bytes.proofs.Lodging.{byte_laws, Housed, housed-laws, Dislodges, at_dislodge, dislodge_goes}
use Rattle.hd_buffer.proofs.Lodging.{dislodge_gives}
use Rattle.hd_buffer.specs.contracts.space.vacate as F
use Rattle.hd_buffer.specs.contracts.space.vacate.Key.{name as #self}
use Rattle.hd_buffer.proofs.space.vacate.Statement.{statement}
use Rattle.hd_buffer.proofs.space.vacate.Code as code
use base.Logic.{SProp}
use Rattle.std.proofs.raw_atomic.Walks.{proved_at}
use denote.Triple.Table.{framed}

abbrev stayed : Stays F.ended.signature.params F.ended.kept
stayed = (stay_dropped (plain (λ _. Housed)) yes, tt)

pub vacate_spec : {M : Type 1} → statement M
vacate_spec 𝓤 𝓛 𝓜 𝓡 wired =
    let H = 𝓛.H in
    let fn : Fn = code.function in
    let held : Clauses 𝓤 F.ended = F.clauses 𝓛 𝓜.mem 𝓡.returns in
    let C = (tables 𝓤 H 𝓜 𝓡 𝓡.env).C in
    let Λ = (tables 𝓤 H 𝓜 𝓡 𝓡.env).Λ in
    proved_at 𝓛 F.ended stayed held 𝓜 𝓡 (Goes-blank 𝓛 0 (plain (λ _. Housed)) yes (λ κs x f. tt), tt) #self fn (code.unfolded 𝓤 H 𝓜 𝓡 wired) (λ z _.
    let Post : Val → SProp 𝓤 = (walk_of 𝓛 F.ended stayed held).post z in
    let toks : SProp 𝓤 = alive 𝓛 F.ended.signature z.0.0 z.0.1 in
    let a = z.0.3 in
    let vss = z.0.4 in
    let v = a.0 in
    let r : (Space.the_row).Denot = record { ptr = v.ptr; capacity = v.cap; items = v.items } in
    qed 𝓛 ((raw toks ⊛ ‵ (owns (types_at F.ended.signature.params z.0.0) a vss)) ∷ raw ((held z.0.0 a).requires z.1) ∷ []) ∵
    keep ! (0 ∷ []) $ split ! $ move ! (1 ∷ []) $
    fsplit ! $ tells ! Housed housed-laws v vss.0 (λ u is good. move ! (1 ∷ []) $ drop ! $
    let y = at_dislodge 𝓛 𝓜.mem 𝓡.returns v u in
    regoal ! (λ (us : List Val). prop (WpFn 𝓤 H C Λ fn (us ++ []) Post)) is refl $
    enter ! C Λ fn (u ∷ []) Post $ alloc_all ! (λ l. pass_all ! refl (good, tt) $
    sets ! (of_opd ! (get ! refl)) refl good $ use1 𝓛 (raw ((Dislodges 𝓛 𝓜.mem 𝓡.returns).pre y)) (dislodge_goes 𝓛 𝓜.mem 𝓡.returns v u) $
    calls_at ! (λ f. framed 𝓤 H 𝓜 (tables 𝓤 H 𝓜 𝓡 𝓡.env) f) (Dislodges 𝓛 𝓜.mem 𝓡.returns)
    (callee.met 𝓤 𝓛 𝓜 𝓡 (code.calls-std_alloc::vec::lodged::Vec+T+Lodged::dislodge 𝓡.env wired) u8 byte_laws) y (and_then ! (get ! refl) (no_more !)) (λ w.
    use1 𝓛 (later (given ((w ≡ vint w64 v.len) × (v.len < 2 ^ 64)) (‵ (space_owns v.ptr v.cap v.items))))
    (dislodge_gives 𝓛 𝓜.mem 𝓡.returns v u w) $ await ! tt $ learn ! (λ got.
    lands_as ! got.0 refl (tt, record { fits = got.1 }) $
    sets ! (agg ! (no_more !)) refl (tt, tt) $
    none_made ! $ fjoin ! $
    returns ! (look_at ! 0 refl) $ free_all ! refl $
    suffices ! _ (ends_at 𝓛 F.ended stayed held z none r (tt, tt) (tt, tt)) $ says ! (refl, refl, refl) $
    nothing ! $ nothing ! $ fjoin ! $ move ! (2 ∷ 0 ∷ 1 ∷ []) $ done !)))))
