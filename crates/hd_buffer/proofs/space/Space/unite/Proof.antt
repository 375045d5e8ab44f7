-- `unite` puts the bytes side by side. Assumes `Logic`.
use Rattle.std.proofs.Common.{◌≡◌, ◌+◌, List, [], ◌∷◌, ◌++◌, length, refl}
use mir.Syntax.{Fn}
use mir.Val.{Val}
use prog.Wp.{WpFn}
use contract.Monad.{fact}
use contract.Running.{tables}
use types.Kit.{keep, use2, ‵, raw, ◌⊛◌, prop, ◌$◌, ◌∵◌, !, qed, move, split, fsplit, fjoin, regoal, rewrite, suffices, done}
use types.Part.{agg}
use types.Run.{enter, returns, no_more}
use types.ByLocal.{alloc_all, pass_all, free_all, look_at, sets}
use denote.Exit.{yes}
use denote.RattleType.{owns}
use denote.Signature.{plain, types_at}
use denote.Steps.{nothing, heard}
use denote.Triple.Clauses.{Clauses}
use denote.Triple.Entry.{alive}
use denote.Triple.Walked.{says, Stays, stay_dropped, walk_of, ends_at}
use Rattle.std.proofs.alloc.Calls.{Goes-blank}
use Rattle.bytes.proofs.Walks.{none, none_made, none_had}
use Rattle.hd_buffer.specs.contracts.space.Space as Space
use denote.RawPtr.{◌+ₚ◌}
use Rattle.hd_buffer.specs.Space.{space_owns}
use Rattle.hd_buffer.proofs.Spaces.{united}
use Rattle.hd_buffer.specs.contracts.space.Space.unite as F
use Rattle.hd_buffer.specs.contracts.space.Space.unite.Key.{name as #self}
use Rattle.hd_buffer.proofs.space.Space.unite.Statement.{statement}
use Rattle.hd_buffer.proofs.space.Space.unite.Code as code
use base.Logic.{SProp}
use Rattle.std.proofs.raw_atomic.Walks.{proved_at}

abbrev stayed : Stays F.ended.signature.params F.ended.kept
stayed = (stay_dropped (plain (λ _. Space.the_row)) yes, (stay_dropped (plain (λ _. Space.the_row)) yes, tt))

pub unite_spec : {M : Type 1} → statement M
unite_spec 𝓤 𝓛 𝓜 𝓡 wired =
    let H = 𝓛.H in
    let fn : Fn = code.function in
    let held : Clauses 𝓤 F.ended = F.clauses 𝓛 𝓜.mem 𝓡.returns in
    let C = (tables 𝓤 H 𝓜 𝓡 𝓡.env).C in
    let Λ = (tables 𝓤 H 𝓜 𝓡 𝓡.env).Λ in
    proved_at 𝓛 F.ended stayed held 𝓜 𝓡
    (Goes-blank 𝓛 0 (plain (λ _. Space.the_row)) yes (λ κs x f. tt), (Goes-blank 𝓛 0 (plain (λ _. Space.the_row)) yes (λ κs x f. tt), tt)) #self fn
    (code.unfolded 𝓤 H 𝓜 𝓡 wired) (λ z _.
    let Post : Val → SProp 𝓤 = (walk_of 𝓛 F.ended stayed held).post z in
    let toks : SProp 𝓤 = alive 𝓛 F.ended.signature z.0.0 z.0.1 in
    let a = z.0.3 in
    let vss = z.0.4 in
    let s = a.0 in
    let t = a.1.0 in
    let whole : (Space.the_row).Denot = record { ptr = s.ptr; capacity = s.capacity + t.capacity; items = s.items ++ t.items } in
    let Asked = (length s.items ≡ s.capacity) × (t.ptr ≡ s.ptr +ₚ s.capacity) in
    qed 𝓛 ((raw toks ⊛ ‵ (owns (types_at F.ended.signature.params z.0.0) a vss)) ∷ raw (fact 𝓤 Asked) ∷ []) ∵
    move ! (1 ∷ []) $ heard ! Asked (λ asked. split ! $ move ! (1 ∷ []) $
    fsplit ! $ fsplit ! $ none_had ! vss.0 (λ is₀. move ! (1 ∷ []) $ fsplit ! $ fsplit ! $ none_had ! vss.1.0 (λ is₁.
    -- [the second; nothing; the first; the tokens]
    keep ! (2 ∷ 0 ∷ 3 ∷ []) $
    regoal ! (λ (us : List Val). prop (WpFn 𝓤 H C Λ fn (us ++ (vss.1.0 ++ [])) Post)) is₀ refl $
    regoal ! (λ (us : List Val). prop (WpFn 𝓤 H C Λ fn ((none ∷ []) ++ (us ++ [])) Post)) is₁ refl $
    enter ! C Λ fn (none ∷ none ∷ []) Post $ alloc_all ! (λ l. pass_all ! refl ((tt, tt), ((tt, tt), tt)) $
    sets ! (agg ! (no_more !)) refl (tt, tt) $
    rewrite ! 1 (λ p. ‵ (space_owns p t.capacity t.items)) asked.1 refl $
    use2 𝓛 (‵ (space_owns s.ptr (s.capacity + t.capacity) (s.items ++ t.items))) (united 𝓛 s.ptr s.capacity t.capacity s.items t.items asked.0) $
    none_made ! $ fjoin ! $
    returns ! (look_at ! 0 refl) $ free_all ! refl $
    suffices ! _ (ends_at 𝓛 F.ended stayed held z none whole (tt, (tt, tt)) (tt, (tt, tt))) $ says ! (refl, refl, refl) $
    nothing ! $ nothing ! $ fjoin ! $ nothing ! $ fjoin ! $ move ! (2 ∷ 0 ∷ 1 ∷ []) $ done !)))))
