use Rattle.std.proofs.Common.{◌≡◌, ◌∙◌, ℕ, ◌≤◌, List, get_or, length, take, ap, subst, arith, leb-true}
use Rattle.std.specs.Prelude.{All}
use Rattle.std.proofs.lemmas.Map.Keys.{ge_from_not_lt}
use Rattle.hd_queries.specs.LeastIds.{Least, with_id}
use Rattle.hd_queries.proofs.LeastLemmas.{put-behind}
use Rattle.hd_queries.proofs.least_ids.LeastIds.leaves_out.Goals as goal

pub returns-in-Some : goal.returns-in-Some
returns-in-Some c is_at x above =
    let ids : List ℕ = c.self.inside.ids.keys in
    let last : ℕ = c.in-Some.last.now in
    let le : last ≤ c.args.id = leb-true last c.args.id is_at in
    let most : c.self.inside.most ≡ length ids = omega (arith, c.len.ensures.len, c.if-len-self.false, c.self.invariant) in
    let behind : All (λ (y : ℕ). y ≤ x) ids = λ k d lt. let below = ge_from_not_lt last (get_or ids k d) (c.in-Some.ensures.all_up_to k d lt) in
    omega (arith, below, le, above) in
    let kept : take c.self.inside.most (with_id ids x) ≡ ids = ap (λ (n : ℕ). take n (with_id ids x)) most ∙ put-behind x ids behind in
    subst (λ (l : Least). take l.most (with_id l.ids x) ≡ l.ids) c.self.view_is kept
