use Rattle.std.proofs.Common.{◌≡◌, ◌∙◌, ℕ, ◌<◌, List, length, get_or, ap, sym, eqb}
use Rattle.std.specs.List.{position}
use Rattle.hd_ids.proofs.DistinctLemmas.{found-at-index}
use Rattle.hd_ids.proofs.plain.PlainIds.index_of.Goals as goal

pub returns-clause-distinct : goal.returns-clause-distinct
returns-clause-distinct c = λ o lt is.
    let ids = c.self.inside.set.keys in
    let within : o < length ids = rw (← c.self.view_is) at lt in
    let here : get_or ids o 0 ≡ c.args.id = ap (λ (xs : List ℕ). get_or xs o 0) c.self.view_is ∙ is in
    c.get_index_of.ensures.index ∙ ap (λ (id : ℕ). position (λ x. eqb id x) ids) (sym here) ∙ found-at-index ids o c.self.invariant within
