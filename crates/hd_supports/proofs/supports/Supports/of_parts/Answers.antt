use Rattle.std.proofs.Common.{◌≡◌, ◌∙◌, ◌∷◌, [], Ok, IfOk, List, get_or, ap, subst, sym, arith}
use Rattle.hd_terms.specs.Settled.{Reached}
use Rattle.hd_supports.proofs.JoinLemmas.{of_by_number, none_joined, room_joined, next_joined, all_joined}
use Rattle.hd_supports.proofs.supports.Supports.of_parts.Goals as goal

pub loop-list-init : goal.loop-list-init
loop-list-init g c =
    let parts = c.args.parts.items in
    let lists = c.in_ok-lists.lists.items in
    let answers = of_by_number (Ok []) parts lists (omega (arith, c.in_ok-lists.ensures.len, c.args.parts.ok.0, c.in_ok-lists.lists.ok.0))
    (λ i lt. let job = (c.in_ok-lists.ensures.each i (Ok []) lt).1 in
    subst (λ (part : List Reached). IfOk (get_or lists i (Ok [])) (λ (s : List Reached). s ≡ part)) (sym (job.job_is [])) job.call.met) in
    rw c.into_iter-list-iterator.ensures.into_iter_gives.0
    (none_joined parts lists c.in_ok-all.all answers (c.in_ok-all.ensures ∙ c.of.ensures ∙ c.new.ensures.items))

pub append-requires : goal.append-requires
append-requires g c =
    let next = c.in-Some.ensures.steps.0 ∙ ap (λ r. r ∷ c.next.new.self.rest.items) c.in_ok-list.was in
    omega (
      arith,
      c.requires,
      room_joined c.args.parts.items c.loop-list.list-iterator.rest.items c.next.new.self.rest.items c.loop-list.all
          c.in_ok-list.field-0 c.loop-list.invariant next,
    )

pub loop-list-preserved : goal.loop-list-preserved
loop-list-preserved g c =
    let next = c.in-Some.ensures.steps.0 ∙ ap (λ r. r ∷ c.next.new.self.rest.items) c.in_ok-list.was in
    next_joined c.args.parts.items c.loop-list.list-iterator.rest.items c.next.new.self.rest.items c.loop-list.all c.in_ok-list.field-0 _ c.loop-list.invariant
    next c.in_ok-all-2.ensures

pub returns : goal.returns
returns g c =
    let rest = c.loop-list.list-iterator.rest in
    all_joined c.args.parts.items rest.items c.loop-list.all c.loop-list.invariant (omega (arith, c.in-None.ensures.steps.0, rest.ok.0))
