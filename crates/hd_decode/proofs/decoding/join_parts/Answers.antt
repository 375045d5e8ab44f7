use Rattle.std.proofs.Common.{◌∙◌, ◌∷◌, inr, ap, arith}
use Rattle.std.proofs.lemmas.Result.{err_from_is_err_and}
use Rattle.std.proofs.lemmas.List.{nil_from_length}
use Rattle.hd_decode.specs.Shares.{Part}
use Rattle.hd_decode.proofs.JoinLemmas.{none-joined, next-joined, next-fits, first-fault, all-joined}
use Rattle.hd_decode.proofs.decoding.join_parts.Goals as goal

pub loop-part-init : goal.loop-part-init
loop-part-init c = none-joined c.args.parts.items c.into_iter-part-iterator.result.rest.items c.new-list.result
    c.into_iter-part-iterator.ensures.into_iter_gives.0 c.new-list.ensures

pub returns-in_err-part-clause-err : goal.returns-in_err-part-clause-err
returns-in_err-part-clause-err c =
    let p = err_from_is_err_and c.from_residual.result c.from_residual.ensures.1 in
    let next = c.in-Some.ensures.steps.0 ∙ ap (λ (part : Part). part ∷ c.next.new.self.rest.items) c.in_err-part.was in
    rw (p.1, p.2) (inr (first-fault c.args.parts.items c.loop-part.part-iterator.rest.items c.loop-part.list c.loop-part.invariant c.next.new.self.rest.items
    c.in_err-part.field-0.0 next))

pub push-requires : goal.push-requires
push-requires c =
    let next = c.in-Some.ensures.steps.0 ∙ ap (λ (part : Part). part ∷ c.next.new.self.rest.items) c.in_ok-part.was in
    omega (
      arith,
      next-fits c.args.parts.items c.loop-part.part-iterator.rest.items c.loop-part.list c.loop-part.invariant c.next.new.self.rest.items
          c.in_ok-part.field-0 next,
    )

pub loop-part-preserved : goal.loop-part-preserved
loop-part-preserved c =
    let next = c.in-Some.ensures.steps.0 ∙ ap (λ (part : Part). part ∷ c.next.new.self.rest.items) c.in_ok-part.was in
    next-joined c.args.parts.items c.loop-part.part-iterator.rest.items c.loop-part.list c.loop-part.invariant c.next.new.self.rest.items c.in_ok-part.field-0
    next c.push.new.self c.in_ok-push.ensures.ok

pub returns-clause-ok : goal.returns-clause-ok
returns-clause-ok c =
    let rest = c.loop-part.part-iterator.rest in
    all-joined c.args.parts.items rest.items c.loop-part.list c.loop-part.invariant
    (nil_from_length rest.items (omega (arith, c.in-None.ensures.steps.0, rest.ok.0)))
