-- One worker after another: its share is the longest front of what is left that has its part of the bytes.
-- The last one has the rest, so the shares are all segments (`parts-kept`).
use Rattle.std.proofs.Common.{rules, ◌≡◌, ℕ, suc, ◌+◌, ◌/◌, ◌∙◌, ap, sym, subst, arith, refl, drop}
use Rattle.std.proofs.lemmas.Grind.{common_steps}
use Rattle.hd_decode.specs.Bodies.{span_total}
use Rattle.hd_decode.specs.Shares.{IsLongestFront}
use Rattle.hd_decode.proofs.ShareLemmas.{Continues, none-shared, front-of, one-shared, all-shared}
use Rattle.hd_decode.proofs.shares.shares_of.Goals as goal
use Rattle.hd_decode.proofs.shares.shares_of.Goals.{In_ok-push}

-- one more worker has a share, and what shares out the rest among the others shares all out
parts-kept : (c : In_ok-push) → (others : ℕ) → c.loop-worker.worker + 1 + others ≡ c.args.workers
    → Continues c.args.spans.now c.args.workers c.push.new.self.items c.split_at.result.1.now (suc others)
parts-kept c others is =
    let rest = c.loop-worker.rest.now in
    let left : c.from.result ≡ others + 2 = omega (arith, is, c.from.ensures) in
    let part : c.bytes_of.result / c.from.result ≡ span_total rest / (others + 2) = ap (λ (n : ℕ). n / c.from.result) c.bytes_of.ensures
    ∙ ap (λ (n : ℕ). span_total rest / n) left in
    let front : IsLongestFront rest (span_total rest / (others + 2)) c.split_at.result.0.now =
    subst (λ (bytes : ℕ). IsLongestFront rest bytes c.split_at.result.0.now) part
    (front-of rest (c.bytes_of.result / c.from.result) c.share_len.result c.split_at.result.0.now c.share_len.ensures.within c.split_at.ensures.front
    c.share_len.ensures.before c.share_len.ensures.after) in
    one-shared c.args.spans.now c.args.workers c.loop-worker.shares.items c.push.new.self.items rest c.split_at.result.1.now others c.split_at.result.0
    (c.loop-worker.invariant.parts (suc others) (omega (arith, is))) front
    (c.split_at.ensures.back ∙ ap (λ (n : ℕ). drop n rest) (sym c.split_at.ensures.front_len)) c.in_ok-push.ensures.items

pub loop-worker-init : goal.loop-worker-init
loop-worker-init c = record {
  many = search rules;
  all = search rules;
  parts = λ others is. rw c.in_ok-shares.ensures.items (none-shared c.args.spans.now c.args.workers others (omega (arith, is)));
}

pub loop-worker-preserved : goal.loop-worker-preserved
loop-worker-preserved c = record {
  many = grind (arith, common_steps);
  all = grind (arith, common_steps);
  parts = parts-kept c;
}

pub returns-clause-parts : goal.returns-clause-parts
returns-clause-parts c =
    all-shared c.args.spans.now c.args.workers c.loop-worker.shares.items c.push-2.new.self.items c.loop-worker.rest.now c.loop-worker.rest
    (c.loop-worker.invariant.parts 0 (omega (arith, c.loop-worker-test.false, c.loop-worker.auto.worker-end, c.requires.some))) refl
    c.in_ok-push-2.ensures.items
