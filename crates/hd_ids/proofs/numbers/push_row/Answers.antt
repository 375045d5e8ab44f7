use Rattle.std.proofs.Common.{◌≡◌, ◌∙◌, ℕ, List, ◌∷◌, [], ◌++◌, map, sym, ap, arith, append_assoc}
use Rattle.std.specs.List.{range_with_len}
use Rattle.std.proofs.lemmas.List.FromFn.{map-range_with_len_more}
use Rattle.hd_ids.specs.Numbers.{number_by}
use Rattle.hd_ids.proofs.numbers.push_row.Goals as goal

pub loop-place-preserved : goal.loop-place-preserved
loop-place-preserved c =
    let before = c.args.scattered.now.items in
    let place = c.loop-place.place in
    let number = number_by c.args.block in (
      c.push_reserved.ensures.items
          ∙ ap (λ (l : List ℕ). l ++ c.number.result ∷ []) c.loop-place.invariant.0
          ∙ append_assoc before (map number (range_with_len 0 place)) (c.number.result ∷ [])
          ∙ ap (λ (n : ℕ). before ++ (map number (range_with_len 0 place) ++ n ∷ [])) c.number.ensures
          ∙ ap (λ (l : List ℕ). before ++ l) (sym (map-range_with_len_more number 0 place place (omega arith))),
      omega (arith, c.loop-place.invariant.1, c.push_reserved.ensures.len, c.push_reserved.ensures.capacity, c.loop-place-test.true),
    )

pub returns-clause-ok : goal.returns-clause-ok
returns-clause-ok c =
    let all : c.loop-place.place ≡ 32 = omega (arith, c.loop-place.auto, c.loop-place-test.false) in
    c.loop-place.invariant.0
    ∙ ap (λ (n : ℕ). c.args.scattered.now.items ++ map (number_by c.args.block) (range_with_len 0 n)) all
