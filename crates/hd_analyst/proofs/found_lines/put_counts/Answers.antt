use Rattle.std.proofs.Common.{◌∙◌, ℕ, ◌<◌, List, ◌∷◌, ◌++◌, length, take, ap, arith}
use Rattle.std.specs.Prelude.{decimal}
use Rattle.std.specs.String.{string_bytes}
use Rattle.std.specs.List.{flat_map}
use Rattle.hd_terms.specs.declared.Strength.{Strength}
use Rattle.hd_words.proofs.FlatMaps.{flat_push}
use Rattle.hd_lines.specs.Replies.{falling_strengths}
use Rattle.hd_totals.specs.Members.{member_count}
use Rattle.hd_analyst.proofs.found_lines.put_counts.Goals as goal

pub loop-strength-preserved : goal.loop-strength-preserved
loop-strength-preserved c =
    let state = c.args.state.now in
    let text : Strength → List ℕ = λ s. 32 ∷ decimal (member_count state.dump state.kept c.args.group s) in
    let i = c.loop-strength.strength-index in
    let lt : i < length falling_strengths = omega (arith, c.loop-strength-test.true) in
    c.in_ok-put_count.ensures
    ∙ ap (λ (bytes : List ℕ). bytes ++ 32 ∷ decimal c.total-count.result.0) c.loop-strength.invariant
    ∙ ap (λ (n : ℕ). (string_bytes c.args.text.now ++ flat_map text (take i falling_strengths)) ++ 32 ∷ decimal n) c.total-count.ensures.count
    ∙ flat_push text (string_bytes c.args.text.now) falling_strengths i _ lt
