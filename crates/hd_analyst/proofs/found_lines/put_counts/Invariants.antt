use Rattle.std.proofs.Common.{◌≡◌, ◌∷◌, ◌++◌, decimal, flat_map, take, string_bytes}
use Rattle.hd_terms.specs.declared.Strength.{Strength}
use Rattle.hd_lines.specs.Replies.{falling_strengths}
use Rattle.hd_totals.specs.Members.{member_count}
use Rattle.hd_analyst.proofs.found_lines.put_counts.Given as goal

-- the counts of the strengths so far are put
abbrev pub invariant-loop-strength : goal.invariant-loop-strength
invariant-loop-strength l =
    string_bytes l.text ≡ string_bytes l.fn.text ++ flat_map (λ (s : Strength). 32 ∷ decimal (member_count l.state.dump l.state.kept l.group s))
    (take l.strength-index falling_strengths)
