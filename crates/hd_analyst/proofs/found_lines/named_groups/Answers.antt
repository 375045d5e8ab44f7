-- One group after another: it is kept exactly if its name contains the text, so the list is the filter of those so far.
-- Beside the filter goes what its test means (`Told`).
use Rattle.std.proofs.Common.{◌≡◌, ◌∙◌, ◌+◌, ◌<◌, ◌≤◌, Bool, true, false, cond, List, [], ◌∷◌, ◌++◌, length, take, get_or, append-nil, sym, ap, subst, arith}
use Rattle.std.specs.Prelude.{◌↔◌, All, filter}
use Rattle.std.proofs.lemmas.List.{take_all, take_more}
use Rattle.std.proofs.lemmas.List.Elements.{All-push, filter_more}
use Rattle.hd_terms.specs.declared.Group.{Group}
use Rattle.hd_terms.specs.declared.Group.TheVariants as groups
use Rattle.hd_lines.specs.Names.{IsNamedWith}
use Rattle.hd_analyst.specs.Found.{AreNamed, is_named}
use Rattle.hd_analyst.proofs.found_lines.named_groups.Goals as goal
use Rattle.hd_analyst.proofs.found_lines.named_groups.Goals.{then-branch+in_ok-push, else-branch}

pub loop-group-preserved : goal.loop-group-preserved
loop-group-preserved c =
    let dump = c.args.graph.now in
    let text = c.args.text.now in
    let gs = c.args.groups.now in
    let i = c.loop-group.group-index in
    let first : Group = groups.Class 0 in
    let group : Group = get_or gs i first in
    let lt : i < length gs = omega (arith, c.loop-group-test.true) in
    let test : Group → Bool = is_named dump text in
    let tells = c.in_ok-is_named.ensures in
    let more : filter test (take (i + 1) gs) ≡ filter test (take i gs) ++ cond (test group) (group ∷ []) [] = filter_more test gs i first lt in
    let Told : Group → Type 0 = λ g. (test g ≡ true) ↔ IsNamedWith dump text g in
    let told : Told group = subst (λ (b : Bool). (b ≡ true) ↔ IsNamedWith dump text group) tells.match tells.contains in
    record {
      is = elim c.if-branch.branch [
        | then-branch+in_ok-push w ↦
            let passes : test group ≡ true = sym tells.match ∙ w.if-branch.true in
            ap (λ v. v.items) w.named-is ∙ w.in_ok-push.ensures.items
            ∙ ap (λ (found : List Group). found ++ group ∷ []) c.loop-group.invariant.is
            ∙ sym (more ∙ ap (λ (b : Bool). filter test (take i gs) ++ cond b (group ∷ []) []) passes)
        | else-branch w ↦
            let fails : test group ≡ false = sym tells.match ∙ w.if-branch.false in
            ap (λ v. v.items) w.named-is ∙ c.loop-group.invariant.is ∙ sym (append-nil (filter test (take i gs)))
            ∙ sym (more ∙ ap (λ (b : Bool). filter test (take i gs) ++ cond b (group ∷ []) []) fails)
      ];
      contains = subst (All Told) (sym (take_more gs i first lt)) (All-push Told (take i gs) group c.loop-group.invariant.contains told);
    }

pub returns : goal.returns
returns c =
    let dump = c.args.graph.now in
    let text = c.args.text.now in
    let gs = c.args.groups.now in
    let i = c.loop-group.group-index in
    let all : take i gs ≡ gs = take_all i gs (omega (arith, c.loop-group-test.false)) in
    record {
      is = c.loop-group.invariant.is ∙ ap (filter (is_named dump text)) all;
      contains = subst (All (λ group. (is_named dump text group ≡ true) ↔ IsNamedWith dump text group)) all c.loop-group.invariant.contains;
    }
