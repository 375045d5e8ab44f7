use Rattle.std.proofs.Common.{◌≡◌, ◌∙◌, ℕ, ◌+◌, ◌<◌, ◌≤◌, List, [], ◌∷◌, ◌++◌, length, map, take, get_or, ap, sym, subst, arith}
use Rattle.std.specs.Prelude.{All}
use Rattle.std.proofs.lemmas.List.{map-append, take_more}
use Rattle.std.proofs.lemmas.List.Elements.{All-push}
use Rattle.hd_terms.specs.declared.Group.{Group}
use Rattle.hd_terms.specs.declared.Group.TheVariants as groups
use Rattle.hd_terms.specs.Listed.{group_key}
use Rattle.hd_totals.specs.Members.{InRange}
use Rattle.hd_totals.proofs.groups.keys_of.Goals as goal

pub loop-group-preserved : goal.loop-group-preserved
loop-group-preserved c =
    let gs = c.args.groups.now in
    let i = c.loop-group.group-index in
    let group : Group = get_or gs i (groups.Class 0) in
    let lt : i < length gs = omega (arith, c.loop-group-test.true) in
    let more : take (i + 1) gs ≡ take i gs ++ group ∷ [] = take_more gs i (groups.Class 0) lt in
    record {
      keys = c.in_ok-push.ensures.items
          ∙ ap (λ (ks : List ℕ). ks ++ c.key_of.result ∷ []) c.loop-group.invariant.keys
          ∙ ap (λ (key : ℕ). map group_key (take i gs) ++ key ∷ []) c.key_of.ensures.key
          ∙ sym (ap (map group_key) more ∙ map-append group_key (take i gs) (group ∷ []));
      range = subst (All InRange) (sym more) (All-push InRange (take i gs) group c.loop-group.invariant.range c.key_of.ensures.range);
      small = subst (All (λ key. key ≤ 18446744073709551872)) (sym c.in_ok-push.ensures.items)
          (All-push (λ key. key ≤ 18446744073709551872) c.loop-group.keys.items c.key_of.result c.loop-group.invariant.small c.key_of.ensures.small);
    }
