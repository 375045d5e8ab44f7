use Rattle.std.proofs.Common.{◌∙◌, ap, ◌++◌, ◌∷◌, [], arith}
use Rattle.hd_names.specs.ListsInside.{lists_of}
use Rattle.hd_names.proofs.ListLemmas.{list-added}
use Rattle.hd_names.proofs.lists.Lists.push.Goals as goal

pub returns-clause-added : goal.returns-clause-added
returns-clause-added g c =
    let old = c.self.inside in
    ap (λ (xs : _). lists_of xs c.push.new.self.items) c.in_ok-extend_from_slice.ensures.items
    ∙ ap (λ (ps : _). lists_of (old.elements.items ++ c.args.list.now) ps) c.in_ok-push.ensures.items
    ∙ list-added old.elements.items c.args.list.now old.parts.items _ c.self.invariant.within (omega arith) (omega arith)
    ∙ ap (λ (xss : _). xss ++ c.args.list.now ∷ []) c.self.view_is
