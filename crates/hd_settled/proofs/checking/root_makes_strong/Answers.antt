use Rattle.std.proofs.Common.{◌∙◌, sym, refl}
use Rattle.hd_settled.proofs.Checked.{none_to_make_strong, one_made_strong}
use Rattle.hd_settled.proofs.checking.root_makes_strong.Goals as goal

pub returns-in_default : goal.returns-in_default
returns-in_default c = (
  λ h. none_to_make_strong c.args.edited.graph.now c.args.edited.front.now c.args.strengths.now c.args.r
      (sym c.in_default.is ∙ c.held_object.ensures.held),
  λ all. refl,
)

pub returns : goal.returns
returns c =
    one_made_strong c.args.edited.graph.now c.args.edited.front.now c.args.strengths.now c.args.r c.in-Some.held c.has_strength.result
    (sym c.in-Some.is ∙ c.held_object.ensures.held) c.has_strength.ensures
