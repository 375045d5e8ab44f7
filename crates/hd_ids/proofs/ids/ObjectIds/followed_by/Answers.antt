use Rattle.std.proofs.Common.{◌≡◌, ◌∙◌, length, sym}
use Rattle.std.proofs.lemmas.Bool.{eqb-true}
use Rattle.hd_ids.proofs.FollowLemmas.{none-apart, none-before}
use Rattle.hd_ids.proofs.ids.ObjectIds.followed_by.Goals as goal

pub returns-then-is_empty : goal.returns-then-is_empty
returns-then-is_empty c =
    let none : length c.args.self ≡ 0 = eqb-true (length c.args.self) 0 (sym c.is_empty.ensures ∙ c.if-is_empty.true) in
    (none-apart c.args.self c.args.back none, none-before c.args.self c.args.back none)
