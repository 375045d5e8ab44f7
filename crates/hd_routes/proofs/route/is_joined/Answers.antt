use Rattle.std.proofs.Common.{Some, None}
use Rattle.std.proofs.lemmas.Bool.Decides.{Decides-eqb}
use Rattle.std.proofs.lemmas.Slice.Eq.{strip_prefix_is}
use Rattle.hd_routes.proofs.Joins.{tests_rest, no_front}
use Rattle.hd_routes.proofs.route.is_joined.Goals as goal

pub returns-in-Some : goal.returns-in-Some
returns-in-Some c =
    tests_rest c.args.text.now c.args.front.now c.in-Some.rest.now c.args.back.now c.eq.result
    (strip_prefix_is Decides-eqb c.args.text.now c.args.front.now (Some c.in-Some.rest) c.in-Some.ensures.cases)
    c.eq.ensures

pub returns-in-None : goal.returns-in-None
returns-in-None c =
    no_front c.args.text.now c.args.front.now c.args.back.now (strip_prefix_is Decides-eqb c.args.text.now c.args.front.now None c.in-None.ensures.cases)
