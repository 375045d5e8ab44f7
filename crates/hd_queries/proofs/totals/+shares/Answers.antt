use Rattle.std.proofs.Common.{map}
use Rattle.hd_strength.specs.Found.{only_strength}
use Rattle.hd_queries.proofs.TotalLemmas.{both-counted}
use Rattle.hd_queries.proofs.totals.+shares.Goals as goal

pub returns : goal.returns
returns g t c = both-counted c.args.graph.now (map only_strength c.args.strengths.now) c.args.start _ c.args.end _ _ c.join.ensures.first c.join.ensures.second
    c.sum.result c.sum.ensures
