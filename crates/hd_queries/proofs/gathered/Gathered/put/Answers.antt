use Rattle.std.proofs.Common.{subst}
use Rattle.hd_queries.specs.Gathered.{AreGathered}
use Rattle.hd_queries.proofs.GatheredLemmas.{put-least}
use Rattle.hd_queries.proofs.gathered.Gathered.put.Goals as goal

pub returns-in_ok-put-in-Least : goal.returns-in_ok-put-in-Least
returns-in_ok-put-in-Least c most all h = put-least most all c.args.id c.in-Least.ids c.put.new.self c.in_ok-put-in-Least.ensures
    (subst (AreGathered most all) c.in-Least.is h)
