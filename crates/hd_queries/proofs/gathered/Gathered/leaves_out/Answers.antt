use Rattle.std.proofs.Common.{[], ◌∷◌, ◌++◌, sym, subst}
use Rattle.hd_queries.specs.Gathered.{AreGathered}
use Rattle.hd_queries.proofs.GatheredLemmas.{skip-least}
use Rattle.hd_queries.proofs.gathered.Gathered.leaves_out.Goals as goal

pub returns-in-Least : goal.returns-in-Least
returns-in-Least c out most all x above h =
    subst (AreGathered most (all ++ x ∷ [])) (sym c.in-Least.is)
    (skip-least most all x c.in-Least.ids (c.leaves_out.ensures out x above) (subst (AreGathered most all) c.in-Least.is h))
