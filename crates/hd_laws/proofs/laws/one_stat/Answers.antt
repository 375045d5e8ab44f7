use Rattle.hd_laws.proofs.OneSession.{one_stat}
use Rattle.hd_laws.proofs.laws.one_stat.Goals as goal

pub returns : goal.returns
returns c = one_stat
