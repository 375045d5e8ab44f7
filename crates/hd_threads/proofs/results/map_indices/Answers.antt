use Rattle.std.proofs.Common.{rules, refl}
use Rattle.std.proofs.lemmas.Result.{IfOk-weaker}
use Rattle.hd_threads.proofs.ResultLemmas.{gives-all}
use Rattle.hd_threads.proofs.results.map_indices.Goals as goal

pub returns-clause-len : goal.returns-clause-len
returns-clause-len g c = IfOk-weaker c.calls_from.result _ _ (λ v h. search rules) c.calls_from.ensures

pub returns-clause-each : goal.returns-clause-each
returns-clause-each g c =
    IfOk-weaker c.calls_from.result _ _ (λ v h i d l. (refl, record { met = gives-all g.F.Fn c.args.f.now _ v.items h i d l })) c.calls_from.ensures
