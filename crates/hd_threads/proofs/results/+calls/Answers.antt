use Rattle.std.proofs.Common.{rules, arith}
use Rattle.std.proofs.lemmas.Result.{IfOk-at_ok}
use Rattle.std.specs.Fork.Halves.{GivesFrom}
use Rattle.hd_threads.proofs.ResultLemmas.{gives-one, gives-both}
use Rattle.hd_threads.proofs.results.+calls.Goals as goal

pub returns-then-count-eq1 : goal.returns-then-count-eq1
returns-then-count-eq1 g t c =
    gives-one g.F.Fn c.args.f.now c.args.from c.args.count c.f.result c.push.new.self.items c.if-count-eq1.true (search rules) (search rules)

pub returns : goal.returns
returns g t c =
    gives-both g.F.Fn c.args.f.now c.args.from _ _ c.args.count _ _ _ (omega arith) c.in_ok-append.ensures.items
    (IfOk-at_ok (λ v. GivesFrom g.F.Fn c.args.f.now _ _ v.items) c.in_ok-all.was c.join-first.ensures.first)
    (IfOk-at_ok (λ v. GivesFrom g.F.Fn c.args.f.now _ _ v.items) c.in_ok-others.was c.join-first.ensures.second)
