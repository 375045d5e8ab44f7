use Rattle.std.proofs.Common.{rules, inl, subst, sym}
use Rattle.hd_arguments.specs.declared.task.Task.{Task}
use Rattle.hd_program.specs.Performing.{Performs}
use Rattle.hd_program.proofs.performing.perform.Goals as goal

-- the counts and totals of the bytes that were read
pub returns-in-Ok-clause-performs : goal.returns-in-Ok-clause-performs
returns-in-Ok-clause-performs g c =
    let unread = g.R.Read.remaining c.args.input.now in
    let before = g.W.Write.contents c.args.output.now in
    let after = g.W.Write.contents c.stat_bytes-ended.new.output in
    subst (λ (task : Task). Performs task unread unread before after c.report.result) (sym c.in-Stat.is)
    (inl (record {
      bytes = c.in-Ok.bytes.items;
      ended = c.stat_bytes-ended.result;
      stats = c.stat_bytes-ended.ensures;
      unread = search rules;
      exit_is =
          c.report.ensures.status;
    }))
