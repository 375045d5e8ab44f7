use Rattle.hd_protocol.proofs.ServedDesks.{closed_alone}
use Rattle.hd_protocol.proofs.run.serve_alone.Goals as goal

pub returns-in-Ok : goal.returns-in-Ok
returns-in-Ok g c =
    closed_alone c.args.board c.args.names c.args.desk c.serve.new.desk c.in-Ok._log _ _ _ _ c.serve.result tt c.requires.board c.requires.desk c.serve.ensures
    c.in_ok-serve.was c.in-Ok.ensures.ok
