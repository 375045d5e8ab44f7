use Rattle.std.proofs.Common.{Ok, Err, refl}
use Rattle.hd_web.proofs.talking.serve_next.Goals as goal

pub returns-in-Ok : goal.returns-in-Ok
returns-in-Ok g c = record { read = Ok c.in-Ok.message; between = c.read.new.self; reads = c.in-Ok.ensures; serves = c.serve_message.ensures }

pub returns-in-Err : goal.returns-in-Err
returns-in-Err g c = record {
  read = Err c.in-Err.error;
  between = c.read.new.self;
  reads = c.in-Err.ensures;
  serves =
      (c.close_code.result, (refl, refl, refl));
}
