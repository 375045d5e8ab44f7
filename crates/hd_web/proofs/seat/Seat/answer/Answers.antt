use Rattle.std.proofs.Common.{string_bytes, rules}
use Rattle.hd_web.proofs.SessionLemmas.{goes_on_by}
use Rattle.hd_web.proofs.seat.Seat.answer.Goals as goal

pub invariant_of-self : goal.invariant_of-self
invariant_of-self g c = record {
  session = goes_on_by string_bytes c.args.self.now.analyst c.answer.new.analyst c.args.line.now c.answer.new.out c.answer.result
      (rw (← c.last_word.ensures, ← c.read_command.ensures) c.answer.ensures) c.args.self.now.session;
}
