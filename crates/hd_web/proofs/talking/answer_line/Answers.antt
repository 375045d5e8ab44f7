use Rattle.std.proofs.Common.{string_bytes, ◌∙◌, ap, Err, subst, sym}
use Rattle.std.proofs.lemmas.Result.{err_from_is_err_and}
use Rattle.hd_web.proofs.TalkLemmas.{no_message, message_sent}
use Rattle.hd_web.proofs.talking.answer_line.Goals as goal

pub returns-in_err-message : goal.returns-in_err-message
returns-in_err-message g c =
    let p = err_from_is_err_and c.from_residual.result c.from_residual.ensures.1 in
    no_message string_bytes g.S.Write.contents c.args.seat.now.analyst c.answer-long.new.self.analyst c.args.socket.now c.args.socket.now c.args.line.now
    c.answer-long.new.out
    c.answer-long.result _ c.from_residual.result c.answer-long.ensures p.1

pub returns : goal.returns
returns g c =
    message_sent string_bytes g.S.Write.contents c.args.seat.now.analyst c.answer-long.new.self.analyst c.args.socket.now c.send.new.self c.args.line.now
    c.answer-long.new.out
    c.answer-long.result c.in_ok-message.message c.send.result c.answer-long.ensures
    (rw (← c.as_slice.ensures.bytes) c.in_ok-message.ensures) c.send.ensures.wrote
