use Rattle.hd_laws.proofs.PlainExample.{plain_session}
use Rattle.hd_laws.proofs.laws.plain_session.Goals as goal

pub returns : goal.returns
returns c = plain_session c.reply_examples.ensures.strength
