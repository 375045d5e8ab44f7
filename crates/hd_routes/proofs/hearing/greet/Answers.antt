use Rattle.std.proofs.Common.{refl, rules}
use Rattle.std.proofs.KnownBytes.{Keeps-refl}
use Rattle.hd_routes.proofs.hearing.greet.Goals as goal

pub returns-in-Desk : goal.returns-in-Desk
returns-in-Desk g c = (c.in_ok-heard.heard, c.in_ok-heard.ensures, c.in-Desk.is, refl, Keeps-refl _)
