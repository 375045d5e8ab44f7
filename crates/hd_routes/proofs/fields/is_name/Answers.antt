use Rattle.std.proofs.lemmas.Bool.Decides.{same_from_decides}
use Rattle.std.proofs.lemmas.Slice.Eq.{bytes_eq-Decides}
use Rattle.websocket.specs.Headers.{eq_ignore_case}
use Rattle.hd_routes.proofs.fields.is_name.Goals as goal

pub returns : goal.returns
unfolding eq_ignore_case
returns c = same_from_decides _ _ c.eq_ignore_ascii_case.ensures.test (bytes_eq-Decides _ _)
