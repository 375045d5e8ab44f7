use Rattle.std.proofs.Common.{rules}
use Rattle.hd_routes.specs.Requests.{spanned}
use Rattle.hd_routes.proofs.Upgrades.{accepted}
use Rattle.hd_routes.proofs.route.desk_answer.Goals as goal

pub new-requires : goal.new-requires
new-requires c =
    let r = spanned c.args.buf.now c.args.spans.now c.args.request.now in
    let asks = accepted r.method r.minor r.fields c.in-Ok.accept_key c.in-Ok.ensures in (
      r,
      record {
        host = c.args.host.now;
        to_server = c.requires.to_server;
        upgrade = asks.0;
        from_page = search rules;
        key = asks.1.0;
        has_key = asks.1.1;
        valid = asks.1.2;
        answers = asks.1.3;
      },
    )
