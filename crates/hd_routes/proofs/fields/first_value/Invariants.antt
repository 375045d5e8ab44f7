use Rattle.std.proofs.Common.{◌≡◌, drop}
use Rattle.websocket.specs.Headers.{fields_of, header_value}
use Rattle.hd_routes.proofs.fields.first_value.Given as goal

abbrev pub invariant-loop-header : goal.invariant-loop-header
invariant-loop-header l =
    header_value (fields_of l.buf l.spans) l.name ≡ header_value (fields_of l.buf (drop l.header-index l.spans)) l.name
