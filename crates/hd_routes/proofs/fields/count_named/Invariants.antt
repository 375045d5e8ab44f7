use Rattle.std.proofs.Common.{◌≡◌, ◌≤◌, take}
use Rattle.websocket.specs.Headers.{fields_of}
use Rattle.hd_routes.specs.Fields.{count_named}
use Rattle.hd_routes.proofs.fields.count_named.Given as goal

abbrev pub invariant-loop-header : goal.invariant-loop-header
invariant-loop-header l =
    (l.count ≡ count_named (fields_of l.buf (take l.header-index l.spans)) l.name) × (l.count ≤ l.header-index)
