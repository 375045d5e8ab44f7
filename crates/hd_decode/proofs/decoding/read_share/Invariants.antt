use Rattle.std.proofs.Common.{◌≡◌, take}
use Rattle.hd_decode.specs.Bodies.{ReadsBodies}
use Rattle.hd_decode.proofs.decoding.read_share.Given as goal

-- the bodies so far, and that the reader is still one of this file
abbrev pub invariant-loop-span : goal.invariant-loop-span
invariant-loop-span l = record {
  read : ReadsBodies l.fn.id_size l.bytes (take l.span-index l.share) l.reader.subs;
  bytes : l.reader.bytes ≡ l.bytes;
  size : l.reader.size ≡ l.fn.id_size;
}
