use Rattle.std.proofs.Common.{◌≡◌, ◌++◌, flat_map, take, string_bytes}
use Rattle.hd_lines.specs.Names.{name_byte}
use Rattle.hd_words.proofs.name_words.put_name_bytes.Given as goal

-- the bytes so far are put
abbrev pub invariant-loop-byte : goal.invariant-loop-byte
invariant-loop-byte l = string_bytes l.text ≡ string_bytes l.fn.text ++ flat_map name_byte (take l.byte-index l.name)
