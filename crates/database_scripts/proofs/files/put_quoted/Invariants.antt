use Rattle.std.proofs.Common.{◌≡◌, ◌++◌, drop}
use Rattle.std.specs.List.{flat_map}
use Rattle.database_scripts.specs.Files.{quoted_byte}
use Rattle.database_scripts.proofs.files.put_quoted.Given as goal

abbrev pub invariant-loop-byte : goal.invariant-loop-byte
invariant-loop-byte l = l.text ++ flat_map (quoted_byte l.quote) (drop l.byte-index l.bytes) ≡ l.initial.text ++ flat_map (quoted_byte l.quote) l.bytes
