use Rattle.std.proofs.Common.{◌≡◌, ◌+◌, drop}
use Rattle.std.specs.List.{prefix_len}
use Rattle.sql_profile.specs.Tokens.{is_name_byte}
use Rattle.sql_reader.proofs.front.name_len.Given as goal

abbrev pub invariant-loop-i : goal.invariant-loop-i
invariant-loop-i l = l.i + prefix_len is_name_byte (drop l.i l.bytes) ≡ prefix_len is_name_byte l.bytes
