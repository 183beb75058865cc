use Rattle.std.proofs.Common.{◌≡◌, drop, map}
use Rattle.sql_profile.specs.Tokens.{capital, same_bytes}
use Rattle.sql_reader.proofs.marks.is_keyword.Given as goal

abbrev pub invariant-loop-i : goal.invariant-loop-i
invariant-loop-i l = same_bytes (drop l.i l.keyword) (map capital (drop l.i l.word)) ≡ same_bytes l.keyword (map capital l.word)
