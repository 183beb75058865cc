use Rattle.std.proofs.Common.{◌≡◌, ◌≤◌, ◌-◌, drop, length, map}
use Rattle.sql_profile.specs.Tokens.{First, tokens_of}
use Rattle.sql_reader.specs.Symbols.{token_view}
use Rattle.sql_reader.proofs.Cutting.{behind, rest_of}
use Rattle.sql_reader.proofs.lexer.tokens.Given as goal

abbrev pub invariant-loop-place : goal.invariant-loop-place
invariant-loop-place l = (l.place ≤ length l.text) × (behind (map token_view l.tokens) (rest_of l.place (drop l.place l.text)) ≡ tokens_of First l.text)

abbrev pub decreases-loop-place : goal.decreases-loop-place
decreases-loop-place l = l.end - l.place
