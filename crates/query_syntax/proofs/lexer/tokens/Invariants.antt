use Rattle.std.proofs.Common.{◌≡◌, ◌≤◌, ◌-◌, drop, length, map}
use Rattle.nq_model.specs.QueryTokens.{tokens_of}
use Rattle.query_syntax.specs.Symbols.{token_view}
use Rattle.query_syntax.proofs.Cutting.{behind, rest_of}
use Rattle.query_syntax.proofs.lexer.tokens.Given as goal

abbrev pub invariant-loop-place : goal.invariant-loop-place
invariant-loop-place l = (l.place ≤ length l.text) × (behind (map token_view l.tokens) (rest_of l.place (drop l.place l.text)) ≡ tokens_of l.text)

abbrev pub decreases-loop-place : goal.decreases-loop-place
decreases-loop-place l = l.end - l.place
