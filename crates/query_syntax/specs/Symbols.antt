-- Tokens of the reader as those of the definition.
use Rattle.std.specs.Prelude.{ℕ}
use Rattle.nq_model.specs.QueryTokens as query
use Rattle.query_syntax.specs.declared.symbol.Operator.{Operator}
use Rattle.query_syntax.specs.declared.symbol.Operator.TheVariants as operators
use Rattle.query_syntax.specs.declared.symbol.Symbol.{Symbol}
use Rattle.query_syntax.specs.declared.symbol.Symbol.TheVariants as symbols
use Rattle.query_syntax.specs.declared.symbol.Token.{Token}

abbrev pub operator_view : Operator → query.Operator
operator_view operators.Union = query.Union
operator_view (operators.Of b) = query.Of b

abbrev pub symbol_view : ℕ → Symbol → query.Token
symbol_view p (symbols.Word w) = query.Word p w.now
symbol_view p (symbols.Number n) = query.Value p (query.Number n.value n.digits)
symbol_view p (symbols.Literal t) = query.Value p (query.Literal t.now)
symbol_view p (symbols.Operator op) = query.Oper p (operator_view op)
symbol_view p symbols.Opening = query.Sign p query.Opening
symbol_view p symbols.Closing = query.Sign p query.Closing
symbol_view p symbols.OpeningBag = query.Sign p query.OpeningBag
symbol_view p symbols.ClosingBag = query.Sign p query.ClosingBag
symbol_view p symbols.Comma = query.Sign p query.Comma
symbol_view p symbols.Colon = query.Sign p query.Colon
symbol_view p symbols.Semicolon = query.Sign p query.Semicolon
symbol_view p symbols.Dot = query.Sign p query.Dot
symbol_view p symbols.Assign = query.Sign p query.Assign
symbol_view p symbols.From = query.Sign p query.From
symbol_view p symbols.Arrow = query.Sign p query.Arrow
symbol_view p symbols.Bang = query.Sign p query.Bang
symbol_view p symbols.End = query.End p

abbrev pub token_view : Token → query.Token
token_view t = symbol_view t.place t.symbol
