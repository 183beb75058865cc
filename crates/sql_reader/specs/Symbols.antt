-- Tokens of the reader as those of the definition.
use Rattle.std.specs.Prelude.{ℕ}
use Rattle.sql_profile.specs.Tokens as sql
use Rattle.sql_reader.specs.declared.token.Mark.{Mark}
use Rattle.sql_reader.specs.declared.token.Mark.TheVariants as marks
use Rattle.sql_reader.specs.declared.token.Symbol.{Symbol}
use Rattle.sql_reader.specs.declared.token.Symbol.TheVariants as symbols
use Rattle.sql_reader.specs.declared.token.Token.{Token}

-- the token of a keyword or a symbol at a place
abbrev pub mark_token : Mark → ℕ → sql.Token
mark_token (marks.Operator op) p = sql.Oper p op
mark_token (marks.Truth b) p = sql.Value p (sql.Truth b)
mark_token marks.Opening p = sql.Open p
mark_token marks.Closing p = sql.Close p
mark_token marks.Comma p = sql.Comma p
mark_token marks.Dot p = sql.Dot p
mark_token marks.Semicolon p = sql.Semi p
mark_token marks.With p = sql.Key p sql.With
mark_token marks.As p = sql.Key p sql.As
mark_token marks.Union p = sql.Key p sql.Union
mark_token marks.All p = sql.Key p sql.All
mark_token marks.Select p = sql.Key p sql.Select
mark_token marks.From p = sql.Key p sql.From
mark_token marks.Where p = sql.Key p sql.Where
mark_token marks.RowNumber p = sql.Key p sql.RowNumber
mark_token marks.Over p = sql.Key p sql.Over
mark_token marks.Order p = sql.Key p sql.Order
mark_token marks.By p = sql.Key p sql.By
mark_token marks.Not p = sql.Key p sql.Not
mark_token marks.Exists p = sql.Key p sql.Exists
mark_token marks.Case p = sql.Key p sql.Case
mark_token marks.When p = sql.Key p sql.When
mark_token marks.Then p = sql.Key p sql.Then
mark_token marks.Else p = sql.Key p sql.Else
mark_token marks.Stop p = sql.Key p sql.Stop
mark_token marks.Count p = sql.Key p sql.Count
mark_token marks.Sum p = sql.Key p sql.Sum
mark_token marks.Coalesce p = sql.Key p sql.Coalesce

abbrev pub symbol_view : ℕ → Symbol → sql.Token
symbol_view p (symbols.Number n) = sql.Value p (sql.Number n.value n.digits)
symbol_view p (symbols.Literal t) = sql.Value p (sql.Literal t.now)
symbol_view p (symbols.Name n) = sql.Name p n.now
symbol_view p (symbols.Mark m) = mark_token m p
symbol_view p symbols.End = sql.End p

abbrev pub token_view : Token → sql.Token
token_view t = symbol_view t.place t.symbol
