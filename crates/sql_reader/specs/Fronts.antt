-- What the reader says of the front of a text, and of its tokens.
use Rattle.std.specs.Prelude.{◌≡◌, ℕ, List, map, Result, Ok, Err, ⊤}
use Rattle.std.specs.Borrow.{Bor}
use Rattle.sql_profile.specs.Tokens as sql
use Rattle.sql_reader.specs.Symbols.{mark_token, symbol_view, token_view}
use Rattle.sql_reader.specs.declared.front.Front.{Front}
use Rattle.sql_reader.specs.declared.front.Front.TheVariants as fronts
use Rattle.sql_reader.specs.declared.token.Mark.{Mark}
use Rattle.sql_reader.specs.declared.token.Token.{Token}
use Rattle.sql_reader.specs.declared.fault.SqlFault.{SqlFault}
use Rattle.sql_reader.specs.declared.fault.SqlFault.TheVariants as code

abbrev pub front_view : Front → sql.Front
front_view (fronts.Gap n) = sql.Gap n
front_view (fronts.Takes n s) = sql.Takes n (λ p. symbol_view p s)
front_view fronts.NoToken = sql.Stops sql.NoToken
front_view fronts.TooLarge = sql.Stops sql.TooLarge

-- tokens, or why there are none
abbrev pub Cuts : Result (List Token) SqlFault → Result (List sql.Token) (ℕ × sql.Stuck) → Type 0
Cuts (Ok ts) cut = cut ≡ Ok (map token_view ts)
Cuts (Err code.Memory) cut = ⊤
Cuts (Err (code.Token p)) cut = cut ≡ Err (p, sql.NoToken)
Cuts (Err (code.IntRange p)) cut = cut ≡ Err (p, sql.TooLarge)
Cuts (Err _) cut = ⊥

-- a table of keywords or symbols, each with how it is spelled
abbrev pub table_view : List (Bor (List ℕ) × Mark) → List (List ℕ × (ℕ → sql.Token))
table_view rows = map (λ row. (row.0.now, mark_token row.1)) rows
