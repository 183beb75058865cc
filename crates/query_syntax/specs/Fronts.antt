-- What the reader says of the front of a text, and of its tokens.
use Rattle.std.specs.Prelude.{◌≡◌, ℕ, List, map, Result, Ok, Err, ⊤}
use Rattle.nq_model.specs.QueryTokens as query
use Rattle.query_syntax.specs.Symbols.{operator_view, symbol_view, token_view}
use Rattle.query_syntax.specs.declared.front.Front.{Front}
use Rattle.query_syntax.specs.declared.front.Front.TheVariants as fronts
use Rattle.query_syntax.specs.declared.marks.Mark.{Mark}
use Rattle.query_syntax.specs.declared.marks.Mark.TheVariants as marks
use Rattle.query_syntax.specs.declared.symbol.Token.{Token}
use Rattle.std.specs.Borrow.{Bor}
use Rattle.query_syntax.specs.declared.fault.SyntaxFault.{SyntaxFault}
use Rattle.query_syntax.specs.declared.fault.SyntaxFault.TheVariants as code

abbrev pub front_view : Front → query.Front
front_view (fronts.Gap n) = query.Gap n
front_view (fronts.Takes n s) = query.Takes n (λ p. symbol_view p s)
front_view fronts.NoToken = query.Stops query.NoToken
front_view fronts.TooLarge = query.Stops query.TooLarge

-- tokens, or why there are none
abbrev pub Cuts : Result (List Token) SyntaxFault → Result (List query.Token) (ℕ × query.Stop) → Type 0
Cuts (Ok ts) cut = cut ≡ Ok (map token_view ts)
Cuts (Err code.Memory) cut = ⊤
Cuts (Err (code.Token p)) cut = cut ≡ Err (p, query.NoToken)
Cuts (Err (code.IntRange p)) cut = cut ≡ Err (p, query.TooLarge)
Cuts (Err _) cut = ⊥

-- the token of a symbol at a place
abbrev pub mark_token : Mark → ℕ → query.Token
mark_token (marks.Operator op) p = query.Oper p (operator_view op)
mark_token marks.Opening p = query.Sign p query.Opening
mark_token marks.Closing p = query.Sign p query.Closing
mark_token marks.OpeningBag p = query.Sign p query.OpeningBag
mark_token marks.ClosingBag p = query.Sign p query.ClosingBag
mark_token marks.Comma p = query.Sign p query.Comma
mark_token marks.Colon p = query.Sign p query.Colon
mark_token marks.Semicolon p = query.Sign p query.Semicolon
mark_token marks.Dot p = query.Sign p query.Dot
mark_token marks.Assign p = query.Sign p query.Assign
mark_token marks.From p = query.Sign p query.From
mark_token marks.Arrow p = query.Sign p query.Arrow
mark_token marks.Bang p = query.Sign p query.Bang

-- a table of symbols, each with how it is spelled
abbrev pub table_view : List (Bor (List ℕ) × Mark) → List (List ℕ × (ℕ → query.Token))
table_view rows = map (λ row. (row.0.now, mark_token row.1)) rows
