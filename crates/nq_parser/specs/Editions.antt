-- The editions as the reader says them, and what it says of a header.
use Rattle.std.specs.Prelude.{◌≡◌, ℕ, Bool, true, false, ◌&&◌, ◌==◌, bytes_eq, codes, List, map, Option, Some, None}
use Rattle.std.specs.Borrow.{Bor}
use Rattle.nq_model.specs.QueryGrammar as grammar
use Rattle.nq_model.specs.QueryGrammar.{header_tokens}
use Rattle.nq_model.specs.QueryTexts.{edition_of}
use Rattle.nq_model.specs.QueryTokens as query
use Rattle.query_syntax.specs.Symbols.{token_view}
use Rattle.query_syntax.specs.declared.symbol.Token.{Token}
use Rattle.nq_parser.specs.declared.edition.Edition.{Edition}
use Rattle.nq_parser.specs.declared.edition.Edition.TheVariants as edition

abbrev pub edition_view : Edition → grammar.Edition
edition_view edition.First = grammar.First
edition_view edition.Second = grammar.Second

-- the tokens of a header, one by one
abbrev pub is_nq : query.Token → Bool
is_nq (query.Word p w) = bytes_eq w (codes "nq")
is_nq _ = false

abbrev pub is_two : query.Token → Bool
is_two (query.Value p (query.Number n digits)) = n == 2 && digits == 1
is_two _ = false

abbrev pub is_semicolon : query.Token → Bool
is_semicolon (query.Sign p query.Semicolon) = true
is_semicolon _ = false

-- what stands behind a header at this place, or there is no header
abbrev pub IsBehind : Option (ℕ × Bor (List Token)) → List query.Token → Type 0
IsBehind (Some body) ts = (q r : ℕ) × (ts ≡ header_tokens grammar.Second (body.0, q, r) (map token_view body.1.now))
IsBehind None ts = edition_of ts ≡ grammar.First
