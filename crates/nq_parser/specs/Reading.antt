-- What the reader says of a token list that ends with its text.
use Rattle.std.specs.Prelude.{◌≡◌, ℕ, ⊤, List, [], ◌∷◌, ◌++◌, Result, Ok, Err}
use Rattle.nq_model.specs.OpenLists.{IsFaultAt}
use Rattle.nq_model.specs.OpenLists as open_lists
use Rattle.nq_model.specs.QueryTokens as query
use Rattle.nq_model.specs.QueryTokens.{place_of}
use Rattle.nq_model.specs.QueryGrammar.{IsSpelled}
use Rattle.nq_model.specs.QueryTexts.{edition_of, Derives}
use Rattle.query_syntax.specs.Trees.{syntax_view}
use Rattle.query_syntax.specs.declared.fault.SyntaxFault.{SyntaxFault}
use Rattle.query_syntax.specs.declared.fault.SyntaxFault.TheVariants as code
use Rattle.query_syntax.specs.declared.syntax.Syntax.{Syntax as CodeSyntax}

-- the list ends with the end of the text
abbrev pub Ends : List query.Token → Type 0
Ends ts = (us : List query.Token) × (q : ℕ) × (ts ≡ us ++ query.End q ∷ [])

-- at this place is the first token with which the list is not open
pub record ClosesAt (d : ℕ) (ts : List query.Token) (f : open_lists.Fault) (place : ℕ) : Type 0 where
  pub before : List query.Token
  pub last : query.Token
  pub after : List query.Token
  pub whole : ts ≡ before ++ last ∷ after
  pub there : place_of last ≡ place
  pub closes : IsFaultAt query.Token (IsSpelled (edition_of ts)) d before last f

-- the tree of the program that the tokens are, or where they cease to be open; want of memory is free
abbrev pub Reads : Result CodeSyntax SyntaxFault → ℕ → List query.Token → Type 0
Reads (Ok s) d ts = Derives d ts (syntax_view s)
Reads (Err code.Memory) d ts = ⊤
Reads (Err (code.Unexpected p)) d ts = ClosesAt d ts open_lists.Unexpected p
Reads (Err (code.Deep p)) d ts = ClosesAt d ts open_lists.Deep p
Reads (Err _) d ts = ⊥
