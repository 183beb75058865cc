-- What an SQL text spells at a depth, and its one fault.
--
-- The faults come in this order: no UTF-8; then no token, or a number that is too large, whichever comes first;
-- then the first token with which the tokens are not open.
use Rattle.std.specs.Prelude.{◌≡◌, ℕ, ◌≤◌, List, ◌∷◌, ◌++◌, length, Ok, Err}
use Rattle.std.specs.Str.{IsUtf8, IsValidUpTo}
use Rattle.nq_model.specs.OpenLists.{IsFaultAt}
use Rattle.nq_model.specs.OpenLists as open_lists
use Rattle.nq_model.specs.Tables.{Columns}
use Rattle.nq_model.specs.declared.table.Cell.{Cell}
use Rattle.sql_profile.specs.declared.server.Loaded.{Loaded}
use Rattle.sql_profile.specs.Tokens.{Edition, Token, place_of, Stuck, NoToken, TooLarge, tokens_of}
use Rattle.sql_profile.specs.Grammar.{TextSyntax, IsText, IsSpelled, text_depth, tree_of}
use Rattle.sql_profile.specs.Trees.{PlacedSql, bare}
use Rattle.sql_profile.specs.Scope.{IsWellScoped, shapes_of}
use Rattle.sql_profile.specs.AllowedAnswers.{TreeAllows}

-- the bytes are UTF-8, and these are their tokens
abbrev pub HasTokens : Edition → List ℕ → List Token → Type 0
HasTokens edition text ts = IsUtf8 text × (tokens_of edition text ≡ Ok ts)

-- the text spells the tree at depth d
pub record Spells (edition : Edition) (d : ℕ) (text : List ℕ) (tree : PlacedSql) : Type 0 where
  pub tokens : List Token
  pub cut : HasTokens edition text tokens
  pub syntax_tree : TextSyntax
  pub derived : IsText edition tokens syntax_tree
  pub within : text_depth syntax_tree ≤ d
  pub same : tree ≡ tree_of syntax_tree

-- why a text spells no tree
pub data Fault : Type 0 where
  not_utf8 : Fault
  token : Fault
  int_range : Fault
  unexpected : Fault
  deep : Fault

-- no token is cut off at this place, and before it tokens are
abbrev pub StopsAt : Edition → List ℕ → Stuck → ℕ → Type 0
StopsAt edition text f place = IsUtf8 text × (tokens_of edition text ≡ Err (place, f))

-- the first token with which the tokens are no longer open at depth d has this place
pub record EndsOpen (edition : Edition) (d : ℕ) (text : List ℕ) (f : open_lists.Fault) (place : ℕ) : Type 0 where
  pub before : List Token
  pub last : Token
  pub after : List Token
  pub cut : HasTokens edition text (before ++ last ∷ after)
  pub there : place_of last ≡ place
  pub closes : IsFaultAt Token (IsSpelled edition) d before last f

-- the text has this fault at this place, at depth d
abbrev pub HasFault : Edition → ℕ → List ℕ → Fault → ℕ → Type 0
HasFault edition d text Fault.not_utf8 place = IsValidUpTo text place
HasFault edition d text Fault.token place = StopsAt edition text NoToken place
HasFault edition d text Fault.int_range place = StopsAt edition text TooLarge place
HasFault edition d text Fault.unexpected place = EndsOpen edition d text open_lists.Unexpected place
HasFault edition d text Fault.deep place = EndsOpen edition d text open_lists.Deep place

-- a text that a server may be asked: it spells a tree, at a depth of its own bytes, that is well scoped over the
-- held tables
pub record IsAskable (edition : Edition) (held : List Loaded) (text : List ℕ) : Type 0 where
  pub tree : PlacedSql
  pub spelled : Spells edition (length text) text tree
  pub columns : Columns
  pub scoped : IsWellScoped (shapes_of held) (bare tree) columns

-- SQL allows these rows as the answer to the text
pub record TextAllows (edition : Edition) (held : List Loaded) (text : List ℕ) (rows : List (List Cell)) : Type 0 where
  pub tree : PlacedSql
  pub spelled : Spells edition (length text) text tree
  pub allowed : TreeAllows held (bare tree) rows
