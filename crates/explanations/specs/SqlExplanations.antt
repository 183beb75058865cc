-- The explanation of a fault of an SQL text: what is said of its place, the line of the place with
-- a caret under it, and then lines that tell more.
use Rattle.std.specs.Prelude.{◌≡◌, ℕ, ◌≤◌, ⊤, if◌then◌else◌, List, ◌++◌}
use Rattle.std.specs.Prelude.{◌⊎◌, map, codes, Option, Some, None, Result, Ok, Err}
use Rattle.nq_model.specs.OpenLists.{Fault}
use Rattle.nq_model.specs.declared.memory.Memory.{Memory}
use Rattle.sql_profile.specs.Texts.{EndsOpen, HasTokens}
use Rattle.sql_profile.specs.Tokens.{First, Token}
use Rattle.sql_reader.specs.Symbols.{token_view}
use Rattle.sql_reader.specs.declared.fault.SqlFault.{SqlFault}
use Rattle.sql_reader.specs.declared.fault.SqlFault.TheVariants as code
use Rattle.sql_reader.specs.declared.token.Token.{Token as Tokens}
use Rattle.sql_scope.specs.declared.found.Found.{Found}
use Rattle.expected_sql_tokens.specs.Expected.{Expects}
use Rattle.expected_sql_tokens.specs.declared.kinds.SqlTokenKind.{SqlTokenKind}
use Rattle.diagnostics.specs.Excerpts.{excerpt_text}
use Rattle.diagnostics.specs.ScopeRules.{scope_number, scope_asks, scope_right}
use Rattle.diagnostics.specs.Sentences.{sql_sentence}
use Rattle.diagnostics.specs.declared.scope_rules.ScopeRule.{ScopeRule}
use Rattle.diagnostics.specs.declared.scope_rules.ScopeRule.TheVariants as rule
use Rattle.diagnostics.specs.declared.sentences.SqlFaultKind.{SqlFaultKind}
use Rattle.diagnostics.specs.declared.sentences.SqlFaultKind.TheVariants as sql
use Rattle.explanations.specs.Explanations.{missing_text, rule_line, stop_text}
use Rattle.explanations.specs.Groups.{names}
use Rattle.explanations.specs.Lists.{among}
use Rattle.explanations.specs.SqlFound.{sql_found_line}
use Rattle.explanations.specs.SqlGroups.{sql_groups}
use Rattle.explanations.specs.SqlHints.{sql_stop_sentence}
use Rattle.explanations.specs.SqlPlaces.{place_sentence}
use Rattle.explanations.specs.SqlWords.{name_at, sql_around, sql_kind_words}
use Rattle.explanations.specs.Words.{Around}

-- 1. what is written

-- where the text ceases to be SQL that nq takes
unfoldable pub sql_stopped_text : SqlFaultKind → List ℕ → List ℕ → ℕ → Around
    → List (List ℕ) → List ℕ
sql_stopped_text kind file text place there expected =
    stop_text file text place (sql_stop_sentence kind there expected) there.found
    (names sql_groups expected)

-- of a scope rule, with this sentence, where this was found
unfoldable pub scope_text : List ℕ → List ℕ → ℕ → List ℕ → Found → ScopeRule
    → List ℕ
scope_text file text place sentence found broken =
    excerpt_text file text place sentence
    ++ (sql_found_line found ++ rule_line (scope_number broken) (scope_right broken))

-- of an alias that none around has: whether a table has this name
abbrev pub alias_sentence : List (List ℕ) → List ℕ → List ℕ
alias_sentence tables name =
    if among tables name
    then codes "This is a table's name. Write the alias that FROM gives it, as in \"d\".\"name\"."
    else scope_asks rule.Alias

-- 2. what is explained

-- Of a text that ceases to be SQL of this depth at a place: its tokens, and just the kinds of
-- tokens with which an SQL text could have gone on there.
pub record SqlStopped (d : ℕ) (kind : SqlFaultKind) (file text : List ℕ) (place : ℕ)
    (made : List ℕ) : Type 0 where
  pub tokens : List Token
  pub cut : HasTokens First text tokens
  pub kinds : List SqlTokenKind
  pub expects : Expects d tokens kinds
  pub is : made
      ≡ sql_stopped_text kind file text place (sql_around place tokens) (map sql_kind_words kinds)

-- the same, where the text does cease to be one there
abbrev pub ExplainsSqlStop : ℕ → SqlFaultKind → List ℕ → List ℕ → ℕ → List ℕ
    → Type 0
ExplainsSqlStop d kind file text place made =
    (fault : Fault) → EndsOpen First d text fault place
    → SqlStopped d kind file text place made

-- the tokens of a text, if it has any; want of memory is free
abbrev pub SqlTokensIn : Result (Option (List Tokens)) Memory → List ℕ → Type 0
SqlTokensIn (Ok (Some tokens)) text = HasTokens First text (map token_view tokens)
SqlTokensIn (Ok None) text = (tokens : List Token) → HasTokens First text tokens → ⊥
SqlTokensIn (Err e) text = ⊤

-- the explanation of a fault of an SQL text of this depth; want of memory has none
abbrev pub ExplainsSql : ℕ → List ℕ → List ℕ → SqlFault → List ℕ → Type 0
ExplainsSql d file text code.Memory made = ⊥
ExplainsSql d file text (code.NotUtf8 place) made =
    made ≡ excerpt_text file text place (sql_sentence sql.NotUtf8)
ExplainsSql d file text (code.Token place) made =
    made ≡ excerpt_text file text place (place_sentence text place)
ExplainsSql d file text (code.IntRange place) made =
    made ≡ excerpt_text file text place (sql_sentence sql.IntRange)
ExplainsSql d file text (code.Unexpected place) made =
    ExplainsSqlStop d sql.Unexpected file text place made
ExplainsSql d file text (code.Deep place) made = ExplainsSqlStop d sql.Deep file text place made

-- of a source that is missing in a text that has tokens: its name stands at the place
abbrev pub ExplainsSource : List ℕ → List ℕ → ℕ → List (List ℕ) → List ℕ
    → Type 0
ExplainsSource file text place tables made =
    (tokens : List Token) → HasTokens First text tokens
    → made ≡ missing_text file text place (scope_asks rule.Source) tables (name_at place tokens)

-- of an alias that none around has, in a text that has tokens: it stands at the place
abbrev pub ExplainsAlias : List ℕ → List ℕ → ℕ → List (List ℕ) → Found → List ℕ
    → Type 0
ExplainsAlias file text place tables found made =
    (tokens : List Token) → HasTokens First text tokens
    → made
    ≡ scope_text file text place (alias_sentence tables (name_at place tokens)) found rule.Alias

-- the explanation of a scope rule that a text breaks, where this was found, and of that of this
-- number
abbrev pub ExplainsBrokenScope : List ℕ → List ℕ → ℕ → List (List ℕ) → Found
    → ScopeRule → List ℕ → Type 0
ExplainsBrokenScope file text place tables found rule.Source made =
    ExplainsSource file text place tables made
ExplainsBrokenScope file text place tables found rule.Alias made =
    ExplainsAlias file text place tables found made
ExplainsBrokenScope file text place tables found broken made =
    made ≡ scope_text file text place (scope_asks broken) found broken

abbrev pub ExplainsScopeRule : List ℕ → List ℕ → ℕ → List (List ℕ) → Found → ℕ
    → List ℕ → Type 0
ExplainsScopeRule file text place tables found number made =
    (broken : ScopeRule) × (scope_number broken ≡ number)
    × ExplainsBrokenScope file text place tables found broken made

-- of a number that no rule has, which no text breaks
abbrev pub ExplainsNoRule : List ℕ → List ℕ → ℕ → ℕ → List ℕ → Type 0
ExplainsNoRule file text place number made =
    (1 ≤ number → 11 ≤ number)
    × (made ≡ excerpt_text file text place (codes "The SQL text breaks a rule."))

-- of the rule of a number, or of a number that none has
abbrev pub ExplainsScope : List ℕ → List ℕ → ℕ → List (List ℕ) → Found → ℕ
    → List ℕ → Type 0
ExplainsScope file text place tables found number made =
    ExplainsScopeRule file text place tables found number made
    ⊎ ExplainsNoRule file text place number made
