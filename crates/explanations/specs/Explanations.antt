-- The explanation of a fault: what is said of its place, the line of the place with a caret under
-- it, and then lines that tell more.
use Rattle.std.specs.Prelude.{◌≡◌, ℕ, ◌≤◌, ⊤, if◌then◌else◌, List, []}
use Rattle.std.specs.Prelude.{◌++◌, ◌⊎◌, map, codes, slice_get, Option, Some, None}
use Rattle.std.specs.Prelude.{Result, Ok, Err}
use Rattle.std.specs.Fmt.{decimal}
use Rattle.nq_model.specs.OpenLists.{Fault}
use Rattle.nq_model.specs.QueryTexts.{EndsOpen, HasTokens}
use Rattle.nq_model.specs.QueryTokens.{Token}
use Rattle.nq_model.specs.TypeTexts.{written_type}
use Rattle.nq_model.specs.Types.{TypeTree}
use Rattle.nq_model.specs.declared.memory.Memory.{Memory}
use Rattle.nq_model.specs.declared.table.Schema.{Schema}
use Rattle.schema_reader.specs.declared.fault.SchemaFault.{SchemaFault}
use Rattle.schema_reader.specs.declared.fault.SchemaFault.TheVariants as reader
use Rattle.query_syntax.specs.declared.fault.SyntaxFault.{SyntaxFault}
use Rattle.query_syntax.specs.declared.fault.SyntaxFault.TheVariants as code
use Rattle.query_syntax.specs.Symbols.{token_view}
use Rattle.query_syntax.specs.declared.symbol.Token.{Token as Tokens}
use Rattle.expected_tokens.specs.Expected.{Expects}
use Rattle.expected_tokens.specs.declared.kinds.TokenKind.{TokenKind}
use Rattle.diagnostics.specs.Excerpts.{excerpt_text}
use Rattle.diagnostics.specs.Sentences.{schema_sentence, query_sentence}
use Rattle.diagnostics.specs.TypingRules.{typing_number, typing_asks, typing_right}
use Rattle.diagnostics.specs.declared.sentences.SchemaFaultKind.TheVariants as schema
use Rattle.diagnostics.specs.declared.sentences.QueryFaultKind.{QueryFaultKind}
use Rattle.diagnostics.specs.declared.sentences.QueryFaultKind.TheVariants as query
use Rattle.diagnostics.specs.declared.typing_rules.TypingRule.{TypingRule}
use Rattle.diagnostics.specs.declared.typing_rules.TypingRule.TheVariants as rule
use Rattle.explanations.specs.Groups.{groups, names}
use Rattle.explanations.specs.Lists.{among, listed}
use Rattle.explanations.specs.Nearest.{nearest}
use Rattle.explanations.specs.Sentences.{token_sentence, stop_sentence, name_sentence}
use Rattle.explanations.specs.Words.{Around, around, behind, kind_words}

-- the names of the tables, in the order of the schema
abbrev pub table_names : Schema → List (List ℕ)
table_names schema = map (λ shape. shape.name) schema.tables

-- 1. lines that tell more

-- the words of the token at the place
unfoldable pub found_line : List ℕ → List ℕ
found_line found = codes "found: " ++ (found ++ codes "\n")

-- the names of the kinds of tokens with which a text could have gone on
unfoldable pub expected_line : List (List ℕ) → List ℕ
expected_line said = codes "expected: " ++ (listed (codes " or ") said ++ codes "\n")

-- the tables of the schema
unfoldable pub tables_line : List (List ℕ) → List ℕ
tables_line tables = codes "tables: " ++ (listed (codes " and ") tables ++ codes "\n")

-- what to write for the name of a table
unfoldable pub table_line : List ℕ → List ℕ
table_line name = codes "write: table " ++ (name ++ codes "\n")

-- the name that is nearest to one that no table has
unfoldable pub nearest_line : Option (List ℕ) → List ℕ
nearest_line None = []
nearest_line (Some name) = codes "nearest: " ++ (name ++ codes "\n")

-- the types that were found
abbrev pub type_texts : List TypeTree → List (List ℕ)
type_texts types = map written_type types

unfoldable pub types_line : List TypeTree → List ℕ
types_line found =
    codes "found: " ++ (listed (codes " and ") (type_texts found) ++ codes "\n")

-- the number of a rule, and a text that keeps it
unfoldable pub rule_line : ℕ → List ℕ → List ℕ
rule_line number right =
    codes "rule: " ++ (decimal number ++ (codes ", kept by: " ++ (right ++ codes "\n")))

-- where a text stops: what is said of it, what stands there, and the names of what is expected
unfoldable pub stop_text : List ℕ → List ℕ → ℕ → List ℕ → List ℕ
    → List (List ℕ) → List ℕ
stop_text file text place sentence found said =
    excerpt_text file text place sentence ++ (found_line found ++ expected_line said)

-- where a name stands that no table has, and a rule asks for one
unfoldable pub missing_text : List ℕ → List ℕ → ℕ → List ℕ → List (List ℕ)
    → List ℕ → List ℕ
missing_text file text place asks tables name =
    excerpt_text file text place asks ++ (tables_line tables ++ nearest_line (nearest tables name))

-- of a name that no table has, which stands in no text
unfoldable pub no_table_text : List ℕ → List (List ℕ) → List ℕ
no_table_text name tables =
    codes "No table of the schema has this name.\n"
    ++ (found_line name ++ (tables_line tables ++ nearest_line (nearest tables name)))

-- 2. faults of queries

-- where the text ceases to be a query
unfoldable pub stopped_text : QueryFaultKind → List ℕ → List ℕ → ℕ → Around
    → List (List ℕ) → List ℕ
stopped_text kind file text place there expected =
    stop_text file text place (stop_sentence kind there expected) there.found
    (names groups expected)

-- of a name that no variable has
abbrev pub name_line : List (List ℕ) → List ℕ → List ℕ
name_line tables name = if among tables name then table_line name else tables_line tables

unfoldable pub unbound_text : List ℕ → List ℕ → ℕ → List (List ℕ) → List ℕ
    → List ℕ
unbound_text file text place tables name =
    excerpt_text file text place (name_sentence tables name) ++ name_line tables name

-- of another typing rule, where these types were found
unfoldable pub broken_text : List ℕ → List ℕ → ℕ → List TypeTree → TypingRule
    → List ℕ
broken_text file text place found broken =
    excerpt_text file text place (typing_asks broken)
    ++ (types_line found ++ rule_line (typing_number broken) (typing_right broken))

-- 3. what is explained

-- Of a text that ceases to be a query of this depth at a place: its tokens, and just the kinds of
-- tokens with which a query could have gone on there.
pub record Stopped (d : ℕ) (kind : QueryFaultKind) (file text : List ℕ) (place : ℕ)
    (made : List ℕ) : Type 0 where
  pub tokens : List Token
  pub cut : HasTokens text tokens
  pub kinds : List TokenKind
  pub expects : Expects d tokens kinds
  pub is : made ≡ stopped_text kind file text place (around place tokens) (map kind_words kinds)

-- the same, where the text does cease to be one there
abbrev pub ExplainsStop : ℕ → QueryFaultKind → List ℕ → List ℕ → ℕ → List ℕ
    → Type 0
ExplainsStop d kind file text place made =
    (fault : Fault) → EndsOpen d text fault place → Stopped d kind file text place made

-- of a name of a text that has tokens
abbrev pub ExplainsName : List ℕ → List ℕ → ℕ → List (List ℕ) → List ℕ → Type 0
ExplainsName file text place tables made =
    (tokens : List Token) → HasTokens text tokens
    → made ≡ unbound_text file text place tables (around place tokens).found

-- the tokens of a text, if it has any; want of memory is free
abbrev pub TokensIn : Result (Option (List Tokens)) Memory → List ℕ → Type 0
TokensIn (Ok (Some tokens)) text = HasTokens text (map token_view tokens)
TokensIn (Ok None) text = (tokens : List Token) → HasTokens text tokens → ⊥
TokensIn (Err e) text = ⊤

-- the explanation of a fault of a query of this depth, over a schema with these tables; want of
-- memory has none
abbrev pub ExplainsSyntax : ℕ → List ℕ → List ℕ → List (List ℕ) → SyntaxFault
    → List ℕ → Type 0
ExplainsSyntax d file text tables code.Memory made = ⊥
ExplainsSyntax d file text tables (code.NotUtf8 place) made =
    made ≡ excerpt_text file text place (query_sentence query.NotUtf8)
ExplainsSyntax d file text tables (code.Token place) made =
    made ≡ excerpt_text file text place (token_sentence (slice_get text place))
ExplainsSyntax d file text tables (code.IntRange place) made =
    made ≡ excerpt_text file text place (query_sentence query.IntRange)
ExplainsSyntax d file text tables (code.Unexpected place) made =
    ExplainsStop d query.Unexpected file text place made
ExplainsSyntax d file text tables (code.Deep place) made =
    ExplainsStop d query.Deep file text place made
ExplainsSyntax d file text tables (code.Unbound place) made =
    ExplainsName file text place tables made
ExplainsSyntax d file text tables (code.TwiceLabel place) made =
    made ≡ excerpt_text file text place (query_sentence query.TwiceLabel)

-- of a table that is missing in a text that has tokens: its name stands behind the place
abbrev pub ExplainsMissing : List ℕ → List ℕ → ℕ → List (List ℕ) → List ℕ
    → Type 0
ExplainsMissing file text place tables made =
    (tokens : List Token) → HasTokens text tokens
    → made ≡ missing_text file text place (typing_asks rule.Table) tables (behind place tokens)

-- the explanation of a typing rule that a text breaks, where these types were found, and of that of
-- this number
abbrev pub ExplainsBroken : List ℕ → List ℕ → ℕ → List (List ℕ) → List TypeTree
    → TypingRule → List ℕ → Type 0
ExplainsBroken file text place tables found rule.Table made =
    ExplainsMissing file text place tables made
ExplainsBroken file text place tables found broken made =
    made ≡ broken_text file text place found broken

abbrev pub ExplainsRule : List ℕ → List ℕ → ℕ → List (List ℕ) → List TypeTree
    → ℕ → List ℕ → Type 0
ExplainsRule file text place tables found number made =
    (broken : TypingRule) × (typing_number broken ≡ number)
    × ExplainsBroken file text place tables found broken made

-- the same, unless the number is that of no rule
abbrev pub ExplainsType : List ℕ → List ℕ → ℕ → List (List ℕ) → List TypeTree
    → ℕ → List ℕ → Type 0
ExplainsType file text place tables found number made =
    ExplainsRule file text place tables found number made ⊎ (1 ≤ number → 26 ≤ number)

-- the explanation of a fault of a schema; want of memory has none
abbrev pub ExplainsSchema : List ℕ → List ℕ → SchemaFault → List ℕ → Type 0
ExplainsSchema file text reader.Memory made = ⊥
ExplainsSchema file text (reader.NotUtf8 place) made =
    made ≡ excerpt_text file text place (schema_sentence schema.NotUtf8)
ExplainsSchema file text (reader.Syntax place) made =
    made ≡ excerpt_text file text place (schema_sentence schema.Syntax)
ExplainsSchema file text (reader.TwiceTable place) made =
    made ≡ excerpt_text file text place (schema_sentence schema.TwiceTable)
ExplainsSchema file text (reader.TwiceColumn place) made =
    made ≡ excerpt_text file text place (schema_sentence schema.TwiceColumn)
ExplainsSchema file text (reader.NoColumn place) made =
    made ≡ excerpt_text file text place (schema_sentence schema.NoColumn)
ExplainsSchema file text (reader.KeyColumn place) made =
    made ≡ excerpt_text file text place (schema_sentence schema.KeyColumn)
ExplainsSchema file text (reader.OverLimit place) made =
    made ≡ excerpt_text file text place (schema_sentence schema.OverLimit)
