-- Reading a schema token by token.
use Rattle.std.specs.Prelude.{ℕ, List, [], ◌∷◌, ◌++◌, codes, Option, Some, None, if◌then◌else◌}
use Rattle.std.specs.Option.{option_map, option_and_then}
use Rattle.std.specs.Str.{bytes_eq}
use Rattle.nq_model.specs.SchemaTokens.{Mark, Symbol, Token}
use Rattle.nq_model.specs.SchemaTexts.{Name, WrittenColumn, WrittenTable}
use Rattle.nq_model.specs.declared.table.ColumnType.{ColumnType}
use Rattle.nq_model.specs.declared.table.ColumnType.TheVariants as column

-- where the next token stands
pub data Spot : Type 0 where
  between : Spot  -- before a table or the end
  titled : Spot  -- behind `table`
  named : Spot  -- behind the name of a table
  first : Spot  -- behind its `(`
  first_name : Name → Spot  -- behind the name of the first column
  later_name : Name → Spot  -- behind the name of a later column, or `key`
  typed : Name → Spot  -- behind the `:` of a column
  column_end : Spot  -- behind a column
  comma : Spot  -- behind the `,` after a column
  key_name : Spot  -- before a word of the key
  key_word : Spot  -- behind a word of the key
  key_end : Spot  -- behind the `)` of the key
  closed : Spot  -- behind the `)` of the table
  done : Spot  -- behind the end

-- what a token adds to what was read
pub data Addition : Type 0 where
  nothing : Addition
  table_name : Name → Addition
  a_column : WrittenColumn → Addition
  key_part : Name → Addition
  whole : Addition

-- the type that a word names
abbrev pub type_of : List ℕ → Option ColumnType
type_of w = if bytes_eq w (codes "int") then Some column.Int
    else (if bytes_eq w (codes "bool") then Some column.Bool
    else (if bytes_eq w (codes "text") then Some column.Text else None))

-- behind a word: the next spot, and what the word adds; nothing where it may not stand
abbrev pub after_word : Spot → Name → Option (Spot × Addition)
after_word Spot.between n = if bytes_eq n.text (codes "table") then Some (Spot.titled, Addition.nothing) else None
after_word Spot.titled n = Some (Spot.named, Addition.table_name n)
after_word Spot.first n = Some (Spot.first_name n, Addition.nothing)
after_word Spot.comma n = Some (Spot.later_name n, Addition.nothing)
after_word (Spot.typed m) n = option_map (λ kind. (Spot.column_end, Addition.a_column (record { name = m; kind = kind }))) (type_of n.text)
after_word Spot.key_name n = Some (Spot.key_word, Addition.key_part n)
after_word _ n = None

-- behind a mark
abbrev pub after_mark : Spot → Mark → Option (Spot × Addition)
after_mark Spot.named Mark.opening = Some (Spot.first, Addition.nothing)
after_mark Spot.first Mark.closing = Some (Spot.closed, Addition.nothing)
after_mark (Spot.first_name n) Mark.colon = Some (Spot.typed n, Addition.nothing)
after_mark (Spot.later_name n) Mark.colon = Some (Spot.typed n, Addition.nothing)
after_mark (Spot.later_name n) Mark.opening = if bytes_eq n.text (codes "key") then Some (Spot.key_name, Addition.nothing) else None
after_mark Spot.column_end Mark.comma = Some (Spot.comma, Addition.nothing)
after_mark Spot.column_end Mark.closing = Some (Spot.closed, Addition.nothing)
after_mark Spot.key_word Mark.comma = Some (Spot.key_name, Addition.nothing)
after_mark Spot.key_word Mark.closing = Some (Spot.key_end, Addition.nothing)
after_mark Spot.key_end Mark.closing = Some (Spot.closed, Addition.nothing)
after_mark Spot.closed Mark.semicolon = Some (Spot.between, Addition.whole)
after_mark _ m = None

-- behind the end of the text
abbrev pub after_end : Spot → Option (Spot × Addition)
after_end Spot.between = Some (Spot.done, Addition.nothing)
after_end _ = None

-- behind a token at a place
abbrev pub after : Spot → ℕ → Symbol → Option (Spot × Addition)
after spot place (Symbol.word w) = after_word spot (record { place = place; text = w })
after spot place (Symbol.mark m) = after_mark spot m
after spot place Symbol.end = after_end spot

-- whole tables, the table that is being read, and where the next token stands
pub record State : Type 0 where
  pub tables : List WrittenTable
  pub table : WrittenTable
  pub spot : Spot

-- a state, part by part
abbrev pub state : List WrittenTable → WrittenTable → Spot → State
state tables table spot = record { tables = tables; table = table; spot = spot }

-- a table of which nothing was read
abbrev pub blank : WrittenTable
blank = record { name = record { place = 0; text = [] }; columns = []; key = [] }

-- before any token
abbrev pub start : State
start = state [] blank Spot.between

-- the state with what a token adds
abbrev pub added : List WrittenTable → WrittenTable → Spot → Addition → State
added ts t spot Addition.nothing = state ts t spot
added ts t spot (Addition.table_name n) = state ts (record { name = n; columns = t.columns; key = t.key }) spot
added ts t spot (Addition.a_column c) = state ts (record { name = t.name; columns = t.columns ++ c ∷ []; key = t.key }) spot
added ts t spot (Addition.key_part n) = state ts (record { name = t.name; columns = t.columns; key = t.key ++ n ∷ [] }) spot
added ts t spot Addition.whole = state (ts ++ t ∷ []) blank spot

-- the state behind a token, if the token may stand there
abbrev pub step : State → Token → Option State
step st t = option_map (λ x. added st.tables st.table x.0 x.1) (after st.spot t.place t.symbol)

-- the state behind some tokens
abbrev pub run : State → List Token → Option State
run st [] = Some st
run st (t ∷ ts) = option_and_then (λ next. run next ts) (step st t)
