-- What a schema text spells, and its one fault.
use Rattle.std.specs.Prelude.{◌≡◌, ℕ, ◌≤◌, ◌<◌, ⊤, ◌⊎◌, List, [], ◌∷◌, ◌++◌, map, length, codes, Contains}
use Rattle.std.specs.List.{AllByRecursion as Each, AllZip, flat_map}
use Rattle.std.specs.Str.{IsUtf8, IsValidUpTo}
use Rattle.nq_model.specs.SchemaTokens.{Mark, Symbol, Token, token, IsWord, HasTokens, HasStray}
use Rattle.nq_model.specs.declared.table.ColumnType.{ColumnType}
use Rattle.nq_model.specs.declared.table.ColumnType.TheVariants as column
use Rattle.nq_model.specs.declared.table.TableShape.{TableShape}
use Rattle.nq_model.specs.declared.table.Schema.{Schema}

-- a name as it is written: its place and its bytes
pub record Name : Type 0 where
  pub place : ℕ
  pub text : List ℕ

-- a column as it is written
pub record WrittenColumn : Type 0 where
  pub name : Name
  pub kind : ColumnType

-- a table as it is written; an empty key is none
pub record WrittenTable : Type 0 where
  pub name : Name
  pub columns : List WrittenColumn
  pub key : List Name

-- a written table, without its places
abbrev pub shape_of : WrittenTable → TableShape
shape_of t = record {
  name = t.name.text;
  columns = map (λ c. (c.name.text, c.kind)) t.columns;
  key = map (λ n. n.text) t.key;
}

-- the schema of written tables
abbrev pub schema_of : List WrittenTable → Schema
schema_of tables = record { tables = map shape_of tables }

-- what a token of a written schema has to be: a symbol at any place, or a name at its own
pub data Slot : Type 0 where
  sign : Symbol → Slot
  name : Name → Slot

-- the token is what the slot asks for
abbrev pub Fills : Slot → Token → Type 0
Fills (Slot.sign s) t = t.symbol ≡ s
Fills (Slot.name n) t = t ≡ token n.place (Symbol.word n.text)

-- a mark at any place
abbrev pub mark_slot : Mark → Slot
mark_slot m = Slot.sign (Symbol.mark m)

-- a certain word at any place
abbrev pub word_slot : List ℕ → Slot
word_slot w = Slot.sign (Symbol.word w)

-- how a column's type is written
abbrev pub type_word : ColumnType → List ℕ
type_word column.Int = codes "int"
type_word column.Bool = codes "bool"
type_word column.Text = codes "text"

-- the parts with a `,` between any two
abbrev pub with_commas : List (List Slot) → List Slot
with_commas [] = []
with_commas (part ∷ parts) = part ++ flat_map (λ more. mark_slot Mark.comma ∷ more) parts

-- word `:` type
abbrev pub column_slots : WrittenColumn → List Slot
column_slots c = Slot.name c.name ∷ mark_slot Mark.colon ∷ word_slot (type_word c.kind) ∷ []

-- `,` `key` `(` word { `,` word } `)`; an empty key is none
abbrev pub key_slots : List Name → List Slot
key_slots [] = []
key_slots (n ∷ ns) = mark_slot Mark.comma ∷ word_slot (codes "key") ∷ mark_slot Mark.opening
    ∷ (with_commas (map (λ m. Slot.name m ∷ []) (n ∷ ns)) ++ mark_slot Mark.closing ∷ [])

-- `table` word `(` body `)` `;`
abbrev pub table_slots : WrittenTable → List Slot
table_slots t = word_slot (codes "table") ∷ Slot.name t.name ∷ mark_slot Mark.opening
    ∷ (with_commas (map column_slots t.columns) ++ (key_slots t.key ++ mark_slot Mark.closing ∷ mark_slot Mark.semicolon ∷ []))

-- { table }, and the end of the text
abbrev pub schema_slots : List WrittenTable → List Slot
schema_slots tables = flat_map table_slots tables ++ Slot.sign Symbol.end ∷ []

-- a key stands behind a column
abbrev pub KeyNeedsColumn : WrittenTable → Type 0
KeyNeedsColumn t = t.columns ≡ [] → t.key ≡ []

-- the tokens are those of the written tables, one by one
pub record IsWritten (tables : List WrittenTable) (tokens : List Token) : Type 0 where
  pub keys : Each KeyNeedsColumn tables
  pub filled : AllZip Fills (schema_slots tables) tokens

-- the bytes of a word spell a word
abbrev pub IsSymbol : Symbol → Type 0
IsSymbol (Symbol.word w) = IsWord w
IsSymbol _ = ⊤

-- some schema begins with the tokens: with more of them they are those of written tables
abbrev pub IsOpen : List Token → Type 0
IsOpen tokens = (tables : List WrittenTable) × (more : List Token) × Each (λ t. IsSymbol t.symbol) more × IsWritten tables (tokens ++ more)

-- the token at this place is the first with which the tokens so far begin no schema
abbrev pub HasWrongToken : List Token → ℕ → Type 0
HasWrongToken tokens place = (before : List Token) × (t : Token) × (after : List Token)
    × (tokens ≡ before ++ t ∷ after) × (t.place ≡ place) × IsOpen before × (IsOpen (before ++ t ∷ []) → ⊥)

-- the tokens of the text are those of the written tables
abbrev pub WritesTables : List ℕ → List WrittenTable → Type 0
WritesTables text tables = (tokens : List Token) × HasTokens text tokens × IsWritten tables tokens

-- no token begins at this place, or the one that does is wrong
abbrev pub FaultySyntaxAt : List ℕ → ℕ → Type 0
FaultySyntaxAt text place = HasStray text place ⊎ ((tokens : List Token) × HasTokens text tokens × HasWrongToken tokens place)

-- the smaller place of the two
abbrev pub IsSyntaxPlace : List ℕ → ℕ → Type 0
IsSyntaxPlace text place = FaultySyntaxAt text place × ((other : ℕ) → FaultySyntaxAt text other → place ≤ other)

-- why a text spells no schema
pub data Fault : Type 0 where
  not_utf8 : Fault
  syntax : Fault
  twice_table : Fault
  twice_column : Fault
  no_column : Fault
  key_column : Fault
  over_limit : Fault

-- the order in which they are answered at one place
abbrev pub rank : Fault → ℕ
rank Fault.not_utf8 = 0
rank Fault.syntax = 1
rank Fault.twice_table = 2
rank Fault.twice_column = 3
rank Fault.no_column = 4
rank Fault.key_column = 5
rank Fault.over_limit = 6

-- the names of tables, of columns, and of the words of a key
abbrev pub table_names : List WrittenTable → List (List ℕ)
table_names tables = map (λ t. t.name.text) tables

abbrev pub column_names : List WrittenColumn → List (List ℕ)
column_names columns = map (λ c. c.name.text) columns

abbrev pub key_names : List Name → List (List ℕ)
key_names key = map (λ n. n.text) key

-- what is wrong with a table's name, behind tables of these names
abbrev pub IsTableFault : List (List ℕ) → WrittenTable → Fault → Type 0
IsTableFault names t Fault.twice_table = Contains names t.name.text
IsTableFault names t Fault.no_column = t.columns ≡ []
IsTableFault names t Fault.over_limit = (length names ≡ 64) ⊎ (64 < length t.name.text)
IsTableFault names t _ = ⊥

-- what is wrong with a column's name, behind columns of these names
abbrev pub IsColumnFault : List (List ℕ) → WrittenColumn → Fault → Type 0
IsColumnFault names c Fault.twice_column = Contains names c.name.text
IsColumnFault names c Fault.over_limit = (length names ≡ 64) ⊎ (64 < length c.name.text)
IsColumnFault names c _ = ⊥

-- what is wrong with a key's word, in a table of these columns and behind these words
abbrev pub IsKeyFault : List (List ℕ) → List (List ℕ) → Name → Fault → Type 0
IsKeyFault columns names n Fault.key_column = (Contains columns n.text → ⊥) ⊎ Contains names n.text
IsKeyFault columns names n _ = ⊥

-- x stands in the list, behind these elements
abbrev pub StandsBehind : {A : Type 0} → List A → List A → A → Type 0
StandsBehind {A} xs before x = (after : List A) × (xs ≡ before ++ x ∷ after)

-- the fault is one of a table's name, at this place
abbrev pub HasTableFault : List WrittenTable → Fault → ℕ → Type 0
HasTableFault tables f place = (before : List WrittenTable) × (t : WrittenTable)
    × StandsBehind tables before t × IsTableFault (table_names before) t f × (t.name.place ≡ place)

-- the fault is one of a column's name, at this place
abbrev pub HasColumnFault : WrittenTable → Fault → ℕ → Type 0
HasColumnFault t f place = (before : List WrittenColumn) × (c : WrittenColumn)
    × StandsBehind t.columns before c × IsColumnFault (column_names before) c f × (c.name.place ≡ place)

-- the fault is one of a key's word, at this place
abbrev pub HasKeyFault : WrittenTable → Fault → ℕ → Type 0
HasKeyFault t f place = (before : List Name) × (n : Name)
    × StandsBehind t.key before n × IsKeyFault (column_names t.columns) (key_names before) n f × (n.place ≡ place)

-- the fault stands at this place in the written schema
abbrev pub FaultAt : List WrittenTable → Fault → ℕ → Type 0
FaultAt tables f place = HasTableFault tables f place
    ⊎ ((t : WrittenTable) × Contains tables t × (HasColumnFault t f place ⊎ HasKeyFault t f place))

-- a smaller place comes first, and at one place the smaller rank
abbrev pub NotLater : Fault → ℕ → Fault → ℕ → Type 0
NotLater f p g q = (p < q) ⊎ ((p ≡ q) × (rank f ≤ rank g))

-- the text has this fault at this place: of those that stand in what is written, the first
abbrev pub HasFault : List ℕ → Fault → ℕ → Type 0
HasFault text Fault.not_utf8 p = IsValidUpTo text p
HasFault text Fault.syntax p = IsUtf8 text × IsSyntaxPlace text p
HasFault text f p = IsUtf8 text × (tables : List WrittenTable) × WritesTables text tables × FaultAt tables f p
    × ((g : Fault) (q : ℕ) → FaultAt tables g q → NotLater f p g q)

-- the text spells the schema: its tokens are those of a written form of it, in which no fault stands
pub record Spells (text : List ℕ) (schema : Schema) : Type 0 where
  pub utf8 : IsUtf8 text
  pub tables : List WrittenTable
  pub written : WritesTables text tables
  pub faultless : (f : Fault) (p : ℕ) → FaultAt tables f p → ⊥
  pub same : schema ≡ schema_of tables
