-- What reading the tokens gives.
use Rattle.std.specs.Prelude.{◌≡◌, ℕ, ⊤, List, map, Some, None, Result, Ok, Err}
use Rattle.nq_model.specs.SchemaTokens.{Symbol, Token, token}
use Rattle.nq_model.specs.SchemaTexts.{WrittenTable, WritesTables, IsSyntaxPlace}
use Rattle.schema_reader.specs.Machine.{Spot, State, state, step}
use Rattle.schema_reader.specs.Views.{name_view, column_view, spot_view}
use Rattle.schema_reader.specs.declared.fault.SchemaFault.{SchemaFault}
use Rattle.schema_reader.specs.declared.fault.SchemaFault.TheVariants.{Memory, Syntax}
use Rattle.schema_reader.specs.declared.written.WrittenTable.{WrittenTable as CodeTable}
use Rattle.schema_reader.specs.declared.written.Reader.{Reader}

-- a written table of the reader
abbrev pub table_view : CodeTable → WrittenTable
table_view t = record { name = name_view t.name; columns = map column_view t.columns; key = map name_view t.key }

-- the state that the reader is in
abbrev pub reader_view : Reader → State
reader_view r = state (map table_view r.tables) (table_view r.table) (spot_view r.spot)

-- the token leads to the new state, or it may not stand there
abbrev pub Steps : Result (Unit {0}) SchemaFault → State → Token → State → Type 0
Steps (Ok _) old t new = step old t ≡ Some new
Steps (Err Memory) old t new = ⊤
Steps (Err (Syntax p)) old t new = (p ≡ t.place) × (step old t ≡ None)
Steps (Err _) old t new = ⊥

-- the end of the text completes the tables, or it may not stand there
abbrev pub Ends : Result (List CodeTable) SchemaFault → State → ℕ → Type 0
Ends (Ok tables) old place = step old (token place Symbol.end) ≡ Some (state (map table_view tables) old.table Spot.done)
Ends (Err (Syntax p)) old place = (p ≡ place) × (step old (token place Symbol.end) ≡ None)
Ends (Err _) old place = ⊥

-- the text writes the tables, or its syntax is at fault
abbrev pub Writes : Result (List CodeTable) SchemaFault → List ℕ → Type 0
Writes (Ok tables) text = WritesTables text (map table_view tables)
Writes (Err Memory) text = ⊤
Writes (Err (Syntax p)) text = IsSyntaxPlace text p
Writes (Err _) text = ⊥
