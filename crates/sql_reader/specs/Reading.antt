-- What the reader's answer says of its run over the tokens.
use Rattle.std.specs.Prelude.{◌≡◌, ℕ, ⊤, true, false, List, [], ◌∷◌, ◌++◌, Some, None, Result, Ok, Err}
use Rattle.nq_model.specs.OpenLists.{Unexpected, Deep}
use Rattle.nq_model.specs.Machines.{Reached, Faulty}
use Rattle.sql_profile.specs.Tokens.{Token, End, place_of}
use Rattle.sql_profile.specs.Trees.{PlacedSql, placed, query_of}
use Rattle.sql_profile.specs.declared.tree.SqlText.{SqlText}
use Rattle.sql_reader.specs.Needs.{fits}
use Rattle.sql_reader.specs.Parts.{Base, Selects}
use Rattle.sql_reader.specs.Runs.{run}
use Rattle.sql_reader.specs.States.{state_view}
use Rattle.sql_reader.specs.Steps.{Form, Ready, State, On, start_state, step}
use Rattle.sql_reader.specs.declared.fault.SqlFault.{SqlFault}
use Rattle.sql_reader.specs.declared.fault.SqlFault.TheVariants as code
use Rattle.sql_reader.specs.declared.state.State.{State as CodeState}

-- the list ends with the end of the text
abbrev pub Ends : List Token → Type 0
Ends ts = (us : List Token) × (q : ℕ) × (ts ≡ us ++ End q ∷ [])

-- the state behind the token, or why it does not go on; want of memory is free
abbrev pub Advances : Result CodeState SqlFault → ℕ → State → Token → Type 0
Advances (Ok next) d st t = (step st t ≡ Some (state_view next)) × (fits d (state_view next) ≡ true)
Advances (Err code.Memory) d st t = ⊤
Advances (Err (code.Unexpected p)) d st t = (p ≡ place_of t) × (step st t ≡ None)
Advances (Err (code.Deep p)) d st t = (p ≡ place_of t) × ((next : State) × (step st t ≡ Some next) × (fits d next ≡ false))
Advances (Err _) d st t = ⊥

-- the tree of a whole text
abbrev pub whole : Base → Selects → PlacedSql
whole b q = record { withs = b.withs; main = query_of q.selects }

-- at the end of a text
abbrev pub IsReady : State → Type 0
IsReady (On b k (Ready q)) = ⊤
IsReady st = ⊥

-- the tree, where the text has ended
abbrev pub IsTextOf : SqlText → State → Type 0
IsTextOf t st = (b : Base) × (k : List Form) × (q : Selects) × (st ≡ On b k (Ready q)) × (placed t ≡ whole b q)

-- the tree of the text that the reader reads to its end, or its fault; want of memory is free
abbrev pub Reads : Result SqlText SqlFault → ℕ → List Token → Type 0
Reads (Ok t) d ts = (st : State) × (run d ts start_state ≡ Reached st) × IsTextOf t st
Reads (Err code.Memory) d ts = ⊤
Reads (Err (code.Unexpected p)) d ts = (t : Token) × (p ≡ place_of t) × (run d ts start_state ≡ Faulty t Unexpected)
Reads (Err (code.Deep p)) d ts = (t : Token) × (p ≡ place_of t) × (run d ts start_state ≡ Faulty t Deep)
Reads (Err _) d ts = ⊥
