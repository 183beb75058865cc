-- The walk beside the machine with which `csv` reads records.
use Rattle.std.specs.Prelude.{ℕ, ◌+◌, Bool, true, false}
use Rattle.csv.specs.declared.parser.Action.{Action}
use Rattle.csv.specs.declared.parser.Action.TheVariants as act
use Rattle.csv.specs.declared.parser.State.{State}
use Rattle.csv.specs.declared.parser.State.TheVariants as st
use Rattle.table_explanations.specs.declared.places.Mode.{Mode}
use Rattle.table_explanations.specs.declared.places.Mode.TheVariants.{StartRow, StartCell, Plain}
use Rattle.table_explanations.specs.declared.places.Mode.TheVariants.{Quoted, BehindQuote}
use Rattle.table_explanations.specs.declared.places.Walk.{Walk}

-- a state of the machine where no byte begins a comment, and none stands for itself in quotes
abbrev pub is_met : State → Bool
is_met st.InEscape = false
is_met st.InComment = false
is_met state = true

-- what the next byte is to its cell, by that state
abbrev pub mode_of : State → Mode
mode_of st.StartRecord = StartRow
mode_of st.AfterCr = StartRow
mode_of st.StartField = StartCell
mode_of st.InQuoted = Quoted
mode_of st.AfterQuote = BehindQuote
mode_of state = Plain

-- where the walk stands while the machine is in a state
abbrev pub walk_at : ℕ → ℕ → State → Walk
walk_at row column state = record { row = row; column = column; mode = mode_of state }

-- Where it stands after what the machine did to the cell at hand: the machine ends a field or a
-- record, or goes on with the field.
abbrev pub walk_after : ℕ → ℕ → State → Action → Walk
walk_after row column state act.EndField = walk_at row (column + 1) state
walk_after row column state act.EndRecord = walk_at (row + 1) 1 state
walk_after row column state act.Skip = walk_at row column state
walk_after row column state act.Copy = walk_at row column state
