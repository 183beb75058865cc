-- What a server holds and tells, and what a call does to its count of faults.
use Rattle.std.specs.Prelude.{◌≡◌, ◌<◌, ◌-◌, ◌^◌, ◌⊎◌, ℕ, List, [], ◌∷◌, ◌++◌, map, Option, Result, Ok, Err}
use Rattle.std.specs.Option.{option_map}
use Rattle.nq_model.specs.Databases.{FilledTable}
use Rattle.nq_model.specs.declared.table.Cell.{Cell}
use Rattle.nq_model.specs.declared.table.TableShape.{TableShape}
use Rattle.sql_profile.specs.declared.answer.Answer.{Answer}
use Rattle.sql_profile.specs.declared.server.Loaded.{Loaded}
use Rattle.sql_profile.specs.declared.server.ServerFault.{ServerFault}
use Rattle.sql_profile.specs.declared.server.ServerFault.TheVariants.{Memory, Failed}

-- the count rose, or it stands at the greatest value of a 64-bit counter; and it was below its bound
pub record RoseBelow (bound before now : ℕ) : Type 0 where
  pub rose : (before < now) ⊎ ((before ≡ 2 ^ 64 - 1) × (now ≡ 2 ^ 64 - 1))
  pub room : before < bound

-- the count rose where the call failed, and stays else
abbrev pub CountsFault : {T : Type 0} → ℕ → ℕ → ℕ → Result T ServerFault → Type 0
CountsFault bound before now (Ok answer) = now ≡ before
CountsFault bound before now (Err Memory) = now ≡ before
CountsFault bound before now (Err Failed) = RoseBelow bound before now

-- texts that a server was asked, each with its answer, in order
abbrev pub Asks : Type 0
Asks = List (List ℕ × Answer)

-- told asks, with one more
abbrev pub with_ask : List ℕ → Answer → Option Asks → Option Asks
with_ask text answer told = option_map (λ asks. asks ++ (text, answer) ∷ []) told

-- the names of tables
abbrev pub table_names : List Loaded → List (List ℕ)
table_names tables = map (λ table. table.name) tables

-- a table that a server is loaded with, as queries see it
abbrev pub filled_of : Loaded → FilledTable
filled_of table = record { name = table.name; columns = table.columns; rows = table.rows }

-- the tables of a schema with these rows, one to each shape, as a server is loaded with them
abbrev pub held_of : List TableShape → List (List (List Cell)) → List Loaded
held_of [] tables = []
held_of (shape ∷ shapes) [] = []
held_of (shape ∷ shapes) (rows ∷ tables) = record { name = shape.name; columns = shape.columns; rows = rows } ∷ held_of shapes tables
