-- The tables of the tests.
use Rattle.std.specs.Prelude.{[], ◌∷◌, codes}
use Rattle.nq_model.specs.Tables.{Columns}
use Rattle.nq_model.specs.declared.table.ColumnType.TheVariants.{Int}
use Rattle.sql_profile.specs.Scope.{Shapes}

-- two integers
abbrev pub pair_columns : Columns
pair_columns = (codes "a", Int) ∷ (codes "b", Int) ∷ []

-- a table of them
abbrev pub first_shapes : Shapes
first_shapes = (codes "t", pair_columns) ∷ []

-- and another one behind it
abbrev pub both_shapes : Shapes
both_shapes = (codes "t", pair_columns) ∷ (codes "e", pair_columns) ∷ []
