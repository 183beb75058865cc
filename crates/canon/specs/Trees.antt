-- Values of the program as trees.
use Rattle.std.specs.Prelude.{ℕ}
use Rattle.nq_model.specs.Values.{Nested, base, rec, bag}
use Rattle.nq_model.specs.declared.table.Cell.TheVariants as cell

-- the place of a value's kind in the canonical order
abbrev pub kind_place : Nested → ℕ
kind_place (base (cell.Bool b)) = 0
kind_place (base (cell.Int n)) = 1
kind_place (base (cell.Text t)) = 2
kind_place (rec fs) = 3
kind_place (bag vs) = 4
