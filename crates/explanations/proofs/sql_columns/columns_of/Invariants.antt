use Rattle.std.proofs.Common.{◌≡◌, ◌++◌, drop, map}
use Rattle.std.specs.Prelude.{zip}
use Rattle.explanations.specs.SqlColumns.{columns_view}
use Rattle.explanations.proofs.sql_columns.columns_of.Given as goal

abbrev pub invariant-loop-at : goal.invariant-loop-at
invariant-loop-at l =
    columns_view l.columns ++ zip (map (λ item. item.name) (drop l.at l.items)) (drop l.at l.types)
    ≡ zip (map (λ item. item.name) l.items) l.types
