-- The tables that are loaded of a schema.
use Rattle.std.proofs.Common.{◌≡◌, List, [], ◌∷◌, length, map, refl, ap, arith}
use Rattle.nq_model.specs.Databases.{FilledTable, database, filled}
use Rattle.nq_model.specs.declared.table.Cell.{Cell}
use Rattle.nq_model.specs.declared.table.TableShape.{TableShape}
use Rattle.sql_profile.specs.Scope.{Shapes, shapes_of, shapes_of_schema}
use Rattle.sql_profile.specs.Servers.{filled_of, held_of}

-- they have its shapes, in its order
pub shapes_same : (shapes : List TableShape) (tables : List (List (List Cell))) → length tables ≡ length shapes → shapes_of (held_of shapes tables) ≡ shapes_of_schema shapes
shapes_same [] tables e = refl
shapes_same (s ∷ ss) [] e = absurd (omega (arith, e))
shapes_same (s ∷ ss) (t ∷ ts) e = ap (λ (l : Shapes). (s.name, s.columns) ∷ l) (shapes_same ss ts (omega (arith, e)))

-- queries see them as the tables of the schema
pub held_filled : (shapes : List TableShape) (tables : List (List (List Cell))) → map filled_of (held_of shapes tables) ≡ database shapes tables
held_filled [] tables = refl
held_filled (s ∷ ss) [] = refl
held_filled (s ∷ ss) (t ∷ ts) = ap (λ (l : List FilledTable). filled s t ∷ l) (held_filled ss ts)
