-- The schema is proper: its names are words that differ, and no table has a key.
use Rattle.std.proofs.Common.{ℕ, List, [], ◌∷◌, refl, codes, arith}
use Rattle.std.proofs.lemmas.List.Elements.{All-from_recursion}
use Rattle.std.specs.List.{Contains, AllByRecursion as Each}
use Rattle.nq_model.specs.Orders.{AreDistinct}
use Rattle.nq_model.specs.Tables.{Columns, IsProperName, IsProperSchema, IsProperShape, names_of}
use Rattle.generated_inputs.specs.Generated.{keyless, departments_shape, employees_shape, tasks_shape, generated_schema}
use Rattle.generated_inputs.proofs.Names.{apart, named}

-- a table without a key
shape : (name : List ℕ) (columns : Columns) → IsProperName name → Each IsProperName (names_of columns) → AreDistinct (names_of columns) → IsProperShape (keyless name columns)
shape name columns is_name are_names differ = record {
  named = is_name;
  columns_named = All-from_recursion IsProperName (names_of columns) are_names;
  columns_differ = differ;
  key_of_columns = All-from_recursion (Contains (names_of columns)) [] tt;
  key_differs = tt;
}

name_is : IsProperName (codes "name")
name_is = named (codes "name") (omega arith) (omega arith) refl refl

departments_proper : IsProperShape departments_shape
departments_proper =
    shape (codes "departments") departments_shape.columns (named (codes "departments") (omega arith) (omega arith) refl refl) (name_is, tt) (tt, tt)

employees_proper : IsProperShape employees_shape
employees_proper =
    shape (codes "employees") employees_shape.columns (named (codes "employees") (omega arith) (omega arith) refl refl)
    (named (codes "dept") (omega arith) (omega arith) refl refl, (name_is, (named (codes "salary") (omega arith) (omega arith) refl refl, tt)))
    ((apart (codes "dept") (codes "name") refl, (apart (codes "dept") (codes "salary") refl, tt)), ((apart (codes "name") (codes "salary") refl, tt), (tt, tt)))

tasks_proper : IsProperShape tasks_shape
tasks_proper =
    shape (codes "tasks") tasks_shape.columns (named (codes "tasks") (omega arith) (omega arith) refl refl)
    (named (codes "employee") (omega arith) (omega arith) refl refl, (named (codes "task") (omega arith) (omega arith) refl refl, tt))
    ((apart (codes "employee") (codes "task") refl, tt), (tt, tt))

pub proper : IsProperSchema generated_schema
unfolding generated_schema
proper = record {
  tables_differ = ((apart (codes "departments") (codes "employees") refl, (apart (codes "departments") (codes "tasks") refl, tt)), ((apart (codes "employees") (codes "tasks") refl, tt), (tt, tt)));
  proper = All-from_recursion IsProperShape (departments_shape ∷ employees_shape ∷ tasks_shape ∷ []) (departments_proper, (employees_proper, (tasks_proper, tt)));
}
