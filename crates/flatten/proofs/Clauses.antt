-- What the laws say of a tree that is the one of a let form.
use Rattle.std.proofs.Common.{◌≡◌, List, map, ap, sym, ◌∙◌, subst}
use Rattle.nq_model.specs.Databases.{database}
use Rattle.nq_model.specs.SchemaTables.{AreTablesOf}
use Rattle.nq_model.specs.Tables.{IsProperSchema}
use Rattle.nq_model.specs.declared.table.Cell.{Cell}
use Rattle.nq_model.specs.declared.table.ColumnType.{ColumnType}
use Rattle.nq_model.specs.declared.table.Schema.{Schema}
use Rattle.nq_ir.specs.Lets.{FlatRow, LetFormTree, FormGives, IsLetFormOf}
use Rattle.nq_ir.specs.Meanings.{rows_in}
use Rattle.nq_ir.specs.WellFormed.{column_names}
use Rattle.shred_types.specs.Columns.{answer_columns, row_cells}
use Rattle.sql_profile.specs.AllowedAnswers.{TreeAllows}
use Rattle.sql_profile.specs.Scope.{IsWellScoped, shapes_of_schema}
use Rattle.sql_profile.specs.Servers.{held_of}
use Rattle.sql_profile.specs.Trees.{SqlTree}
use Rattle.flatten.specs.Emitted.{emitted, flattened, answer_shape}
use Rattle.flatten.proofs.Allowed.{allowed_rows}
use Rattle.flatten.proofs.ScopeTree.{tree_scoped}

module _ (schema : Schema) (columns : List ColumnType) (f : LetFormTree) (tree : SqlTree) (is : tree ≡ emitted (column_names schema.tables) columns f) where
  whole : columns ≡ answer_columns f.element → tree ≡ flattened schema f
  whole e = is ∙ ap (λ (c : List ColumnType). emitted (column_names schema.tables) c f) e

  pub tree_allowed : IsProperSchema schema → IsLetFormOf schema f → columns ≡ answer_columns f.element → (tables : List (List (List Cell))) → AreTablesOf schema.tables tables → (answer : List (List Cell)) → TreeAllows (held_of schema.tables tables) tree answer →
      (rows : List FlatRow) × FormGives (column_names schema.tables) (rows_in (database schema.tables tables)) f rows × (answer ≡ map (row_cells f.element) rows)
  tree_allowed proper form e tables stored answer allows =
      let P : SqlTree → Type 0 = λ t. TreeAllows (held_of schema.tables tables) t answer in
      allowed_rows schema tables f answer proper stored form (subst P (whole e) allows)

  pub tree_has_columns : IsProperSchema schema → IsLetFormOf schema f → columns ≡ answer_columns f.element → IsWellScoped (shapes_of_schema schema.tables) tree (answer_shape columns)
  tree_has_columns proper form e =
      let P : SqlTree → Type 0 = λ t. IsWellScoped (shapes_of_schema schema.tables) t (answer_shape (answer_columns f.element)) in
      let Q : List ColumnType → Type 0 = λ c. IsWellScoped (shapes_of_schema schema.tables) tree (answer_shape c) in
      subst Q (sym e) (subst P (sym (whole e)) (tree_scoped schema f proper form))
