-- The answers that SQL allows to the tree of a let form, over the tables of a schema.
use Rattle.std.proofs.Common.{◌≡◌, List, map, refl, ap, subst}
use Rattle.nq_model.specs.Databases.{database}
use Rattle.nq_model.specs.NamedRows.{NamedTables, named_table}
use Rattle.nq_model.specs.SchemaTables.{AreTablesOf}
use Rattle.nq_model.specs.Tables.{IsProperSchema}
use Rattle.nq_model.specs.declared.table.Cell.{Cell}
use Rattle.nq_model.specs.declared.table.Schema.{Schema}
use Rattle.nq_ir.specs.Meanings.{rows_in}
use Rattle.nq_ir.specs.Lets.{FlatRow, LetFormTree, FormGives, IsLetFormOf}
use Rattle.nq_ir.specs.WellFormed.{column_names}
use Rattle.nq_ir.proofs.Stored.{uniform}
use Rattle.shred_types.specs.Columns.{answer_columns, row_cells}
use Rattle.sql_profile.specs.AllowedAnswers.{TreeAllows, WithsAllow}
use Rattle.sql_profile.specs.Servers.{held_of}
use Rattle.sql_profile.proofs.HeldTables.{held_filled}
use Rattle.flatten.specs.Emitted.{flattened}
use Rattle.flatten.proofs.LetForms.{fine_form, good_form}
use Rattle.flatten.proofs.Withs.{form_gives}

pub allowed_rows : (schema : Schema) (tables : List (List (List Cell))) (f : LetFormTree) (ans : List (List Cell)) → IsProperSchema schema → AreTablesOf schema.tables tables → IsLetFormOf schema f → TreeAllows (held_of schema.tables tables) (flattened schema f) ans
    → (rows : List FlatRow) × FormGives (column_names schema.tables) (rows_in (database schema.tables tables)) f rows × (ans ≡ map (row_cells f.element) rows)
allowed_rows schema tables f ans proper stored form allowed =
    let tree = flattened schema f in
    let us : NamedTables = map named_table (database schema.tables tables) in
    let same : WithsAllow us tree.withs tree.main ans = subst (λ (ts : NamedTables). WithsAllow ts tree.withs tree.main ans) (ap (map named_table) (held_filled schema.tables tables)) allowed in
    form_gives (column_names schema.tables) (rows_in (database schema.tables tables)) (uniform schema.tables tables stored) (answer_columns f.element) f (good_form schema proper f (fine_form schema f form)) us (λ t n. refl) ans same
