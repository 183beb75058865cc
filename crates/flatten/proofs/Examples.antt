-- Worked examples: the texts of normal forms at their paths, checked by computing them.
use Rattle.std.proofs.Common.{◌≡◌, [], ◌∷◌, refl, codes, pos, ℕ, List}
use Rattle.std.specs.Fmt.{digits}
use Rattle.nq_model.specs.Terms.{TermTree, Emptiness}
use Rattle.nq_model.specs.Types.{TypeTree, FieldTypes}
use Rattle.nq_model.specs.declared.table.TableShape.{TableShape}
use Rattle.nq_model.specs.declared.term.Binary.TheVariants.{Eq}
use Rattle.nq_ir.specs.declared.path.Step.{Step}
use Rattle.nq_ir.specs.declared.path.Step.TheVariants.{Down, Field}
use Rattle.nq_ir.specs.Lets.{LetFormTree, insert_lets}
use Rattle.nq_ir.specs.NormalForms.{normal_form}
use Rattle.nq_ir.specs.Shredded.{shredded}
use Rattle.nq_ir.specs.WellFormed.{column_names}
use Rattle.nq_ir.proofs.Worked.{org, three_levels, department, at, totals_type, totals_query}
use Rattle.shred_types.specs.Columns.{answer_columns}
use Rattle.sql_profile.specs.Printed.{printed}
use Rattle.flatten.specs.Names.{with_name, let_alias, alias, outer_column, number_name, answer_name, one_name}
use Rattle.flatten.specs.Emitted.{emitted}

-- the let form at a path of the normal form of a query
abbrev let_form : List TableShape → TypeTree → TermTree → List Step → LetFormTree
let_form shapes element query p = insert_lets (shredded (normal_form shapes element query) p)

-- the text there
abbrev text_at : List TableShape → TypeTree → TermTree → List Step → List ℕ
text_at shapes element query p =
    printed (emitted (column_names shapes) (answer_columns (let_form shapes element query p).element) (let_form shapes element query p))

-- departments with their employees and their tasks, at the three paths
pub departments_text : text_at org department three_levels []
    ≡ codes "SELECT 0 AS \"ot\", 1 AS \"on\", \"x1\".\"name\" AS \"c1\", 1 AS \"c2\", ROW_NUMBER() OVER (ORDER BY \"x1\".\"name\") AS \"c3\" FROM \"departments\" AS \"x1\""
unfolding with_name let_alias alias outer_column number_name answer_name digits
departments_text = refl

pub employees_text : text_at org department three_levels (Down ∷ Field (codes "employees") ∷ [])
    ≡ codes "WITH \"q.1\" AS (SELECT \"x1\".\"name\" AS \"x1.name\", ROW_NUMBER() OVER (ORDER BY \"x1\".\"name\") AS \"n\" FROM \"departments\" AS \"x1\") SELECT 1 AS \"ot\", \"z\".\"n\" AS \"on\", \"x2\".\"name\" AS \"c1\", 2 AS \"c2\", ROW_NUMBER() OVER (ORDER BY \"z\".\"x1.name\", \"x2\".\"dept\", \"x2\".\"name\", \"x2\".\"salary\") AS \"c3\" FROM \"q.1\" AS \"z\", \"employees\" AS \"x2\" WHERE (\"x2\".\"dept\" = \"z\".\"x1.name\")"
unfolding with_name let_alias alias outer_column number_name answer_name digits
employees_text = refl

pub tasks_text : text_at org department three_levels (Down ∷ Field (codes "employees") ∷ Down ∷ Field (codes "tasks") ∷ [])
    ≡ codes "WITH \"q.1\" AS (SELECT \"x1\".\"name\" AS \"x1.name\", \"x2\".\"dept\" AS \"x2.dept\", \"x2\".\"name\" AS \"x2.name\", \"x2\".\"salary\" AS \"x2.salary\", ROW_NUMBER() OVER (ORDER BY \"x1\".\"name\", \"x2\".\"dept\", \"x2\".\"name\", \"x2\".\"salary\") AS \"n\" FROM \"departments\" AS \"x1\", \"employees\" AS \"x2\" WHERE (\"x2\".\"dept\" = \"x1\".\"name\")) SELECT 2 AS \"ot\", \"z\".\"n\" AS \"on\", \"x3\".\"task\" AS \"c1\" FROM \"q.1\" AS \"z\", \"tasks\" AS \"x3\" WHERE (\"x3\".\"employee\" = \"z\".\"x2.name\")"
unfolding with_name let_alias alias outer_column number_name answer_name digits
tasks_text = refl

-- no comprehension at a path
abbrev nothing : TermTree
nothing = TermTree.nil TypeTree.int

abbrev pair : TypeTree
pair = TypeTree.rec (FieldTypes.field (codes "a") TypeTree.int (FieldTypes.field (codes "b") (TypeTree.bag TypeTree.text) FieldTypes.none))

pub nothing_text : text_at org pair nothing [] ≡ codes "SELECT 0 AS \"ot\", 0 AS \"on\", 0 AS \"c1\", 0 AS \"c2\", 0 AS \"c3\" WHERE FALSE"
unfolding answer_name digits
nothing_text = refl

pub nothing_below : text_at org pair nothing (Down ∷ Field (codes "b") ∷ []) ≡ codes "SELECT 0 AS \"ot\", 0 AS \"on\", '' AS \"c1\" WHERE FALSE"
unfolding answer_name digits
nothing_below = refl

-- a parent without a generator, and two parts on it
abbrev two_ones : TermTree
two_ones = TermTree.single (TermTree.union (TermTree.single (TermTree.int (pos 1))) (TermTree.single (TermTree.int (pos 1))))

pub union_text : text_at org (TypeTree.bag TypeTree.int) two_ones (Down ∷ [])
    ≡ codes "WITH \"q.1\" AS (SELECT ROW_NUMBER() OVER () AS \"n\") SELECT 1 AS \"ot\", \"z\".\"n\" AS \"on\", 1 AS \"c1\" FROM \"q.1\" AS \"z\" UNION ALL SELECT 1 AS \"ot\", \"z\".\"n\" AS \"on\", 1 AS \"c1\" FROM \"q.1\" AS \"z\""
unfolding with_name let_alias number_name answer_name digits
union_text = refl

-- whether a department has nobody, where the test's generator stands inside
abbrev empty_departments : TermTree
empty_departments =
    TermTree.for (TermTree.table (codes "departments")) (TermTree.single (TermTree.aggregate Emptiness (TermTree.for (TermTree.table (codes "employees")) (TermTree.guard (TermTree.binary Eq (at 0 (codes "dept")) (at 1 (codes "name"))) (TermTree.single (at 0 (codes "name")))))))

pub test_text : text_at org TypeTree.bool empty_departments []
    ≡ codes "SELECT 0 AS \"ot\", 1 AS \"on\", (NOT EXISTS (SELECT 1 AS \"one\" FROM \"employees\" AS \"x2\" WHERE (\"x2\".\"dept\" = \"x1\".\"name\"))) AS \"c1\" FROM \"departments\" AS \"x1\""
unfolding alias answer_name one_name digits
test_text = refl

-- how many employees each department has, and what they earn together
pub totals_text : text_at org totals_type totals_query []
    ≡ codes "SELECT 0 AS \"ot\", 1 AS \"on\", \"x1\".\"name\" AS \"c1\", (SELECT COUNT(*) FROM \"employees\" AS \"x2\" WHERE (\"x2\".\"dept\" = \"x1\".\"name\")) AS \"c2\", (SELECT COALESCE(SUM(\"x3\".\"salary\"), 0) FROM \"employees\" AS \"x3\" WHERE (\"x3\".\"dept\" = \"x1\".\"name\")) AS \"c3\" FROM \"departments\" AS \"x1\""
unfolding alias answer_name digits
totals_text = refl
