-- What is explained of an SQL text.
use Rattle.std.proofs.Common.{◌≡◌, ◌∙◌, ℕ, List, [], ◌∷◌, Result, Ok, Err, IfOk}
use Rattle.std.proofs.Common.{ap, sym, subst}
use Rattle.nq_model.specs.Tables.{Columns, names_of, types_of}
use Rattle.nq_model.specs.declared.table.ColumnType.{ColumnType}
use Rattle.nq_model.specs.declared.table.Schema.{Schema}
use Rattle.sql_profile.specs.Scope.{Aliases, Broken, ItemsHave, IsWellScoped, QueryHas, Shapes}
use Rattle.sql_profile.specs.Scope.{Verdict, judge, shapes_of_schema}
use Rattle.sql_profile.specs.Texts.{Fault}
use Rattle.sql_profile.specs.Trees.{ItemTrees, PlacedSql, QueryTree, SqlTree, no_item, no_select}
use Rattle.sql_profile.specs.Trees.{placed, select, sql_tree, then_item, then_select}
use Rattle.sql_profile.specs.declared.tree.SqlText.{SqlText}
use Rattle.sql_profile.proofs.Scoped.{tree_fine}
use Rattle.sql_reader.specs.Parsing.{Parsed}
use Rattle.sql_reader.specs.declared.fault.SqlFault.{SqlFault}
use Rattle.sql_reader.specs.declared.fault.SqlFault.TheVariants as code
use Rattle.sql_scope.specs.Found.{text_found}
use Rattle.sql_scope.specs.declared.found.Found.{Found}
use Rattle.explanations.specs.Explanations.{table_names}
use Rattle.explanations.specs.SqlColumns.{columns_line, result_names}
use Rattle.explanations.specs.SqlExplanations.{ExplainsScope, ExplainsSql}
use Rattle.sql_profile.specs.AllowedAnswers.{item_names, query_names}
use Rattle.command_line.specs.declared.refusal.Refused.{Refused}
use Rattle.command_line.specs.declared.refusal.Refused.TheVariants.{Sql as SqlRefused, IllScoped}
use Rattle.nq_top.specs.Judging.{columns_or_cause, columns_or_explained}
use Rattle.nq_top.specs.Limits.{depth_limit}
use Rattle.nq_top.specs.Reading.{SqlReading, columns_as}
use Rattle.nq_top.specs.Steps.{Says}
use Rattle.nq_top.proofs.SqlReadings.{fault_of, says_fault, says_tree}

-- 1. the names of the columns are those of the items of the first SELECT

items_named : (ts : Shapes) (env : Aliases) (seen : List (List ℕ)) (is : ItemTrees)
    (columns : Columns) → ItemsHave ts env seen is columns → item_names is ≡ names_of columns
items_named ts env seen no_item columns has = sym (ap names_of has)
items_named ts env seen (then_item n v is) columns (k, rest, value, fresh, more, same) =
    ap (λ (ns : List (List ℕ)). n ∷ ns) (items_named ts env (n ∷ seen) is rest more)
    ∙ sym (ap names_of same)

query_named : (ts : Shapes) (env : Aliases) (q : QueryTree) (columns : Columns)
    → QueryHas ts env q columns → query_names q ≡ names_of columns
query_named ts env no_select columns has = absurd has
query_named ts env (then_select (select is from keep) q) columns
    ((own, sources, kept, items), others) =
    items_named ts _ [] is columns items

result_named : (ts : Shapes) (tree : SqlTree) (columns : Columns)
    → IsWellScoped ts tree columns → result_names tree ≡ names_of columns
result_named ts tree columns (all, withs, main) = query_named all [] tree.main columns main

-- 2. trees

-- the columns of a tree are written
pub columns_written : {E : Type 0} (schema : Schema) (name text : List ℕ) (t : SqlText)
    (types : List ColumnType) (result : Result (List ℕ) E)
    → (columns : Columns) × IsWellScoped (shapes_of_schema schema.tables) (sql_tree t) columns
    × (types ≡ types_of columns)
    → IfOk result (λ made. made ≡ columns_line (result_names (sql_tree t)) types)
    → IfOk result (Says (columns_or_explained schema name text (Ok (placed t))))
columns_written schema name text t types (Err e) scoped is = tt
columns_written schema name text t types (Ok made) (columns, scoped, typed) is =
    let ts = shapes_of_schema schema.tables in
    let parts = text_found ts (placed t) in
    let P : Verdict Columns → Type 0 = λ v.
    Says (columns_or_cause schema name text parts (columns_as v)) made in
    subst P (sym (tree_fine ts (placed t) columns scoped))
    (is ∙ ap (λ ns. columns_line ns types) (result_named ts (sql_tree t) columns scoped)
    ∙ ap (columns_line (names_of columns)) typed)

-- or the rule of scope that it breaks is explained
pub scope_explained : {E : Type 0} (schema : Schema) (name text : List ℕ) (t : SqlText)
    (rule number place : ℕ) (found : Found) (result : Result (List ℕ) E)
    → judge (shapes_of_schema schema.tables) (placed t) ≡ Broken rule place → number ≡ rule
    → found ≡ text_found (shapes_of_schema schema.tables) (placed t)
    → IfOk result (λ made. ExplainsScope name text place (table_names schema) found number made)
    → IfOk result (Says (columns_or_explained schema name text (Ok (placed t))))
scope_explained schema name text t rule number place found (Err e) is same finds says = tt
scope_explained schema name text t rule number place found (Ok made) is same finds says =
    let parts = text_found (shapes_of_schema schema.tables) (placed t) in
    let P : Verdict Columns → Type 0 = λ v.
    Says (columns_or_cause schema name text parts (columns_as v)) made in
    let tables = table_names schema in
    let F : Found → Type 0 = λ f. ExplainsScope name text place tables f number made in
    let Q : ℕ → Type 0 = λ n. ExplainsScope name text place tables parts n made in
    subst P (sym is) (subst Q same (subst F finds says))

-- 3. texts

-- what is said of the tree that a text spells is said of the text
pub tree_if_ok : {E : Type 0} (schema : Schema) (name text : List ℕ) (t : SqlText)
    (result : Result (List ℕ) E) → Parsed (Ok t) depth_limit text
    → IfOk result (Says (columns_or_explained schema name text (Ok (placed t))))
    → IfOk result (λ made. (reading : SqlReading) →
    Says (columns_or_explained schema name text (reading.says text)) made)
tree_if_ok schema name text t (Err e) parsed says = tt
tree_if_ok schema name text t (Ok made) parsed says = λ reading.
    let P : Result PlacedSql SqlFault → Type 0 = λ r.
    Says (columns_or_explained schema name text r) made in
    subst P (sym (says_tree (reading.says text) text (placed t) (reading.right text) parsed)) says

-- a fault that was found is that of the reading
reads_fault : (reading : SqlReading) (text : List ℕ) (fault : SqlFault)
    → Parsed (Err fault) depth_limit text → (made file : List ℕ)
    → ExplainsSql depth_limit file text fault made → reading.says text ≡ Err fault
reads_fault reading text code.Memory parsed made file says = absurd says
reads_fault reading text (code.NotUtf8 p) parsed made file says =
    says_fault (reading.says text) text Fault.not_utf8 p (reading.right text) parsed
reads_fault reading text (code.Token p) parsed made file says =
    says_fault (reading.says text) text Fault.token p (reading.right text) parsed
reads_fault reading text (code.Unexpected p) parsed made file says =
    says_fault (reading.says text) text Fault.unexpected p (reading.right text) parsed
reads_fault reading text (code.IntRange p) parsed made file says =
    says_fault (reading.says text) text Fault.int_range p (reading.right text) parsed
reads_fault reading text (code.Deep p) parsed made file says =
    says_fault (reading.says text) text Fault.deep p (reading.right text) parsed

-- or its fault is explained
pub fault_if_ok : {E : Type 0} (schema : Schema) (name text : List ℕ) (fault : SqlFault)
    (result : Result (List ℕ) E) → Parsed (Err fault) depth_limit text
    → IfOk result (ExplainsSql depth_limit name text fault)
    → IfOk result (λ made. (reading : SqlReading) →
    Says (columns_or_explained schema name text (reading.says text)) made)
fault_if_ok schema name text fault (Err e) parsed says = tt
fault_if_ok schema name text fault (Ok made) parsed says = λ reading.
    let P : Result PlacedSql SqlFault → Type 0 = λ r.
    Says (columns_or_explained schema name text r) made in
    subst P (sym (reads_fault reading text fault parsed made name says)) says
