-- What explains why a schema, a query, an SQL text or the text of a table is refused.
use Rattle.std.specs.Prelude.{ℕ, List}
use Rattle.command_line.specs.declared.refusal.Refused.{Refused}
use Rattle.command_line.specs.declared.refusal.Refused.TheVariants.{Schema as SchemaRefused}
use Rattle.command_line.specs.declared.refusal.Refused.TheVariants.{Query as QueryRefused, IllTyped}
use Rattle.command_line.specs.declared.refusal.Refused.TheVariants.{Sql as SqlRefused, IllScoped}
use Rattle.nq_model.specs.declared.table.TableShape.{TableShape}
use Rattle.nq_model.specs.Types.{TypeTree}
use Rattle.explanations.specs.Explanations.{ExplainsSchema, ExplainsSyntax, ExplainsRule}
use Rattle.explanations.specs.SqlExplanations.{ExplainsScope, ExplainsSql}
use Rattle.sql_scope.specs.declared.found.Found.{Found}
use Rattle.table_explanations.specs.Explanations.{ExplainsTable}
use Rattle.table_reader.specs.declared.TableFault.{TableFault}
use Rattle.nq_top.specs.Limits.{depth_limit}

-- the text under a name, the names of the tables of the schema over which it is judged, what is
-- found where judging it stops (types of a query, and the parts of an SQL text), and why it is
-- refused
pub record RefusedText : Type 0 where
  pub name : List ℕ
  pub text : List ℕ
  pub tables : List (List ℕ)
  pub found : List TypeTree
  pub parts : Found
  pub why : Refused

-- what is explained: why the text of a schema, of a query or of SQL is refused; or the fault of the
-- text under a name, as that of a table of a shape
pub data Explained : Type 0 where
  text_refused : RefusedText → Explained
  table_refused : List ℕ → List ℕ → TableShape → TableFault → Explained

-- the explanation of a fault of a schema, of a fault of a query and of a typing rule that it
-- breaks, of a fault of an SQL text and of a rule of scope that it breaks; no other refusal has one
abbrev pub ExplainsRefused : List ℕ → List ℕ → List (List ℕ) → List TypeTree → Found
    → Refused → List ℕ → Type 0
ExplainsRefused name text tables found parts (SchemaRefused fault) made =
    ExplainsSchema name text fault made
ExplainsRefused name text tables found parts (QueryRefused fault) made =
    ExplainsSyntax depth_limit name text tables fault made
ExplainsRefused name text tables found parts (IllTyped rule place) made =
    ExplainsRule name text place tables found rule made
ExplainsRefused name text tables found parts (SqlRefused fault) made =
    ExplainsSql depth_limit name text fault made
ExplainsRefused name text tables found parts (IllScoped rule place) made =
    ExplainsScope name text place tables parts rule made
ExplainsRefused name text tables found parts _ made = ⊥

abbrev pub Explains : Explained → List ℕ → Type 0
Explains (text_refused what) made =
    ExplainsRefused what.name what.text what.tables what.found what.parts what.why made
Explains (table_refused name text shape fault) made = ExplainsTable name text shape fault made
