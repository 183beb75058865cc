-- The JSON form of a query: its type, and what stands at each path.
use Rattle.std.specs.Prelude.{ℕ, suc, List, [], ◌∷◌, Option, Some, None, codes}
use Rattle.nq_model.specs.SchemaTexts.{type_word}
use Rattle.nq_model.specs.Types.{TypeTree}
use Rattle.nq_model.specs.declared.table.ColumnType.{ColumnType}
use Rattle.nq_ir.specs.Paths.{paths}
use Rattle.nq_ir.specs.declared.path.Step.{Step}
use Rattle.shred_types.specs.Columns.{columns_at}
use Rattle.serde_json.specs.Data.{Data, null, number, unsigned, string, array, object, member, no_members}
use Rattle.serde_json.specs.View.{items_of}
use Rattle.nq_json.specs.Json.{json_line}
use Rattle.query_json.specs.Names.{column_name}
use Rattle.query_json.specs.Parents.{parents}
use Rattle.query_json.specs.Paths.{path_text}
use Rattle.query_json.specs.TypeForms.{type_json}
use Rattle.query_json.specs.declared.parents.Parent.{Parent}

-- the column at a place, counted from 0: {"name": "ot", "type": "int"}
abbrev pub column_json : ℕ → ColumnType → Data
column_json place type =
    object (member (codes "name") (string (column_name place))
    (member (codes "type") (string (type_word type)) no_members))

abbrev pub columns_from : ℕ → List ColumnType → List Data
columns_from place [] = []
columns_from place (type ∷ types) = column_json place type ∷ columns_from (suc place) types

-- {"column": 4, "text": 1}, or null
abbrev pub parent_json : Option Parent → Data
parent_json None = null
parent_json (Some parent) =
    object (member (codes "column") (number (unsigned parent.column))
    (member (codes "text") (number (unsigned parent.text)) no_members))

-- {"columns": [..], "parent": .., "path": "/[].es", "sql": "SELECT .."}
abbrev pub text_json : List ColumnType → Option Parent → List Step → List ℕ → Data
text_json columns parent path sql =
    object (member (codes "columns") (array (items_of (columns_from 0 columns)))
    (member (codes "parent") (parent_json parent)
    (member (codes "path") (string (path_text path))
    (member (codes "sql") (string sql) no_members))))

-- one for each path of a type, with its parent and its text
abbrev pub texts_json : TypeTree → List (List Step) → List (Option Parent) → List (List ℕ)
    → List Data
texts_json type (path ∷ paths) (parent ∷ parents) (sql ∷ texts) =
    text_json (columns_at type path) parent path sql ∷ texts_json type paths parents texts
texts_json type paths parents texts = []

-- {"texts": [..], "type": ..}
abbrev pub query_json : TypeTree → List (List ℕ) → Data
query_json type texts =
    object (member (codes "texts")
    (array (items_of (texts_json type (paths type) (parents type) texts)))
    (member (codes "type") (type_json type) no_members))

unfoldable pub query_json_text : TypeTree → List (List ℕ) → List ℕ
query_json_text type texts = json_line (query_json type texts)
