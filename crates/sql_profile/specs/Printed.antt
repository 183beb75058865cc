-- The text of an SQL tree: keywords in capitals, one space between words, names in double quotes, each operation in
-- parentheses, no final `;`.
use Rattle.std.specs.Prelude.{ℕ, Bool, true, false, List, [], ◌∷◌, ◌++◌, codes}
use Rattle.std.specs.Fmt.{signed_decimal}
use Rattle.nq_model.specs.Canonical.{cell_text}
use Rattle.nq_model.specs.Totals.{HowMany, SumOf}
use Rattle.nq_model.specs.declared.table.Cell.TheVariants as cell
use Rattle.nq_model.specs.declared.term.Binary.{Binary}
use Rattle.nq_model.specs.declared.term.Binary.TheVariants.{Add, Sub, Mul, Eq, Ne, Lt, Le, Gt, Ge, And, Or}
use Rattle.nq_model.specs.declared.term.Unary.{Unary}
use Rattle.nq_model.specs.declared.term.Unary.TheVariants.{Minus, Not}
use Rattle.sql_profile.specs.Trees.{SourceTree, ExprTree, int, bool, text, column, unary, binary, choose, not_exists, total, ExprTrees, no_expr, then_expr, QueryTree, no_select, then_select, SelectTree, select, KeepTree, keep_all, keep_if, ItemTrees, no_item, then_item, ValueTree, plain, number, WithTree, SqlTree}

-- a name in double quotes
abbrev pub quoted : List ℕ → List ℕ
quoted name = codes "\"" ++ (name ++ codes "\"")

abbrev pub truth : Bool → List ℕ
truth true = codes "TRUE"
truth false = codes "FALSE"

-- an operator before its operand
abbrev pub before_operand : Unary → List ℕ
before_operand Minus = codes "- "
before_operand Not = codes "NOT "

-- an operator between its operands
abbrev pub between_operands : Binary → List ℕ
between_operands Add = codes " + "
between_operands Sub = codes " - "
between_operands Mul = codes " * "
between_operands Eq = codes " = "
between_operands Ne = codes " <> "
between_operands Lt = codes " < "
between_operands Le = codes " <= "
between_operands Gt = codes " > "
between_operands Ge = codes " >= "
between_operands And = codes " AND "
between_operands Or = codes " OR "

-- `"table" AS "alias"`
abbrev pub printed_source : SourceTree → List ℕ
printed_source s = quoted s.table ++ (codes " AS " ++ quoted s.alias)

-- each source behind a comma
abbrev pub more_sources : List SourceTree → List ℕ
more_sources [] = []
more_sources (s ∷ ss) = codes ", " ++ (printed_source s ++ more_sources ss)

abbrev pub printed_from : List SourceTree → List ℕ
printed_from [] = []
printed_from (s ∷ ss) = codes " FROM " ++ (printed_source s ++ more_sources ss)

abbrev mutual
  pub printed_expr : ExprTree → List ℕ
  printed_expr (int n) = signed_decimal n
  printed_expr (bool b) = truth b
  printed_expr (text t) = cell_text (cell.Text t)
  printed_expr (column a c) = quoted a ++ (codes "." ++ quoted c)
  printed_expr (unary op e) = codes "(" ++ (before_operand op ++ (printed_expr e ++ codes ")"))
  printed_expr (binary op l r) = codes "(" ++ (printed_expr l ++ (between_operands op ++ (printed_expr r ++ codes ")")))
  printed_expr (choose t y n) =
      codes "CASE WHEN " ++ (printed_expr t ++ (codes " THEN " ++ (printed_expr y ++ (codes " ELSE " ++ (printed_expr n ++ codes " END")))))
  printed_expr (not_exists q) = codes "(NOT EXISTS (" ++ (printed_query q ++ codes "))")
  printed_expr (total HowMany from keep e) = codes "(SELECT COUNT(*)" ++ (printed_from from ++ (printed_keep keep ++ codes ")"))
  printed_expr (total SumOf from keep e) =
      codes "(SELECT COALESCE(SUM(" ++ (printed_expr e ++ (codes "), 0)" ++ (printed_from from ++ (printed_keep keep ++ codes ")"))))

  -- SELECTs joined by UNION ALL
  pub printed_query : QueryTree → List ℕ
  printed_query no_select = []
  printed_query (then_select s q) = printed_select s ++ more_selects q

  pub more_selects : QueryTree → List ℕ
  more_selects no_select = []
  more_selects (then_select s q) = codes " UNION ALL " ++ (printed_select s ++ more_selects q)

  pub printed_select : SelectTree → List ℕ
  printed_select (select is from keep) = codes "SELECT " ++ (printed_items is ++ (printed_from from ++ printed_keep keep))

  pub printed_keep : KeepTree → List ℕ
  printed_keep keep_all = []
  printed_keep (keep_if e) = codes " WHERE " ++ printed_expr e

  pub printed_items : ItemTrees → List ℕ
  printed_items no_item = []
  printed_items (then_item n v is) = printed_value v ++ (codes " AS " ++ (quoted n ++ more_items is))

  pub more_items : ItemTrees → List ℕ
  more_items no_item = []
  more_items (then_item n v is) = codes ", " ++ (printed_value v ++ (codes " AS " ++ (quoted n ++ more_items is)))

  pub printed_value : ValueTree → List ℕ
  printed_value (plain e) = printed_expr e
  printed_value (number keys) = codes "ROW_NUMBER() OVER (" ++ (printed_keys keys ++ codes ")")

  pub printed_keys : ExprTrees → List ℕ
  printed_keys no_expr = []
  printed_keys (then_expr e es) = codes "ORDER BY " ++ (printed_expr e ++ more_keys es)

  pub more_keys : ExprTrees → List ℕ
  more_keys no_expr = []
  more_keys (then_expr e es) = codes ", " ++ (printed_expr e ++ more_keys es)

-- `"name" AS (query)`
abbrev pub printed_with : WithTree → List ℕ
printed_with w = quoted w.name ++ (codes " AS (" ++ (printed_query w.query ++ codes ")"))

-- each WITH query behind a comma, and the space before the main query
abbrev pub more_withs : List WithTree → List ℕ
more_withs [] = codes " "
more_withs (w ∷ ws) = codes ", " ++ (printed_with w ++ more_withs ws)

abbrev pub printed_withs : List WithTree → List ℕ
printed_withs [] = []
printed_withs (w ∷ ws) = codes "WITH " ++ (printed_with w ++ more_withs ws)

-- the bytes of a whole text
abbrev pub printed : SqlTree → List ℕ
printed t = printed_withs t.withs ++ printed_query t.main
