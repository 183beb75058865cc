-- Worked texts: what each spells, or its fault, and how its tree is judged.
use Rattle.std.proofs.Common.{◌≡◌, ℕ, List, [], ◌∷◌, ◌++◌, pos, codes, refl, Result, Ok, Err}
use Rattle.nq_model.specs.Machines.{Outcome, Reached, Faulty}
use Rattle.nq_model.specs.OpenLists.{Unexpected, Deep}
use Rattle.nq_model.specs.declared.term.Binary.TheVariants.{Lt, Eq}
use Rattle.nq_model.specs.declared.term.Unary.TheVariants.{Minus, Not}
use Rattle.nq_model.specs.declared.table.ColumnType.TheVariants as column
use Rattle.nq_model.specs.Tables.{Columns}
use Rattle.sql_profile.specs.Tokens.{First, Token, place_of, Stuck, NoToken, TooLarge, tokens_of}
use Rattle.sql_profile.specs.Grammar.{tree_of}
use Rattle.sql_profile.specs.Machine.{State, Ready, start_state, run}
use Rattle.sql_profile.specs.Texts.{Fault}
use Rattle.sql_profile.specs.Scope.{Shapes, Verdict, Fine, Broken, judge}
use Rattle.sql_profile.specs.Trees.{PlacedSql, int_at, text_at, column_at, unary_at, binary_at, none_at, no_select_at, then_select_at, select_at, keep_all_at, keep_if_at, no_item_at, then_item_at, item_at, plain_at, number_at}

abbrev run_told : Outcome Token State → Result PlacedSql (Fault × ℕ)
run_told (Reached (Ready s q)) = Ok (tree_of s)
run_told (Reached st) = Err (Fault.unexpected, 0)
run_told (Faulty t Unexpected) = Err (Fault.unexpected, place_of t)
run_told (Faulty t Deep) = Err (Fault.deep, place_of t)

abbrev tokens_told : ℕ → Result (List Token) (ℕ × Stuck) → Result PlacedSql (Fault × ℕ)
tokens_told d (Ok ts) = run_told (run d ts start_state)
tokens_told d (Err (place, NoToken)) = Err (Fault.token, place)
tokens_told d (Err (place, TooLarge)) = Err (Fault.int_range, place)

-- what the machine tells of a text at a depth
abbrev told : ℕ → List ℕ → Result PlacedSql (Fault × ℕ)
told d text = tokens_told d (tokens_of First text)

abbrev names_below_r : List ℕ
names_below_r = codes "SELECT \"x\".\"name\" AS \"n\" FROM \"departments\" AS \"x\" WHERE (\"x\".\"name\" < 'R')"

abbrev names_below_r_tree : PlacedSql
names_below_r_tree = record {
  withs = [];
  main = then_select_at (select_at 0
      (then_item_at (item_at 21 (codes "n") (plain_at (column_at 7 (codes "x") (codes "name")))) no_item_at)
      (record { table = codes "departments"; alias = codes "x"; place = 30 } ∷ [])
      (keep_if_at (binary_at 69 Lt (column_at 58 (codes "x") (codes "name")) (text_at 71 (codes "R"))))) no_select_at;
}

comparison_spelled : told 200 names_below_r ≡ Ok names_below_r_tree
comparison_spelled = refl

abbrev departments : Shapes
departments = (codes "departments", (codes "name", column.Text) ∷ []) ∷ []

comparison_judged : judge departments names_below_r_tree ≡ Fine ((codes "n", column.Text) ∷ [])
comparison_judged = refl

-- the text ends where a name is missing
no_name : told 200 (codes "SELECT 1") ≡ Err (Fault.unexpected, 8)
no_name = refl

-- a minus is a sign of its own, so this text has depth 4
minus_spelled : told 4 (codes "SELECT -1 AS \"n\"") ≡ Ok (record { withs = []; main = then_select_at (select_at 0 (then_item_at (item_at 13 (codes "n") (plain_at (unary_at 7 Minus (int_at 8 (pos 1))))) no_item_at) [] keep_all_at) no_select_at })
minus_spelled = refl

minus_deep : told 3 (codes "SELECT -1 AS \"n\"") ≡ Err (Fault.deep, 7)
minus_deep = refl

-- keywords in any case, a comment up to the line feed, the mark at the beginning, a quote that is doubled
any_case : told 200 ((0xEF ∷ 0xBB ∷ 0xBF ∷ []) ++ (codes "select 'it''s' -- As\n aS \"n\";")) ≡ Ok (record { withs = []; main = then_select_at (select_at 3 (then_item_at (item_at 28 (codes "n") (plain_at (text_at 10 (codes "it's")))) no_item_at) [] keep_all_at) no_select_at })
any_case = refl

-- NOT takes the whole comparison
not_compares : told 200 (codes "SELECT NOT 1 = 2 AS \"n\"") ≡ Ok (record { withs = []; main = then_select_at (select_at 0 (then_item_at (item_at 20 (codes "n") (plain_at (unary_at 7 Not (binary_at 13 Eq (int_at 11 (pos 1)) (int_at 15 (pos 2)))))) no_item_at) [] keep_all_at) no_select_at })
not_compares = refl

two_comparisons : told 200 (codes "SELECT 1 = 2 = 3 AS \"n\"") ≡ Err (Fault.unexpected, 13)
two_comparisons = refl

too_large : told 200 (codes "SELECT 9223372036854775808 AS \"n\"") ≡ Err (Fault.int_range, 7)
too_large = refl

no_keyword : told 200 (codes "SELECT one AS \"n\"") ≡ Err (Fault.token, 7)
no_keyword = refl

empty_name : told 200 (codes "SELECT 1 AS \"\"") ≡ Err (Fault.token, 12)
empty_name = refl

not_closed : told 200 (codes "SELECT 'a'' AS \"n\"") ≡ Err (Fault.token, 7)
not_closed = refl

no_byte : told 200 [] ≡ Err (Fault.unexpected, 0)
no_byte = refl

-- the least text has depth 2
least : told 2 (codes "SELECT ROW_NUMBER() OVER () AS \"n\"") ≡ Ok (record { withs = []; main = then_select_at (select_at 0 (then_item_at (item_at 31 (codes "n") (number_at none_at)) no_item_at) [] keep_all_at) no_select_at })
least = refl

too_deep : told 1 (codes "SELECT ROW_NUMBER() OVER () AS \"n\"") ≡ Err (Fault.deep, 0)
too_deep = refl

abbrev judged : Result PlacedSql (Fault × ℕ) → Verdict Columns
judged (Ok tree) = judge departments tree
judged (Err e) = Broken 0 0

-- an alias that no FROM has, a source that is no table, and two queries of other types
no_alias : judged (told 200 (codes "SELECT \"y\".\"name\" AS \"n\"")) ≡ Broken 3 7
no_alias = refl

no_table : judged (told 200 (codes "SELECT 1 AS \"n\" FROM \"nobody\" AS \"x\"")) ≡ Broken 1 21
no_table = refl

no_column : judged (told 200 (codes "SELECT \"x\".\"size\" AS \"n\" FROM \"departments\" AS \"x\"")) ≡ Broken 4 7
no_column = refl

twice_alias : judged (told 200 (codes "SELECT 1 AS \"n\" FROM \"departments\" AS \"x\", \"departments\" AS \"x\"")) ≡ Broken 2 43
twice_alias = refl

other_types : judged (told 200 (codes "SELECT 1 AS \"n\" UNION ALL SELECT 'a' AS \"n\"")) ≡ Broken 8 26
other_types = refl

-- WHERE is judged before the items
where_first : judged (told 200 (codes "SELECT \"y\".\"a\" AS \"n\" WHERE 1")) ≡ Broken 6 28
where_first = refl

twice_name : judged (told 200 (codes "SELECT 1 AS \"n\", 2 AS \"n\"")) ≡ Broken 7 22
twice_name = refl

-- a WITH query is none of the tables
with_table : judged (told 200 (codes "WITH \"departments\" AS (SELECT 1 AS \"n\") SELECT 1 AS \"n\"")) ≡ Broken 9 5
with_table = refl
