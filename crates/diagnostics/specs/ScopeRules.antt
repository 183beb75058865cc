-- What each scope rule of SQL texts asks, with an example that keeps it and one that does not.
use Rattle.std.specs.Prelude.{ℕ, List, ◌++◌, codes}
use Rattle.diagnostics.specs.declared.scope_rules.ScopeRule.{ScopeRule}
use Rattle.diagnostics.specs.declared.scope_rules.ScopeRule.TheVariants as rule

abbrev pub scope_number : ScopeRule → ℕ
scope_number rule.Source = 1
scope_number rule.Aliases = 2
scope_number rule.Alias = 3
scope_number rule.Column = 4
scope_number rule.Operands = 5
scope_number rule.Conditions = 6
scope_number rule.ItemNames = 7
scope_number rule.Parts = 8
scope_number rule.WithNames = 9
scope_number rule.Summed = 10

abbrev pub scope_asks : ScopeRule → List ℕ
scope_asks rule.Source =
    codes "A source of FROM is a table of the schema, or an earlier WITH query."
scope_asks rule.Aliases = codes "The sources of one FROM have different aliases."
scope_asks rule.Alias =
    codes "The alias before a column is that of a source here, or in a SELECT around this one."
scope_asks rule.Column = codes "The source has the column: is its name misspelt?"
scope_asks rule.Operands =
    codes "+ - * take ints, AND OR NOT truth values, and a comparison two values of one type."
scope_asks rule.Conditions =
    codes "WHERE and the test of CASE are truth values, and the arms of CASE have one type."
scope_asks rule.ItemNames = codes "The items of one SELECT have different names."
scope_asks rule.Parts =
    codes "The SELECTs of a UNION ALL have as many items, of the same types in order."
scope_asks rule.WithNames =
    codes "The WITH queries have different names, and none has the name of a table."
scope_asks rule.Summed = codes "What SUM adds up is an int."

-- an SQL text that keeps the rule
abbrev pub scope_right : ScopeRule → List ℕ
scope_right rule.Source = codes "SELECT \"d\".\"name\" AS \"n\" FROM \"departments\" AS \"d\""
scope_right rule.Aliases = codes "SELECT 1 AS \"n\" FROM \"tasks\" AS \"a\", \"tasks\" AS \"b\""
scope_right rule.Alias = codes "SELECT \"d\".\"name\" AS \"n\" FROM \"departments\" AS \"d\""
scope_right rule.Column = codes "SELECT \"d\".\"name\" AS \"n\" FROM \"departments\" AS \"d\""
scope_right rule.Operands = codes "SELECT 1 + 2 AS \"n\""
scope_right rule.Conditions = codes "SELECT 1 AS \"n\" WHERE 1 < 2"
scope_right rule.ItemNames = codes "SELECT 1 AS \"m\", 2 AS \"n\""
scope_right rule.Parts = codes "SELECT 1 AS \"n\" UNION ALL SELECT 2 AS \"n\""
scope_right rule.WithNames =
    codes "WITH \"q\" AS (SELECT 1 AS \"n\") SELECT \"q\".\"n\" AS \"n\" FROM \"q\" AS \"q\""
scope_right rule.Summed =
    codes "SELECT (SELECT COALESCE(SUM(\"e\".\"salary\"), 0) FROM \"employees\" AS \"e\") AS "
    ++ codes "\"n\""

-- an SQL text that breaks the rule and no other
abbrev pub scope_wrong : ScopeRule → List ℕ
scope_wrong rule.Source = codes "SELECT 1 AS \"n\" FROM \"nobody\" AS \"d\""
scope_wrong rule.Aliases = codes "SELECT 1 AS \"n\" FROM \"tasks\" AS \"a\", \"tasks\" AS \"a\""
scope_wrong rule.Alias = codes "SELECT \"e\".\"name\" AS \"n\" FROM \"departments\" AS \"d\""
scope_wrong rule.Column = codes "SELECT \"d\".\"nam\" AS \"n\" FROM \"departments\" AS \"d\""
scope_wrong rule.Operands = codes "SELECT 1 + TRUE AS \"n\""
scope_wrong rule.Conditions = codes "SELECT 1 AS \"n\" WHERE 1"
scope_wrong rule.ItemNames = codes "SELECT 1 AS \"n\", 2 AS \"n\""
scope_wrong rule.Parts = codes "SELECT 1 AS \"n\" UNION ALL SELECT '2' AS \"n\""
scope_wrong rule.WithNames = codes "WITH \"tasks\" AS (SELECT 1 AS \"n\") SELECT 2 AS \"n\""
scope_wrong rule.Summed =
    codes "SELECT (SELECT COALESCE(SUM(\"e\".\"name\"), 0) FROM \"employees\" AS \"e\") AS "
    ++ codes "\"n\""
