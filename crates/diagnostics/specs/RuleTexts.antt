-- What is written of a rule.
use Rattle.std.specs.Prelude.{ℕ, List, ◌++◌, codes, Option, Some, None}
use Rattle.std.specs.Fmt.{decimal}
use Rattle.diagnostics.specs.ScopeRules.{scope_asks, scope_number, scope_right, scope_wrong}
use Rattle.diagnostics.specs.TypingRules.{typing_asks, typing_number, typing_right, typing_wrong}
use Rattle.diagnostics.specs.declared.rule_texts.Rule.{Rule}
use Rattle.diagnostics.specs.declared.rule_texts.Rule.TheVariants.{Typing, Scope}

-- the schema of all examples
unfoldable pub example_schema : List ℕ
example_schema =
    codes "table departments (name: text);\n"
    ++ (codes "table employees (dept: text, name: text, salary: int);\n"
    ++ codes "table tasks (employee: text, task: text);\n")

-- which rule it is
abbrev pub rule_kind : Rule → List ℕ
rule_kind (Typing rule) = codes "Typing rule "
rule_kind (Scope rule) = codes "SQL rule "

abbrev pub rule_number : Rule → ℕ
rule_number (Typing rule) = typing_number rule
rule_number (Scope rule) = scope_number rule

abbrev pub rule_head : Rule → List ℕ
rule_head rule = rule_kind rule ++ decimal (rule_number rule)

abbrev pub rule_asks : Rule → List ℕ
rule_asks (Typing rule) = typing_asks rule
rule_asks (Scope rule) = scope_asks rule

abbrev pub rule_right : Rule → List ℕ
rule_right (Typing rule) = typing_right rule
rule_right (Scope rule) = scope_right rule

abbrev pub rule_wrong : Rule → Option (List ℕ)
rule_wrong (Typing rule) = typing_wrong rule
rule_wrong (Scope rule) = Some (scope_wrong rule)

-- the line of the example that keeps the rule
unfoldable pub right_line : List ℕ → List ℕ
right_line right = codes "accepted: " ++ (right ++ codes "\n")

-- the line of the example that breaks it
unfoldable pub wrong_line : Option (List ℕ) → List ℕ
wrong_line None = codes "refused:  never\n"
wrong_line (Some wrong) = codes "refused:  " ++ (wrong ++ codes "\n")

-- the schema of the examples
unfoldable pub schema_lines : List ℕ
schema_lines = codes "The examples are over\n" ++ example_schema

-- the two examples, and their schema
unfoldable pub examples_text : Rule → List ℕ
examples_text rule =
    right_line (rule_right rule) ++ (wrong_line (rule_wrong rule) ++ schema_lines)

-- which rule it is and what it asks, and the examples
unfoldable pub rule_text : Rule → List ℕ
rule_text rule =
    rule_head rule ++ (codes ": " ++ (rule_asks rule ++ (codes "\n" ++ examples_text rule)))
