-- What each typing rule of queries asks, with an example that keeps it and one that does not.
use Rattle.std.specs.Prelude.{ℕ, List, ◌++◌, codes, Option, Some, None}
use Rattle.diagnostics.specs.declared.typing_rules.TypingRule.{TypingRule}
use Rattle.diagnostics.specs.declared.typing_rules.TypingRule.TheVariants as rule

abbrev pub typing_number : TypingRule → ℕ
typing_number rule.Variable = 1
typing_number rule.Number = 2
typing_number rule.Truth = 3
typing_number rule.Literal = 4
typing_number rule.Table = 5
typing_number rule.Minus = 6
typing_number rule.Not = 7
typing_number rule.Arithmetic = 8
typing_number rule.Comparison = 9
typing_number rule.Connective = 10
typing_number rule.Choice = 11
typing_number rule.Function = 12
typing_number rule.Application = 13
typing_number rule.Record = 14
typing_number rule.Field = 15
typing_number rule.Emptiness = 16
typing_number rule.Single = 17
typing_number rule.EmptyBag = 18
typing_number rule.Union = 19
typing_number rule.Comprehension = 20
typing_number rule.Guard = 21
typing_number rule.Let = 22
typing_number rule.Whole = 23
typing_number rule.Count = 24
typing_number rule.Sum = 25

abbrev pub typing_asks : TypingRule → List ℕ
typing_asks rule.Variable = codes "A variable has the type of what it is bound to."
typing_asks rule.Number = codes "A number is an int."
typing_asks rule.Truth = codes "The words true and false are bools."
typing_asks rule.Literal = codes "What stands in single quotes is a text."
typing_asks rule.Table =
    codes "The schema must have the table: is the name misspelt, or the schema another one?"
typing_asks rule.Minus = codes "Behind a minus stands an int."
typing_asks rule.Not = codes "Behind ! stands a bool. Put a comparison in parentheses: !(a == b)."
typing_asks rule.Arithmetic = codes "Both sides of +, - and * are ints. Texts cannot be joined."
typing_asks rule.Comparison =
    codes "You compare two ints, two bools or two texts. Of rows, compare the columns."
typing_asks rule.Connective =
    codes "Both sides of && and || are bools: x == 'a' || x == 'b', not x == 'a' || 'b'."
typing_asks rule.Choice =
    codes "The test of if is a bool, and the values behind then and else have one type."
typing_asks rule.Function = codes "In the type of a parameter, a bag has no function in it."
typing_asks rule.Application =
    codes "Before (..) stands a function, and in it a value of the type that it takes."
typing_asks rule.Record = codes "The fields of a record may have any types."
typing_asks rule.Field =
    codes "Before the dot stands a record that has the field. Take it of a row, not of a "
    ++ codes "table."
typing_asks rule.Emptiness =
    codes "In empty(..) stands a bag, as a table or a for. A row or a condition is none."
typing_asks rule.Single =
    codes "There is no function in a bag. Does a function lack its last argument?"
typing_asks rule.EmptyBag = codes "There is no function in the type T of an empty bag [: T]."
typing_asks rule.Union =
    codes "Both sides of ++ are bags of one type: elements in [..], rows with the same fields."
typing_asks rule.Comprehension =
    codes "A for goes over a bag, and its body is a bag: put the element into [..]."
typing_asks rule.Guard =
    codes "The condition of where is a bool, and its body is a bag: put the element into [..]."
typing_asks rule.Let = codes "A let may name a value of any type."
typing_asks rule.Whole =
    codes "The whole query is a bag: put a value into [..], or give a function its argument."
typing_asks rule.Count =
    codes "In count(..) stands a bag, as a table or a for. A row or a column is none."
typing_asks rule.Sum =
    codes "In sum(..) stands a bag of ints: for (r <- table t) [r.c] is that of a column c."

-- a query that keeps the rule
abbrev pub typing_right : TypingRule → List ℕ
typing_right rule.Variable = codes "let x = [1]; x"
typing_right rule.Number = codes "[1]"
typing_right rule.Truth = codes "[true]"
typing_right rule.Literal = codes "['a']"
typing_right rule.Table = codes "table employees"
typing_right rule.Minus = codes "[-1]"
typing_right rule.Not = codes "[!(1 == 2)]"
typing_right rule.Arithmetic = codes "[1 + 2]"
typing_right rule.Comparison = codes "['a' == 'b']"
typing_right rule.Connective = codes "[1 == 2 || 1 == 3]"
typing_right rule.Choice = codes "[if 1 < 2 then 'yes' else 'no']"
typing_right rule.Function = codes "[(fun (x: int) -> x)(1)]"
typing_right rule.Application = codes "[(fun (x: int) -> x + 1)(3)]"
typing_right rule.Record = codes "[(a = 1, b = ['b'])]"
typing_right rule.Field = codes "for (e <- table employees) [e.name]"
typing_right rule.Emptiness = codes "[empty(table employees)]"
typing_right rule.Single = codes "[(fun (x: int) -> x)(1)]"
typing_right rule.EmptyBag = codes "[: int]"
typing_right rule.Union = codes "[1] ++ [2]"
typing_right rule.Comprehension = codes "for (e <- table employees) [e.name]"
typing_right rule.Guard = codes "where (1 < 2) ['a']"
typing_right rule.Let = codes "let x = 1; [x]"
typing_right rule.Whole = codes "[1 + 1]"
typing_right rule.Count = codes "nq 2; [count(table tasks)]"
typing_right rule.Sum = codes "nq 2; [sum(for (e <- table employees) [e.salary])]"

-- a query that breaks the rule and no other, if any can
abbrev pub typing_wrong : TypingRule → Option (List ℕ)
typing_wrong rule.Variable = None
typing_wrong rule.Number = None
typing_wrong rule.Truth = None
typing_wrong rule.Literal = None
typing_wrong rule.Table = Some (codes "table employes")
typing_wrong rule.Minus = Some (codes "[-'1']")
typing_wrong rule.Not = Some (codes "[!1 == 2]")
typing_wrong rule.Arithmetic = Some (codes "['a' + 'b']")
typing_wrong rule.Comparison = Some (codes "['1' == 1]")
typing_wrong rule.Connective = Some (codes "[1 == 2 || 3]")
typing_wrong rule.Choice = Some (codes "[if 1 < 2 then 'yes' else 0]")
typing_wrong rule.Function = Some (codes "[(fun (x: [int -> int]) -> 1)([: int])]")
typing_wrong rule.Application = Some (codes "[(fun (x: int) -> x + 1)('3')]")
typing_wrong rule.Record = None
typing_wrong rule.Field = Some (codes "[(table employees).name]")
typing_wrong rule.Emptiness = Some (codes "[empty(1 == 2)]")
typing_wrong rule.Single = Some (codes "[fun (x: int) -> x]")
typing_wrong rule.EmptyBag = Some (codes "[: int -> int]")
typing_wrong rule.Union = Some (codes "[1] ++ 2")
typing_wrong rule.Comprehension = Some (codes "for (e <- table employees) e.name")
typing_wrong rule.Guard = Some (codes "where (1 < 2) 'a'")
typing_wrong rule.Let = None
typing_wrong rule.Whole = Some (codes "1 + 1")
typing_wrong rule.Count = Some (codes "nq 2; for (t <- table tasks) [count(t.task)]")
typing_wrong rule.Sum = Some (codes "nq 2; [sum(table employees)]")
