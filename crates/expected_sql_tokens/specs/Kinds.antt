-- The kinds of tokens as the reader says them, that of a token, and a token of each.
use Rattle.std.specs.Prelude.{true, false, [], codes}
use Rattle.nq_model.specs.declared.term.Binary.TheVariants.{Add, Sub, Mul, Eq, Ne, Lt, Le, Gt, Ge}
use Rattle.nq_model.specs.declared.term.Binary.TheVariants.{And, Or}
use Rattle.sql_profile.specs.Tokens as sql
use Rattle.sql_profile.specs.Tokens.{Number, Literal, Truth, Token, Value, Name, Key, Oper, Open}
use Rattle.sql_profile.specs.Tokens.{Close, Comma, Dot, Semi, End}
use Rattle.sql_reader.specs.TokenKinds as reader
use Rattle.expected_sql_tokens.specs.declared.kinds.SqlTokenKind.{SqlTokenKind}
use Rattle.expected_sql_tokens.specs.declared.kinds.SqlTokenKind.TheVariants as kinds

abbrev pub kind_view : SqlTokenKind → reader.TokenKind
kind_view kinds.With = reader.AKeyword sql.With
kind_view kinds.As = reader.AKeyword sql.As
kind_view kinds.UnionWord = reader.AKeyword sql.Union
kind_view kinds.All = reader.AKeyword sql.All
kind_view kinds.Select = reader.AKeyword sql.Select
kind_view kinds.From = reader.AKeyword sql.From
kind_view kinds.Where = reader.AKeyword sql.Where
kind_view kinds.RowNumber = reader.AKeyword sql.RowNumber
kind_view kinds.Over = reader.AKeyword sql.Over
kind_view kinds.Order = reader.AKeyword sql.Order
kind_view kinds.By = reader.AKeyword sql.By
kind_view kinds.Not = reader.AKeyword sql.Not
kind_view kinds.Exists = reader.AKeyword sql.Exists
kind_view kinds.Case = reader.AKeyword sql.Case
kind_view kinds.When = reader.AKeyword sql.When
kind_view kinds.Then = reader.AKeyword sql.Then
kind_view kinds.Else = reader.AKeyword sql.Else
kind_view kinds.Stop = reader.AKeyword sql.Stop
kind_view kinds.Count = reader.AKeyword sql.Count
kind_view kinds.Sum = reader.AKeyword sql.Sum
kind_view kinds.Coalesce = reader.AKeyword sql.Coalesce
kind_view kinds.True = reader.ATruth true
kind_view kinds.False = reader.ATruth false
kind_view kinds.Zero = reader.AZero
kind_view kinds.Number = reader.ANumber
kind_view kinds.Literal = reader.ALiteral
kind_view kinds.Name = reader.AName
kind_view kinds.And = reader.AnOperator And
kind_view kinds.Or = reader.AnOperator Or
kind_view kinds.Equal = reader.AnOperator Eq
kind_view kinds.Unequal = reader.AnOperator Ne
kind_view kinds.Less = reader.AnOperator Lt
kind_view kinds.AtMost = reader.AnOperator Le
kind_view kinds.Greater = reader.AnOperator Gt
kind_view kinds.AtLeast = reader.AnOperator Ge
kind_view kinds.Plus = reader.AnOperator Add
kind_view kinds.Minus = reader.AnOperator Sub
kind_view kinds.Times = reader.AnOperator Mul
kind_view kinds.Opening = reader.AnOpening
kind_view kinds.Closing = reader.AClosing
kind_view kinds.Comma = reader.AComma
kind_view kinds.Dot = reader.ADot
kind_view kinds.Semicolon = reader.ASemicolon
kind_view kinds.End = reader.TheEnd

-- the kind that the reader says like this
abbrev pub kind_for : reader.TokenKind → SqlTokenKind
kind_for (reader.AKeyword sql.With) = kinds.With
kind_for (reader.AKeyword sql.As) = kinds.As
kind_for (reader.AKeyword sql.Union) = kinds.UnionWord
kind_for (reader.AKeyword sql.All) = kinds.All
kind_for (reader.AKeyword sql.Select) = kinds.Select
kind_for (reader.AKeyword sql.From) = kinds.From
kind_for (reader.AKeyword sql.Where) = kinds.Where
kind_for (reader.AKeyword sql.RowNumber) = kinds.RowNumber
kind_for (reader.AKeyword sql.Over) = kinds.Over
kind_for (reader.AKeyword sql.Order) = kinds.Order
kind_for (reader.AKeyword sql.By) = kinds.By
kind_for (reader.AKeyword sql.Not) = kinds.Not
kind_for (reader.AKeyword sql.Exists) = kinds.Exists
kind_for (reader.AKeyword sql.Case) = kinds.Case
kind_for (reader.AKeyword sql.When) = kinds.When
kind_for (reader.AKeyword sql.Then) = kinds.Then
kind_for (reader.AKeyword sql.Else) = kinds.Else
kind_for (reader.AKeyword sql.Stop) = kinds.Stop
kind_for (reader.AKeyword sql.Count) = kinds.Count
kind_for (reader.AKeyword sql.Sum) = kinds.Sum
kind_for (reader.AKeyword sql.Coalesce) = kinds.Coalesce
kind_for (reader.ATruth true) = kinds.True
kind_for (reader.ATruth false) = kinds.False
kind_for reader.AZero = kinds.Zero
kind_for reader.ANumber = kinds.Number
kind_for reader.ALiteral = kinds.Literal
kind_for reader.AName = kinds.Name
kind_for (reader.AnOperator And) = kinds.And
kind_for (reader.AnOperator Or) = kinds.Or
kind_for (reader.AnOperator Eq) = kinds.Equal
kind_for (reader.AnOperator Ne) = kinds.Unequal
kind_for (reader.AnOperator Lt) = kinds.Less
kind_for (reader.AnOperator Le) = kinds.AtMost
kind_for (reader.AnOperator Gt) = kinds.Greater
kind_for (reader.AnOperator Ge) = kinds.AtLeast
kind_for (reader.AnOperator Add) = kinds.Plus
kind_for (reader.AnOperator Sub) = kinds.Minus
kind_for (reader.AnOperator Mul) = kinds.Times
kind_for reader.AnOpening = kinds.Opening
kind_for reader.AClosing = kinds.Closing
kind_for reader.AComma = kinds.Comma
kind_for reader.ADot = kinds.Dot
kind_for reader.ASemicolon = kinds.Semicolon
kind_for reader.TheEnd = kinds.End

-- the kind of a token
abbrev pub kind_of : Token → SqlTokenKind
kind_of t = kind_for (reader.token_kind t)

-- a token of the kind, at the beginning of a text
abbrev pub sample : SqlTokenKind → Token
sample kinds.With = Key 0 sql.With
sample kinds.As = Key 0 sql.As
sample kinds.UnionWord = Key 0 sql.Union
sample kinds.All = Key 0 sql.All
sample kinds.Select = Key 0 sql.Select
sample kinds.From = Key 0 sql.From
sample kinds.Where = Key 0 sql.Where
sample kinds.RowNumber = Key 0 sql.RowNumber
sample kinds.Over = Key 0 sql.Over
sample kinds.Order = Key 0 sql.Order
sample kinds.By = Key 0 sql.By
sample kinds.Not = Key 0 sql.Not
sample kinds.Exists = Key 0 sql.Exists
sample kinds.Case = Key 0 sql.Case
sample kinds.When = Key 0 sql.When
sample kinds.Then = Key 0 sql.Then
sample kinds.Else = Key 0 sql.Else
sample kinds.Stop = Key 0 sql.Stop
sample kinds.Count = Key 0 sql.Count
sample kinds.Sum = Key 0 sql.Sum
sample kinds.Coalesce = Key 0 sql.Coalesce
sample kinds.True = Value 0 (Truth true)
sample kinds.False = Value 0 (Truth false)
sample kinds.Zero = Value 0 (Number 0 1)
sample kinds.Number = Value 0 (Number 1 1)
sample kinds.Literal = Value 0 (Literal [])
sample kinds.Name = Name 0 (codes "x")
sample kinds.And = Oper 0 And
sample kinds.Or = Oper 0 Or
sample kinds.Equal = Oper 0 Eq
sample kinds.Unequal = Oper 0 Ne
sample kinds.Less = Oper 0 Lt
sample kinds.AtMost = Oper 0 Le
sample kinds.Greater = Oper 0 Gt
sample kinds.AtLeast = Oper 0 Ge
sample kinds.Plus = Oper 0 Add
sample kinds.Minus = Oper 0 Sub
sample kinds.Times = Oper 0 Mul
sample kinds.Opening = Open 0
sample kinds.Closing = Close 0
sample kinds.Comma = Comma 0
sample kinds.Dot = Dot 0
sample kinds.Semicolon = Semi 0
sample kinds.End = End 0
