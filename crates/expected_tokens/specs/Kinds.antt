-- The kinds of tokens as the reader says them, and a token of each.
use Rattle.std.specs.Prelude.{Bool, true, false, [], codes}
use Rattle.nq_model.specs.Terms.{Emptiness, Count, Sum}
use Rattle.nq_model.specs.QueryTokens as query
use Rattle.nq_model.specs.QueryTokens.{Union, Of, Number, Literal, Token, Word, Value, Oper, Sign}
use Rattle.nq_model.specs.QueryTokens.{End}
use Rattle.nq_model.specs.QueryGrammar.{Edition, First, IsFor, IsWhere, IsIf, IsThen, IsElse, IsFun}
use Rattle.nq_model.specs.QueryGrammar.{IsLet, IsTable, IsAggregate, IsTruth, IsBase, IsName}
use Rattle.nq_model.specs.declared.term.Binary.TheVariants.{Add, Sub, Mul, Eq, Ne, Lt, Le, Gt, Ge}
use Rattle.nq_model.specs.declared.term.Binary.TheVariants.{And, Or}
use Rattle.nq_model.specs.declared.table.ColumnType.TheVariants as column
use Rattle.nq_parser.specs.TokenKinds as parser
use Rattle.expected_tokens.specs.declared.kinds.TokenKind.{TokenKind}
use Rattle.expected_tokens.specs.declared.kinds.TokenKind.TheVariants as kinds

abbrev pub kind_view : TokenKind → parser.TokenKind
kind_view kinds.For = parser.AWord IsFor
kind_view kinds.Where = parser.AWord IsWhere
kind_view kinds.If = parser.AWord IsIf
kind_view kinds.Then = parser.AWord IsThen
kind_view kinds.Else = parser.AWord IsElse
kind_view kinds.Fun = parser.AWord IsFun
kind_view kinds.Let = parser.AWord IsLet
kind_view kinds.Table = parser.AWord IsTable
kind_view kinds.Empty = parser.AWord (IsAggregate Emptiness)
kind_view kinds.Count = parser.AWord (IsAggregate Count)
kind_view kinds.Sum = parser.AWord (IsAggregate Sum)
kind_view kinds.True = parser.AWord (IsTruth true)
kind_view kinds.False = parser.AWord (IsTruth false)
kind_view kinds.Int = parser.AWord (IsBase column.Int)
kind_view kinds.Bool = parser.AWord (IsBase column.Bool)
kind_view kinds.Text = parser.AWord (IsBase column.Text)
kind_view kinds.Name = parser.AWord IsName
kind_view kinds.Number = parser.ANumber
kind_view kinds.Literal = parser.ALiteral
kind_view kinds.Union = parser.AnOperator Union
kind_view kinds.Or = parser.AnOperator (Of Or)
kind_view kinds.And = parser.AnOperator (Of And)
kind_view kinds.Equal = parser.AnOperator (Of Eq)
kind_view kinds.Unequal = parser.AnOperator (Of Ne)
kind_view kinds.Less = parser.AnOperator (Of Lt)
kind_view kinds.AtMost = parser.AnOperator (Of Le)
kind_view kinds.Greater = parser.AnOperator (Of Gt)
kind_view kinds.AtLeast = parser.AnOperator (Of Ge)
kind_view kinds.Plus = parser.AnOperator (Of Add)
kind_view kinds.Minus = parser.AnOperator (Of Sub)
kind_view kinds.Times = parser.AnOperator (Of Mul)
kind_view kinds.Opening = parser.AMark query.Opening
kind_view kinds.Closing = parser.AMark query.Closing
kind_view kinds.OpeningBag = parser.AMark query.OpeningBag
kind_view kinds.ClosingBag = parser.AMark query.ClosingBag
kind_view kinds.Comma = parser.AMark query.Comma
kind_view kinds.Colon = parser.AMark query.Colon
kind_view kinds.Semicolon = parser.AMark query.Semicolon
kind_view kinds.Dot = parser.AMark query.Dot
kind_view kinds.Assign = parser.AMark query.Assign
kind_view kinds.From = parser.AMark query.From
kind_view kinds.Arrow = parser.AMark query.Arrow
kind_view kinds.Bang = parser.AMark query.Bang
kind_view kinds.End = parser.TheEnd

-- a token of the kind, at the beginning of a text
abbrev pub sample : TokenKind → Token
sample kinds.For = Word 0 (codes "for")
sample kinds.Where = Word 0 (codes "where")
sample kinds.If = Word 0 (codes "if")
sample kinds.Then = Word 0 (codes "then")
sample kinds.Else = Word 0 (codes "else")
sample kinds.Fun = Word 0 (codes "fun")
sample kinds.Let = Word 0 (codes "let")
sample kinds.Table = Word 0 (codes "table")
sample kinds.Empty = Word 0 (codes "empty")
sample kinds.Count = Word 0 (codes "count")
sample kinds.Sum = Word 0 (codes "sum")
sample kinds.True = Word 0 (codes "true")
sample kinds.False = Word 0 (codes "false")
sample kinds.Int = Word 0 (codes "int")
sample kinds.Bool = Word 0 (codes "bool")
sample kinds.Text = Word 0 (codes "text")
sample kinds.Name = Word 0 (codes "x")
sample kinds.Number = Value 0 (Number 1 1)
sample kinds.Literal = Value 0 (Literal [])
sample kinds.Union = Oper 0 Union
sample kinds.Or = Oper 0 (Of Or)
sample kinds.And = Oper 0 (Of And)
sample kinds.Equal = Oper 0 (Of Eq)
sample kinds.Unequal = Oper 0 (Of Ne)
sample kinds.Less = Oper 0 (Of Lt)
sample kinds.AtMost = Oper 0 (Of Le)
sample kinds.Greater = Oper 0 (Of Gt)
sample kinds.AtLeast = Oper 0 (Of Ge)
sample kinds.Plus = Oper 0 (Of Add)
sample kinds.Minus = Oper 0 (Of Sub)
sample kinds.Times = Oper 0 (Of Mul)
sample kinds.Opening = Sign 0 query.Opening
sample kinds.Closing = Sign 0 query.Closing
sample kinds.OpeningBag = Sign 0 query.OpeningBag
sample kinds.ClosingBag = Sign 0 query.ClosingBag
sample kinds.Comma = Sign 0 query.Comma
sample kinds.Colon = Sign 0 query.Colon
sample kinds.Semicolon = Sign 0 query.Semicolon
sample kinds.Dot = Sign 0 query.Dot
sample kinds.Assign = Sign 0 query.Assign
sample kinds.From = Sign 0 query.From
sample kinds.Arrow = Sign 0 query.Arrow
sample kinds.Bang = Sign 0 query.Bang
sample kinds.End = End 0

-- whether a token may be of the kind: `count` and `sum` are names in the first edition
abbrev pub has_tokens : Edition → TokenKind → Bool
has_tokens First kinds.Count = false
has_tokens First kinds.Sum = false
has_tokens ed k = true
