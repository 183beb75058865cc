-- What a word is, as the reader says it.
use Rattle.nq_model.specs.QueryGrammar.{Kind, IsFor, IsWhere, IsIf, IsThen, IsElse, IsFun, IsLet, IsTable, IsAggregate, IsTruth, IsBase, IsName}
use Rattle.query_syntax.specs.Trees.{aggregate_view}
use Rattle.nq_parser.specs.declared.words.WordKind.{WordKind}
use Rattle.nq_parser.specs.declared.words.WordKind.TheVariants as word

abbrev pub kind_view : WordKind → Kind
kind_view word.For = IsFor
kind_view word.Where = IsWhere
kind_view word.If = IsIf
kind_view word.Then = IsThen
kind_view word.Else = IsElse
kind_view word.Fun = IsFun
kind_view word.Let = IsLet
kind_view word.Table = IsTable
kind_view (word.Aggregate a) = IsAggregate (aggregate_view a)
kind_view (word.Truth b) = IsTruth b
kind_view (word.Base c) = IsBase c
kind_view word.Name = IsName
