-- Each token has a kind, of which the sample is one.
use Rattle.std.proofs.Common.{◌≡◌, lit<, true, false, refl}
use Rattle.std.specs.List.{Contains}
use Rattle.nq_model.specs.declared.term.Binary.TheVariants.{Add, Sub, Mul, Eq, Ne, Lt, Le, Gt, Ge}
use Rattle.nq_model.specs.declared.term.Binary.TheVariants.{And, Or}
use Rattle.sql_profile.specs.Tokens as sql
use Rattle.sql_reader.specs.TokenKinds as reader
use Rattle.sql_reader.specs.TokenKinds.{token_kind}
use Rattle.expected_sql_tokens.specs.Kinds.{kind_for, kind_view, sample}
use Rattle.expected_sql_tokens.specs.declared.kinds.TheConstants.{KINDS}
use Rattle.expected_sql_tokens.specs.declared.kinds.SqlTokenKind.{SqlTokenKind}
use Rattle.expected_sql_tokens.specs.declared.kinds.SqlTokenKind.TheVariants as kinds

pub kind_back : (k : reader.TokenKind) → kind_view (kind_for k) ≡ k
kind_back (reader.AKeyword sql.With) = refl
kind_back (reader.AKeyword sql.As) = refl
kind_back (reader.AKeyword sql.Union) = refl
kind_back (reader.AKeyword sql.All) = refl
kind_back (reader.AKeyword sql.Select) = refl
kind_back (reader.AKeyword sql.From) = refl
kind_back (reader.AKeyword sql.Where) = refl
kind_back (reader.AKeyword sql.RowNumber) = refl
kind_back (reader.AKeyword sql.Over) = refl
kind_back (reader.AKeyword sql.Order) = refl
kind_back (reader.AKeyword sql.By) = refl
kind_back (reader.AKeyword sql.Not) = refl
kind_back (reader.AKeyword sql.Exists) = refl
kind_back (reader.AKeyword sql.Case) = refl
kind_back (reader.AKeyword sql.When) = refl
kind_back (reader.AKeyword sql.Then) = refl
kind_back (reader.AKeyword sql.Else) = refl
kind_back (reader.AKeyword sql.Stop) = refl
kind_back (reader.AKeyword sql.Count) = refl
kind_back (reader.AKeyword sql.Sum) = refl
kind_back (reader.AKeyword sql.Coalesce) = refl
kind_back (reader.ATruth true) = refl
kind_back (reader.ATruth false) = refl
kind_back reader.AZero = refl
kind_back reader.ANumber = refl
kind_back reader.ALiteral = refl
kind_back reader.AName = refl
kind_back (reader.AnOperator And) = refl
kind_back (reader.AnOperator Or) = refl
kind_back (reader.AnOperator Eq) = refl
kind_back (reader.AnOperator Ne) = refl
kind_back (reader.AnOperator Lt) = refl
kind_back (reader.AnOperator Le) = refl
kind_back (reader.AnOperator Gt) = refl
kind_back (reader.AnOperator Ge) = refl
kind_back (reader.AnOperator Add) = refl
kind_back (reader.AnOperator Sub) = refl
kind_back (reader.AnOperator Mul) = refl
kind_back reader.AnOpening = refl
kind_back reader.AClosing = refl
kind_back reader.AComma = refl
kind_back reader.ADot = refl
kind_back reader.ASemicolon = refl
kind_back reader.TheEnd = refl

-- the sample is of its kind
pub sample_kind : (k : SqlTokenKind) → token_kind (sample k) ≡ kind_view k
sample_kind kinds.With = refl
sample_kind kinds.As = refl
sample_kind kinds.UnionWord = refl
sample_kind kinds.All = refl
sample_kind kinds.Select = refl
sample_kind kinds.From = refl
sample_kind kinds.Where = refl
sample_kind kinds.RowNumber = refl
sample_kind kinds.Over = refl
sample_kind kinds.Order = refl
sample_kind kinds.By = refl
sample_kind kinds.Not = refl
sample_kind kinds.Exists = refl
sample_kind kinds.Case = refl
sample_kind kinds.When = refl
sample_kind kinds.Then = refl
sample_kind kinds.Else = refl
sample_kind kinds.Stop = refl
sample_kind kinds.Count = refl
sample_kind kinds.Sum = refl
sample_kind kinds.Coalesce = refl
sample_kind kinds.True = refl
sample_kind kinds.False = refl
sample_kind kinds.Zero = refl
sample_kind kinds.Number = refl
sample_kind kinds.Literal = refl
sample_kind kinds.Name = refl
sample_kind kinds.And = refl
sample_kind kinds.Or = refl
sample_kind kinds.Equal = refl
sample_kind kinds.Unequal = refl
sample_kind kinds.Less = refl
sample_kind kinds.AtMost = refl
sample_kind kinds.Greater = refl
sample_kind kinds.AtLeast = refl
sample_kind kinds.Plus = refl
sample_kind kinds.Minus = refl
sample_kind kinds.Times = refl
sample_kind kinds.Opening = refl
sample_kind kinds.Closing = refl
sample_kind kinds.Comma = refl
sample_kind kinds.Dot = refl
sample_kind kinds.Semicolon = refl
sample_kind kinds.End = refl

-- each kind stands in the table
pub in_table : (k : SqlTokenKind) → Contains KINDS k
in_table kinds.With = (0, lit< tt, refl)
in_table kinds.As = (1, lit< tt, refl)
in_table kinds.UnionWord = (2, lit< tt, refl)
in_table kinds.All = (3, lit< tt, refl)
in_table kinds.Select = (4, lit< tt, refl)
in_table kinds.From = (5, lit< tt, refl)
in_table kinds.Where = (6, lit< tt, refl)
in_table kinds.RowNumber = (7, lit< tt, refl)
in_table kinds.Over = (8, lit< tt, refl)
in_table kinds.Order = (9, lit< tt, refl)
in_table kinds.By = (10, lit< tt, refl)
in_table kinds.Not = (11, lit< tt, refl)
in_table kinds.Exists = (12, lit< tt, refl)
in_table kinds.Case = (13, lit< tt, refl)
in_table kinds.When = (14, lit< tt, refl)
in_table kinds.Then = (15, lit< tt, refl)
in_table kinds.Else = (16, lit< tt, refl)
in_table kinds.Stop = (17, lit< tt, refl)
in_table kinds.Count = (18, lit< tt, refl)
in_table kinds.Sum = (19, lit< tt, refl)
in_table kinds.Coalesce = (20, lit< tt, refl)
in_table kinds.True = (21, lit< tt, refl)
in_table kinds.False = (22, lit< tt, refl)
in_table kinds.Zero = (23, lit< tt, refl)
in_table kinds.Number = (24, lit< tt, refl)
in_table kinds.Literal = (25, lit< tt, refl)
in_table kinds.Name = (26, lit< tt, refl)
in_table kinds.And = (27, lit< tt, refl)
in_table kinds.Or = (28, lit< tt, refl)
in_table kinds.Equal = (29, lit< tt, refl)
in_table kinds.Unequal = (30, lit< tt, refl)
in_table kinds.Less = (31, lit< tt, refl)
in_table kinds.AtMost = (32, lit< tt, refl)
in_table kinds.Greater = (33, lit< tt, refl)
in_table kinds.AtLeast = (34, lit< tt, refl)
in_table kinds.Plus = (35, lit< tt, refl)
in_table kinds.Minus = (36, lit< tt, refl)
in_table kinds.Times = (37, lit< tt, refl)
in_table kinds.Opening = (38, lit< tt, refl)
in_table kinds.Closing = (39, lit< tt, refl)
in_table kinds.Comma = (40, lit< tt, refl)
in_table kinds.Dot = (41, lit< tt, refl)
in_table kinds.Semicolon = (42, lit< tt, refl)
in_table kinds.End = (43, lit< tt, refl)
