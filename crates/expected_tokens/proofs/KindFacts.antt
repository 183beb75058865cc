-- Each token has a kind, of which the sample is one.
use Rattle.std.proofs.Common.{◌≡◌, ℕ, lit<, Bool, true, false, cond, codes, bytes_eq, List, refl}
use Rattle.std.specs.List.{Contains}
use Rattle.nq_model.specs.Terms.{Emptiness, Count, Sum}
use Rattle.nq_model.specs.QueryTokens as query
use Rattle.nq_model.specs.QueryTokens.{Union, Of, Number, Literal, Token, Word, Value, Oper, Sign}
use Rattle.nq_model.specs.QueryTokens.{End}
use Rattle.nq_model.specs.QueryGrammar.{Edition, First, Second, Kind, IsFor, IsWhere, IsIf, IsThen}
use Rattle.nq_model.specs.QueryGrammar.{IsElse, IsFun, IsLet, IsTable, IsAggregate, IsTruth, IsBase}
use Rattle.nq_model.specs.QueryGrammar.{IsName, kind}
use Rattle.nq_model.specs.declared.term.Binary.TheVariants.{Add, Sub, Mul, Eq, Ne, Lt, Le, Gt, Ge}
use Rattle.nq_model.specs.declared.term.Binary.TheVariants.{And, Or}
use Rattle.nq_model.specs.declared.table.ColumnType.TheVariants as column
use Rattle.nq_parser.specs.TokenKinds as parser
use Rattle.nq_parser.specs.TokenKinds.{token_kind}
use Rattle.expected_tokens.specs.Kinds.{kind_view, sample, has_tokens}
use Rattle.expected_tokens.specs.declared.kinds.TheConstants.{KINDS}
use Rattle.expected_tokens.specs.declared.kinds.TokenKind.{TokenKind}
use Rattle.expected_tokens.specs.declared.kinds.TokenKind.TheVariants as kinds

abbrev pub kind_for : parser.TokenKind → TokenKind
kind_for (parser.AWord IsFor) = kinds.For
kind_for (parser.AWord IsWhere) = kinds.Where
kind_for (parser.AWord IsIf) = kinds.If
kind_for (parser.AWord IsThen) = kinds.Then
kind_for (parser.AWord IsElse) = kinds.Else
kind_for (parser.AWord IsFun) = kinds.Fun
kind_for (parser.AWord IsLet) = kinds.Let
kind_for (parser.AWord IsTable) = kinds.Table
kind_for (parser.AWord (IsAggregate Emptiness)) = kinds.Empty
kind_for (parser.AWord (IsAggregate Count)) = kinds.Count
kind_for (parser.AWord (IsAggregate Sum)) = kinds.Sum
kind_for (parser.AWord (IsTruth true)) = kinds.True
kind_for (parser.AWord (IsTruth false)) = kinds.False
kind_for (parser.AWord (IsBase column.Int)) = kinds.Int
kind_for (parser.AWord (IsBase column.Bool)) = kinds.Bool
kind_for (parser.AWord (IsBase column.Text)) = kinds.Text
kind_for (parser.AWord IsName) = kinds.Name
kind_for parser.ANumber = kinds.Number
kind_for parser.ALiteral = kinds.Literal
kind_for (parser.AnOperator Union) = kinds.Union
kind_for (parser.AnOperator (Of Or)) = kinds.Or
kind_for (parser.AnOperator (Of And)) = kinds.And
kind_for (parser.AnOperator (Of Eq)) = kinds.Equal
kind_for (parser.AnOperator (Of Ne)) = kinds.Unequal
kind_for (parser.AnOperator (Of Lt)) = kinds.Less
kind_for (parser.AnOperator (Of Le)) = kinds.AtMost
kind_for (parser.AnOperator (Of Gt)) = kinds.Greater
kind_for (parser.AnOperator (Of Ge)) = kinds.AtLeast
kind_for (parser.AnOperator (Of Add)) = kinds.Plus
kind_for (parser.AnOperator (Of Sub)) = kinds.Minus
kind_for (parser.AnOperator (Of Mul)) = kinds.Times
kind_for (parser.AMark query.Opening) = kinds.Opening
kind_for (parser.AMark query.Closing) = kinds.Closing
kind_for (parser.AMark query.OpeningBag) = kinds.OpeningBag
kind_for (parser.AMark query.ClosingBag) = kinds.ClosingBag
kind_for (parser.AMark query.Comma) = kinds.Comma
kind_for (parser.AMark query.Colon) = kinds.Colon
kind_for (parser.AMark query.Semicolon) = kinds.Semicolon
kind_for (parser.AMark query.Dot) = kinds.Dot
kind_for (parser.AMark query.Assign) = kinds.Assign
kind_for (parser.AMark query.From) = kinds.From
kind_for (parser.AMark query.Arrow) = kinds.Arrow
kind_for (parser.AMark query.Bang) = kinds.Bang
kind_for parser.TheEnd = kinds.End

pub kind_back : (k : parser.TokenKind) → kind_view (kind_for k) ≡ k
kind_back (parser.AWord IsFor) = refl
kind_back (parser.AWord IsWhere) = refl
kind_back (parser.AWord IsIf) = refl
kind_back (parser.AWord IsThen) = refl
kind_back (parser.AWord IsElse) = refl
kind_back (parser.AWord IsFun) = refl
kind_back (parser.AWord IsLet) = refl
kind_back (parser.AWord IsTable) = refl
kind_back (parser.AWord (IsAggregate Emptiness)) = refl
kind_back (parser.AWord (IsAggregate Count)) = refl
kind_back (parser.AWord (IsAggregate Sum)) = refl
kind_back (parser.AWord (IsTruth true)) = refl
kind_back (parser.AWord (IsTruth false)) = refl
kind_back (parser.AWord (IsBase column.Int)) = refl
kind_back (parser.AWord (IsBase column.Bool)) = refl
kind_back (parser.AWord (IsBase column.Text)) = refl
kind_back (parser.AWord IsName) = refl
kind_back parser.ANumber = refl
kind_back parser.ALiteral = refl
kind_back (parser.AnOperator Union) = refl
kind_back (parser.AnOperator (Of Or)) = refl
kind_back (parser.AnOperator (Of And)) = refl
kind_back (parser.AnOperator (Of Eq)) = refl
kind_back (parser.AnOperator (Of Ne)) = refl
kind_back (parser.AnOperator (Of Lt)) = refl
kind_back (parser.AnOperator (Of Le)) = refl
kind_back (parser.AnOperator (Of Gt)) = refl
kind_back (parser.AnOperator (Of Ge)) = refl
kind_back (parser.AnOperator (Of Add)) = refl
kind_back (parser.AnOperator (Of Sub)) = refl
kind_back (parser.AnOperator (Of Mul)) = refl
kind_back (parser.AMark query.Opening) = refl
kind_back (parser.AMark query.Closing) = refl
kind_back (parser.AMark query.OpeningBag) = refl
kind_back (parser.AMark query.ClosingBag) = refl
kind_back (parser.AMark query.Comma) = refl
kind_back (parser.AMark query.Colon) = refl
kind_back (parser.AMark query.Semicolon) = refl
kind_back (parser.AMark query.Dot) = refl
kind_back (parser.AMark query.Assign) = refl
kind_back (parser.AMark query.From) = refl
kind_back (parser.AMark query.Arrow) = refl
kind_back (parser.AMark query.Bang) = refl
kind_back parser.TheEnd = refl

-- the sample is of its kind, where the edition has tokens of it
pub sample_kind : (ed : Edition) (k : TokenKind) → has_tokens ed k ≡ true
    → token_kind ed (sample k) ≡ kind_view k
sample_kind First kinds.For e = refl
sample_kind First kinds.Where e = refl
sample_kind First kinds.If e = refl
sample_kind First kinds.Then e = refl
sample_kind First kinds.Else e = refl
sample_kind First kinds.Fun e = refl
sample_kind First kinds.Let e = refl
sample_kind First kinds.Table e = refl
sample_kind First kinds.Empty e = refl
sample_kind First kinds.Count e = absurd (cc)
sample_kind First kinds.Sum e = absurd (cc)
sample_kind First kinds.True e = refl
sample_kind First kinds.False e = refl
sample_kind First kinds.Int e = refl
sample_kind First kinds.Bool e = refl
sample_kind First kinds.Text e = refl
sample_kind First kinds.Name e = refl
sample_kind First kinds.Number e = refl
sample_kind First kinds.Literal e = refl
sample_kind First kinds.Union e = refl
sample_kind First kinds.Or e = refl
sample_kind First kinds.And e = refl
sample_kind First kinds.Equal e = refl
sample_kind First kinds.Unequal e = refl
sample_kind First kinds.Less e = refl
sample_kind First kinds.AtMost e = refl
sample_kind First kinds.Greater e = refl
sample_kind First kinds.AtLeast e = refl
sample_kind First kinds.Plus e = refl
sample_kind First kinds.Minus e = refl
sample_kind First kinds.Times e = refl
sample_kind First kinds.Opening e = refl
sample_kind First kinds.Closing e = refl
sample_kind First kinds.OpeningBag e = refl
sample_kind First kinds.ClosingBag e = refl
sample_kind First kinds.Comma e = refl
sample_kind First kinds.Colon e = refl
sample_kind First kinds.Semicolon e = refl
sample_kind First kinds.Dot e = refl
sample_kind First kinds.Assign e = refl
sample_kind First kinds.From e = refl
sample_kind First kinds.Arrow e = refl
sample_kind First kinds.Bang e = refl
sample_kind First kinds.End e = refl
sample_kind Second kinds.For e = refl
sample_kind Second kinds.Where e = refl
sample_kind Second kinds.If e = refl
sample_kind Second kinds.Then e = refl
sample_kind Second kinds.Else e = refl
sample_kind Second kinds.Fun e = refl
sample_kind Second kinds.Let e = refl
sample_kind Second kinds.Table e = refl
sample_kind Second kinds.Empty e = refl
sample_kind Second kinds.Count e = refl
sample_kind Second kinds.Sum e = refl
sample_kind Second kinds.True e = refl
sample_kind Second kinds.False e = refl
sample_kind Second kinds.Int e = refl
sample_kind Second kinds.Bool e = refl
sample_kind Second kinds.Text e = refl
sample_kind Second kinds.Name e = refl
sample_kind Second kinds.Number e = refl
sample_kind Second kinds.Literal e = refl
sample_kind Second kinds.Union e = refl
sample_kind Second kinds.Or e = refl
sample_kind Second kinds.And e = refl
sample_kind Second kinds.Equal e = refl
sample_kind Second kinds.Unequal e = refl
sample_kind Second kinds.Less e = refl
sample_kind Second kinds.AtMost e = refl
sample_kind Second kinds.Greater e = refl
sample_kind Second kinds.AtLeast e = refl
sample_kind Second kinds.Plus e = refl
sample_kind Second kinds.Minus e = refl
sample_kind Second kinds.Times e = refl
sample_kind Second kinds.Opening e = refl
sample_kind Second kinds.Closing e = refl
sample_kind Second kinds.OpeningBag e = refl
sample_kind Second kinds.ClosingBag e = refl
sample_kind Second kinds.Comma e = refl
sample_kind Second kinds.Colon e = refl
sample_kind Second kinds.Semicolon e = refl
sample_kind Second kinds.Dot e = refl
sample_kind Second kinds.Assign e = refl
sample_kind Second kinds.From e = refl
sample_kind Second kinds.Arrow e = refl
sample_kind Second kinds.Bang e = refl
sample_kind Second kinds.End e = refl

-- the edition has tokens of the kind of each word
pub record IsHeld (c : Kind) : Type 0 where
  pub held : has_tokens First (kind_for (parser.AWord c)) ≡ true

either : (b : Bool) (x y : Kind) → IsHeld x → IsHeld y → IsHeld (cond b x y)
either true x y h g = h
either false x y h g = g

pub word_held : (w : List ℕ) → IsHeld (kind First w)
word_held w =
    either (bytes_eq w (codes "for")) IsFor _ (record { held = refl }) (
    either (bytes_eq w (codes "where")) IsWhere _ (record { held = refl }) (
    either (bytes_eq w (codes "if")) IsIf _ (record { held = refl }) (
    either (bytes_eq w (codes "then")) IsThen _ (record { held = refl }) (
    either (bytes_eq w (codes "else")) IsElse _ (record { held = refl }) (
    either (bytes_eq w (codes "fun")) IsFun _ (record { held = refl }) (
    either (bytes_eq w (codes "let")) IsLet _ (record { held = refl }) (
    either (bytes_eq w (codes "table")) IsTable _ (record { held = refl }) (
    either (bytes_eq w (codes "empty")) (IsAggregate Emptiness) _ (record { held = refl }) (
    either (bytes_eq w (codes "true")) (IsTruth true) _ (record { held = refl }) (
    either (bytes_eq w (codes "false")) (IsTruth false) _ (record { held = refl }) (
    either (bytes_eq w (codes "int")) (IsBase column.Int) _ (record { held = refl }) (
    either (bytes_eq w (codes "bool")) (IsBase column.Bool) _ (record { held = refl }) (
    either (bytes_eq w (codes "text")) (IsBase column.Text) _ (record { held = refl }) (
    record { held = refl }))))))))))))))

pub second_held : (k : TokenKind) → has_tokens Second k ≡ true
second_held k = refl

pub token_held : (ed : Edition) (t : Token) → has_tokens ed (kind_for (token_kind ed t)) ≡ true
token_held First (Word p w) = let h = word_held w in h.held
token_held First (Value p (Number n i)) = refl
token_held First (Value p (Literal s)) = refl
token_held First (Oper p op) = oper op
  where
    oper : (op : query.Operator) → has_tokens First (kind_for (parser.AnOperator op)) ≡ true
    oper Union = refl
    oper (Of Or) = refl
    oper (Of And) = refl
    oper (Of Eq) = refl
    oper (Of Ne) = refl
    oper (Of Lt) = refl
    oper (Of Le) = refl
    oper (Of Gt) = refl
    oper (Of Ge) = refl
    oper (Of Add) = refl
    oper (Of Sub) = refl
    oper (Of Mul) = refl
token_held First (Sign p m) = sign m
  where
    sign : (m : query.Mark) → has_tokens First (kind_for (parser.AMark m)) ≡ true
    sign query.Opening = refl
    sign query.Closing = refl
    sign query.OpeningBag = refl
    sign query.ClosingBag = refl
    sign query.Comma = refl
    sign query.Colon = refl
    sign query.Semicolon = refl
    sign query.Dot = refl
    sign query.Assign = refl
    sign query.From = refl
    sign query.Arrow = refl
    sign query.Bang = refl
token_held First (End p) = refl
token_held Second t = second_held (kind_for (token_kind Second t))

-- each kind stands in the table
pub in_table : (k : TokenKind) → Contains KINDS k
in_table kinds.For = (0, lit< tt, refl)
in_table kinds.Where = (1, lit< tt, refl)
in_table kinds.If = (2, lit< tt, refl)
in_table kinds.Then = (3, lit< tt, refl)
in_table kinds.Else = (4, lit< tt, refl)
in_table kinds.Fun = (5, lit< tt, refl)
in_table kinds.Let = (6, lit< tt, refl)
in_table kinds.Table = (7, lit< tt, refl)
in_table kinds.Empty = (8, lit< tt, refl)
in_table kinds.Count = (9, lit< tt, refl)
in_table kinds.Sum = (10, lit< tt, refl)
in_table kinds.True = (11, lit< tt, refl)
in_table kinds.False = (12, lit< tt, refl)
in_table kinds.Int = (13, lit< tt, refl)
in_table kinds.Bool = (14, lit< tt, refl)
in_table kinds.Text = (15, lit< tt, refl)
in_table kinds.Name = (16, lit< tt, refl)
in_table kinds.Number = (17, lit< tt, refl)
in_table kinds.Literal = (18, lit< tt, refl)
in_table kinds.Union = (19, lit< tt, refl)
in_table kinds.Or = (20, lit< tt, refl)
in_table kinds.And = (21, lit< tt, refl)
in_table kinds.Equal = (22, lit< tt, refl)
in_table kinds.Unequal = (23, lit< tt, refl)
in_table kinds.Less = (24, lit< tt, refl)
in_table kinds.AtMost = (25, lit< tt, refl)
in_table kinds.Greater = (26, lit< tt, refl)
in_table kinds.AtLeast = (27, lit< tt, refl)
in_table kinds.Plus = (28, lit< tt, refl)
in_table kinds.Minus = (29, lit< tt, refl)
in_table kinds.Times = (30, lit< tt, refl)
in_table kinds.Opening = (31, lit< tt, refl)
in_table kinds.Closing = (32, lit< tt, refl)
in_table kinds.OpeningBag = (33, lit< tt, refl)
in_table kinds.ClosingBag = (34, lit< tt, refl)
in_table kinds.Comma = (35, lit< tt, refl)
in_table kinds.Colon = (36, lit< tt, refl)
in_table kinds.Semicolon = (37, lit< tt, refl)
in_table kinds.Dot = (38, lit< tt, refl)
in_table kinds.Assign = (39, lit< tt, refl)
in_table kinds.From = (40, lit< tt, refl)
in_table kinds.Arrow = (41, lit< tt, refl)
in_table kinds.Bang = (42, lit< tt, refl)
in_table kinds.End = (43, lit< tt, refl)
