-- The kinds of tokens: neither places count, nor what names and literals say.
use Rattle.std.specs.Prelude.{ℕ, Bool, cond, ◌&&◌, ◌==◌}
use Rattle.nq_model.specs.declared.term.Binary.{Binary}
use Rattle.sql_profile.specs.Tokens.{Keyword, Number, Literal, Truth, Token, Value, Name, Key, Oper}
use Rattle.sql_profile.specs.Tokens.{Open, Close, Comma, Dot, Semi, End}

pub data TokenKind : Type 0 where
  AKeyword : Keyword → TokenKind
  ATruth : Bool → TokenKind
  AZero : TokenKind
  ANumber : TokenKind
  ALiteral : TokenKind
  AName : TokenKind
  AnOperator : Binary → TokenKind
  AnOpening : TokenKind
  AClosing : TokenKind
  AComma : TokenKind
  ADot : TokenKind
  ASemicolon : TokenKind
  TheEnd : TokenKind

-- a `0` in one digit may stand behind a sum, and no other number may
abbrev pub number_kind : ℕ → ℕ → TokenKind
number_kind n digits = cond (n == 0 && digits == 1) AZero ANumber

abbrev pub token_kind : Token → TokenKind
token_kind (Value p (Number n digits)) = number_kind n digits
token_kind (Value p (Literal t)) = ALiteral
token_kind (Value p (Truth b)) = ATruth b
token_kind (Name p n) = AName
token_kind (Key p k) = AKeyword k
token_kind (Oper p op) = AnOperator op
token_kind (Open p) = AnOpening
token_kind (Close p) = AClosing
token_kind (Comma p) = AComma
token_kind (Dot p) = ADot
token_kind (Semi p) = ASemicolon
token_kind (End p) = TheEnd
