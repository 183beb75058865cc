-- The kinds of tokens: a word counts by what it is where a variable might stand, and places count
-- for nothing.
use Rattle.nq_model.specs.QueryTokens.{Operator, Mark, Number, Literal, Token, Word, Value, Oper}
use Rattle.nq_model.specs.QueryTokens.{Sign, End}
use Rattle.nq_model.specs.QueryGrammar.{Edition, Kind, kind}

pub data TokenKind : Type 0 where
  AWord : Kind → TokenKind
  ANumber : TokenKind
  ALiteral : TokenKind
  AnOperator : Operator → TokenKind
  AMark : Mark → TokenKind
  TheEnd : TokenKind

abbrev pub token_kind : Edition → Token → TokenKind
token_kind ed (Word p w) = AWord (kind ed w)
token_kind ed (Value p (Number n digits)) = ANumber
token_kind ed (Value p (Literal t)) = ALiteral
token_kind ed (Oper p op) = AnOperator op
token_kind ed (Sign p m) = AMark m
token_kind ed (End p) = TheEnd
