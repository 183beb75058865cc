-- What is said of kinds of tokens, and of the tokens of a text.
use Rattle.std.specs.Prelude.{ℕ, ◌==◌, Bool, false, if◌then◌else◌, List, []}
use Rattle.std.specs.Prelude.{◌∷◌, codes}
use Rattle.nq_model.specs.QueryTokens.{Operator, Union, Of, Mark, Number, Literal, Token, Word}
use Rattle.nq_model.specs.QueryTokens.{Value, Oper, Sign, End, place_of}
use Rattle.nq_model.specs.QueryTokens as query
use Rattle.nq_model.specs.declared.term.Binary.TheVariants.{Add, Sub, Mul, Eq, Ne, Lt, Le, Gt, Ge}
use Rattle.nq_model.specs.declared.term.Binary.TheVariants.{And, Or}
use Rattle.expected_tokens.specs.declared.kinds.TokenKind.{TokenKind}
use Rattle.expected_tokens.specs.declared.kinds.TokenKind.TheVariants as kinds
use Rattle.explanations.specs.declared.words.Around.{Around as Words}

abbrev pub kind_words : TokenKind → List ℕ
kind_words kinds.For = codes "for"
kind_words kinds.Where = codes "where"
kind_words kinds.If = codes "if"
kind_words kinds.Then = codes "then"
kind_words kinds.Else = codes "else"
kind_words kinds.Fun = codes "fun"
kind_words kinds.Let = codes "let"
kind_words kinds.Table = codes "table"
kind_words kinds.Empty = codes "empty"
kind_words kinds.Count = codes "count"
kind_words kinds.Sum = codes "sum"
kind_words kinds.True = codes "true"
kind_words kinds.False = codes "false"
kind_words kinds.Int = codes "int"
kind_words kinds.Bool = codes "bool"
kind_words kinds.Text = codes "text"
kind_words kinds.Name = codes "a name of your own"
kind_words kinds.Number = codes "a number"
kind_words kinds.Literal = codes "a text in quotes"
kind_words kinds.Union = codes "++"
kind_words kinds.Or = codes "||"
kind_words kinds.And = codes "&&"
kind_words kinds.Equal = codes "=="
kind_words kinds.Unequal = codes "!="
kind_words kinds.Less = codes "<"
kind_words kinds.AtMost = codes "<="
kind_words kinds.Greater = codes ">"
kind_words kinds.AtLeast = codes ">="
kind_words kinds.Plus = codes "+"
kind_words kinds.Minus = codes "-"
kind_words kinds.Times = codes "*"
kind_words kinds.Opening = codes "("
kind_words kinds.Closing = codes ")"
kind_words kinds.OpeningBag = codes "["
kind_words kinds.ClosingBag = codes "]"
kind_words kinds.Comma = codes "a comma"
kind_words kinds.Colon = codes "a colon"
kind_words kinds.Semicolon = codes "a semicolon"
kind_words kinds.Dot = codes "a dot"
kind_words kinds.Assign = codes "="
kind_words kinds.From = codes "<-"
kind_words kinds.Arrow = codes "->"
kind_words kinds.Bang = codes "!"
kind_words kinds.End = codes "the end of the text"

abbrev pub operator_words : Operator → List ℕ
operator_words Union = codes "++"
operator_words (Of Or) = codes "||"
operator_words (Of And) = codes "&&"
operator_words (Of Eq) = codes "=="
operator_words (Of Ne) = codes "!="
operator_words (Of Lt) = codes "<"
operator_words (Of Le) = codes "<="
operator_words (Of Gt) = codes ">"
operator_words (Of Ge) = codes ">="
operator_words (Of Add) = codes "+"
operator_words (Of Sub) = codes "-"
operator_words (Of Mul) = codes "*"

abbrev pub mark_words : Mark → List ℕ
mark_words query.Opening = codes "("
mark_words query.Closing = codes ")"
mark_words query.OpeningBag = codes "["
mark_words query.ClosingBag = codes "]"
mark_words query.Comma = codes "a comma"
mark_words query.Colon = codes "a colon"
mark_words query.Semicolon = codes "a semicolon"
mark_words query.Dot = codes "a dot"
mark_words query.Assign = codes "="
mark_words query.From = codes "<-"
mark_words query.Arrow = codes "->"
mark_words query.Bang = codes "!"

-- what is said of a token: a word stands for itself
abbrev pub token_words : Token → List ℕ
token_words (Word p w) = w
token_words (Value p (Number n digits)) = codes "a number"
token_words (Value p (Literal t)) = codes "a text in quotes"
token_words (Oper p op) = operator_words op
token_words (Sign p m) = mark_words m
token_words (End p) = codes "the end of the text"

-- the words of a token, and of the one before it
pub record Around : Type 0 where
  pub before : List ℕ
  pub found : List ℕ

-- those of the first token at a place, behind a token of these words; empty where there is none
abbrev pub around_from : ℕ → List ℕ → List Token → Around
around_from place before [] = record { before = before; found = [] }
around_from place before (t ∷ ts) =
    if place_of t == place then record { before = before; found = token_words t }
    else around_from place (token_words t) ts

unfoldable pub around : ℕ → List Token → Around
around place tokens = around_from place [] tokens

-- the words of the token behind the first at a place; empty where there is none
abbrev pub behind_from : Bool → ℕ → List Token → List ℕ
behind_from here place [] = []
behind_from here place (t ∷ ts) =
    if here then token_words t else behind_from (place_of t == place) place ts

abbrev pub behind : ℕ → List Token → List ℕ
behind place tokens = behind_from false place tokens

-- words as the program has them
abbrev pub around_view : Words → Around
around_view words = record { before = words.before.now; found = words.found.now }
