-- Steps of the machine inside a type.
use Rattle.std.proofs.Common.{◌≡◌, ℕ, List, [], ◌∷◌, refl, ◌∙◌, None}
use Rattle.std.specs.Prelude.{⊤}
use Rattle.nq_model.specs.QueryTokens.{Token, Sign, Closing, ClosingBag, Comma, Arrow}
use Rattle.nq_model.specs.QueryGrammar.{Edition, kind, TypeSyntax, TFun}
use Rattle.nq_parser.specs.Machine.{Frame, TypeFrame, TInParen, TInRight, Around, InNil, InFun, after_type, after_around, start_type, start_base, begin_base}
use Rattle.query_syntax.specs.Symbols.{symbol_view}
use Rattle.query_syntax.specs.declared.symbol.Symbol.{Symbol}
use Rattle.query_syntax.specs.declared.symbol.Symbol.TheVariants as symbols
use Rattle.nq_parser.specs.TypeSettling.{NoArrow, SameBehind}
use Rattle.nq_parser.specs.TypeStacks.{NoTypeParen}

pub no_paren_closing : (ed : Edition) (j : List TypeFrame) (o : Around) (k : List Frame) (q : ℕ) → NoTypeParen j → start_type ed j o k (Sign q Closing) ≡ None
no_paren_closing ed [] o k q h = refl
no_paren_closing ed (TInParen p ∷ j) o k q h = absurd h
no_paren_closing ed (f ∷ j) o k q h = refl

pub no_paren_word : (ed : Edition) (j : List TypeFrame) (o : Around) (k : List Frame) (p : ℕ) (w : List ℕ) → NoTypeParen j → start_base ed j o k p w ≡ begin_base (kind ed w) j o k p
no_paren_word ed [] o k p w h = refl
no_paren_word ed (TInParen q ∷ j) o k p w h = absurd h
no_paren_word ed (f ∷ j) o k p w h = refl

-- a function type ends before every token but `->`
pub right_ends : (j : List TypeFrame) (a : TypeSyntax) (p : ℕ) (t : TypeSyntax) → SameBehind (TInRight a p ∷ j) t j (TFun a p t)
right_ends j a p t o k (Sign q Arrow) h = absurd h
right_ends j a p t o k token h = refl

pub same_then : (j i l : List TypeFrame) (t s u : TypeSyntax) → SameBehind j t i s → SameBehind i s l u → SameBehind j t l u
same_then j i l t s u h g o k token n = h o k token n ∙ g o k token n

-- a token that has nothing to do with types
abbrev pub IsForeign : Token → Type 0
IsForeign (Sign p Arrow) = ⊥
IsForeign (Sign p Closing) = ⊥
IsForeign (Sign p ClosingBag) = ⊥
IsForeign (Sign p Comma) = ⊥
IsForeign t = ⊤

around_foreign : (o : Around) (t : TypeSyntax) (k : List Frame) (token : Token) → IsForeign token → after_around o t k token ≡ None
around_foreign (InNil p c) t k (Sign q Arrow) h = absurd h
around_foreign (InNil p c) t k (Sign q Closing) h = absurd h
around_foreign (InNil p c) t k (Sign q ClosingBag) h = absurd h
around_foreign (InNil p c) t k (Sign q Comma) h = absurd h
around_foreign (InNil p c) t k token h = refl
around_foreign (InFun p v y a c) t k (Sign q Arrow) h = absurd h
around_foreign (InFun p v y a c) t k (Sign q Closing) h = absurd h
around_foreign (InFun p v y a c) t k (Sign q ClosingBag) h = absurd h
around_foreign (InFun p v y a c) t k (Sign q Comma) h = absurd h
around_foreign (InFun p v y a c) t k token h = refl

foreign_arrow : (token : Token) → IsForeign token → NoArrow token
foreign_arrow (Sign p Arrow) h = absurd h
foreign_arrow token h = tt

pub type_foreign : (j : List TypeFrame) (t : TypeSyntax) (o : Around) (k : List Frame) (token : Token) → IsForeign token → after_type j t o k token ≡ None
type_foreign (TInRight a p ∷ j) t o k token h = right_ends j a p t o k token (foreign_arrow token h) ∙ type_foreign j (TFun a p t) o k token h
type_foreign [] t o k (Sign q Arrow) h = absurd h
type_foreign [] t o k token h = around_foreign o t k token h
type_foreign (f ∷ j) t o k (Sign q Arrow) h = absurd h
type_foreign (f ∷ j) t o k (Sign q Closing) h = absurd h
type_foreign (f ∷ j) t o k (Sign q ClosingBag) h = absurd h
type_foreign (f ∷ j) t o k (Sign q Comma) h = absurd h
type_foreign (f ∷ j) t o k token h = refl

pub foreign : (p : ℕ) (s : Symbol) → (s ≡ symbols.Arrow → ⊥) → (s ≡ symbols.Closing → ⊥) → (s ≡ symbols.ClosingBag → ⊥) → (s ≡ symbols.Comma → ⊥) → IsForeign (symbol_view p s)
foreign p symbols.Arrow a b c d = a refl
foreign p symbols.Closing a b c d = b refl
foreign p symbols.ClosingBag a b c d = c refl
foreign p symbols.Comma a b c d = d refl
foreign p s a b c d = tt

-- a comma ends no type that stands in an expression
pub around_comma : (o : Around) (t : TypeSyntax) (k : List Frame) (q : ℕ) → after_around o t k (Sign q Comma) ≡ None
around_comma (InNil p c) t k q = refl
around_comma (InFun p v y a c) t k q = refl
