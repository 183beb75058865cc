-- Function types that end before a token.
use Rattle.std.specs.Prelude.{◌≡◌, ⊤, List, [], ◌∷◌}
use Rattle.nq_model.specs.QueryTokens.{Arrow, Token, Sign}
use Rattle.nq_model.specs.QueryGrammar.{TypeSyntax}
use Rattle.nq_parser.specs.Machine.{Frame, TypeFrame, TInBag, TInParen, TInField, Around, after_type}
use Rattle.nq_parser.specs.Forms.{type_head_view}
use Rattle.nq_parser.specs.declared.type_settle.TypeEnd.{TypeEnd}
use Rattle.nq_parser.specs.declared.type_settle.TypeEnd.TheVariants as ending

abbrev pub NoArrow : Token → Type 0
NoArrow (Sign p Arrow) = ⊥
NoArrow t = ⊤

-- behind these types inside these forms the same comes of every token but `->`
abbrev pub SameBehind : List TypeFrame → TypeSyntax → List TypeFrame → TypeSyntax → Type 0
SameBehind j t i s = (o : Around) (k : List Frame) (token : Token) → NoArrow token → after_type j t o k token ≡ after_type i s o k token

-- the forms that it stands for, inside others; where there is none, there are no others
abbrev pub end_view : TypeEnd → List TypeFrame → List TypeFrame
end_view (ending.Bag p) j = TInBag p ∷ j
end_view (ending.Paren p) j = TInParen p ∷ j
end_view (ending.Field h v l c) j = TInField (type_head_view h) v l c ∷ j
end_view ending.Whole j = []
