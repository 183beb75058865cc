-- The levels of a stack as a list of forms of types.
use Rattle.std.specs.Prelude.{◌≡◌, ℕ, ⊤, List, [], ◌∷◌, map, reverse, Option, Some, None}
use Rattle.std.specs.Borrow.{Bor}
use Rattle.nq_parser.specs.Machine.{TypeFrame, TInParen}
use Rattle.nq_parser.specs.Forms.{type_form_view, type_needs}
use Rattle.nq_parser.specs.declared.form.TypeForm.{TypeForm}
use Rattle.nq_parser.specs.declared.type_stack.TypeLevel.{TypeLevel}

-- the forms, the innermost first
abbrev pub type_forms_of : List TypeLevel → List TypeFrame
type_forms_of ls = map (λ l. type_form_view l.form) ls

abbrev pub type_frames : List TypeLevel → List TypeFrame
type_frames levels = type_forms_of (reverse levels)

-- what each level and those around it need, the innermost first
abbrev pub type_marks : List TypeLevel → List ℕ
type_marks levels = map (λ l. l.needs) (reverse levels)

abbrev pub type_needed : List TypeFrame → List ℕ
type_needed [] = []
type_needed (f ∷ j) = type_needs (f ∷ j) ∷ type_needed j

-- the innermost form was taken off, or there was none
abbrev pub PoppedType : Option TypeForm → List TypeFrame → List TypeFrame → Type 0
PoppedType (Some f) old new = old ≡ type_form_view f ∷ new
PoppedType None old new = (old ≡ []) × (new ≡ [])

-- the innermost form, if there is one
abbrev pub TypeTopIs : Option (Bor TypeForm) → List TypeFrame → Type 0
TypeTopIs (Some f) j = (below : List TypeFrame) × (j ≡ type_form_view f.now ∷ below)
TypeTopIs None j = j ≡ []

abbrev pub NoTypeParen : List TypeFrame → Type 0
NoTypeParen (TInParen p ∷ j) = ⊥
NoTypeParen j = ⊤

-- the innermost form was a parenthesis and was taken off, or it is none
abbrev pub TakenTypeParen : Option ℕ → List TypeFrame → List TypeFrame → Type 0
TakenTypeParen (Some p) old new = old ≡ TInParen p ∷ new
TakenTypeParen None old new = (old ≡ new) × NoTypeParen old
