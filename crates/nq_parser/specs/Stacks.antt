-- The levels of a stack as a list of forms.
use Rattle.std.specs.Prelude.{◌≡◌, ℕ, ⊤, List, [], ◌∷◌, map, reverse, Option, Some, None}
use Rattle.std.specs.Borrow.{Bor}
use Rattle.nq_parser.specs.Machine.{Frame, InParen, InBag}
use Rattle.nq_parser.specs.Forms.{form_view, needs, needs_types}
use Rattle.nq_parser.specs.declared.form.Form.{Form}
use Rattle.nq_parser.specs.declared.stack.Level.{Level}

-- the forms, the innermost first
abbrev pub forms_of : List Level → List Frame
forms_of ls = map (λ l. form_view l.form) ls

abbrev pub frames : List Level → List Frame
frames levels = forms_of (reverse levels)

-- what each level and those around it need, the innermost first
abbrev pub marks : List Level → List (ℕ × ℕ)
marks levels = map (λ l. (l.needs, l.types)) (reverse levels)

abbrev pub needed : List Frame → List (ℕ × ℕ)
needed [] = []
needed (f ∷ k) = (needs (f ∷ k), needs_types (f ∷ k)) ∷ needed k

-- the innermost form was taken off, or there was none
abbrev pub Popped : Option Form → List Frame → List Frame → Type 0
Popped (Some f) old new = old ≡ form_view f ∷ new
Popped None old new = (old ≡ []) × (new ≡ [])

-- the innermost form, if there is one
abbrev pub TopIs : Option (Bor Form) → List Frame → Type 0
TopIs (Some f) k = (below : List Frame) × (k ≡ form_view f.now ∷ below)
TopIs None k = k ≡ []

abbrev pub NoParen : List Frame → Type 0
NoParen (InParen p ∷ k) = ⊥
NoParen k = ⊤

-- the innermost form was a parenthesis and was taken off, or it is none
abbrev pub TakenParen : Option ℕ → List Frame → List Frame → Type 0
TakenParen (Some p) old new = old ≡ InParen p ∷ new
TakenParen None old new = (old ≡ new) × NoParen old

abbrev pub NoBag : List Frame → Type 0
NoBag (InBag p ∷ k) = ⊥
NoBag k = ⊤

abbrev pub TakenBag : Option ℕ → List Frame → List Frame → Type 0
TakenBag (Some p) old new = old ≡ InBag p ∷ new
TakenBag None old new = (old ≡ new) × NoBag old
