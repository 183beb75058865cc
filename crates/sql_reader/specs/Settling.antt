-- Which forms end before a token.
use Rattle.std.specs.Prelude.{◌≡◌, Bool, true, false, List, [], ◌∷◌, Option, Some, None}
use Rattle.sql_profile.specs.Tokens.{Token}
use Rattle.sql_reader.specs.Parts.{Base, Part}
use Rattle.sql_reader.specs.Stacks.{form_view}
use Rattle.sql_reader.specs.Steps as reader
use Rattle.sql_reader.specs.Steps.{ends, after, shift}
use Rattle.sql_reader.specs.declared.form.Form.{Form}

-- whether the innermost form ends before the token
abbrev pub top_ends : List reader.Form → Token → Bool
top_ends [] t = false
top_ends (f ∷ k) t = ends f t

-- the innermost form, which ends before the token, was taken off; or it does not end, and nothing was
abbrev pub Taken : Option Form → List reader.Form → List reader.Form → Token → Type 0
Taken (Some f) old new t = (old ≡ form_view f ∷ new) × (ends (form_view f) t ≡ true)
Taken None old new t = (old ≡ new) × (top_ends old t ≡ false)

-- the token behind the one expression does what it does behind the other, which no form ends before
abbrev pub SameBehind : Base → List reader.Form → Part → List reader.Form → Part → Token → Type 0
SameBehind b k s j r t = after b k s t ≡ shift b j r t

-- the same of an expression that forms may end before
abbrev pub SameAfter : Base → List reader.Form → Part → List reader.Form → Part → Token → Type 0
SameAfter b k s j r t = after b k s t ≡ after b j r t
