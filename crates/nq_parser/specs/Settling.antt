-- Which forms end before a token.
use Rattle.std.specs.Prelude.{◌≡◌, Bool, true, false, List, [], ◌∷◌, Option, Some, None}
use Rattle.nq_model.specs.QueryTokens.{Token}
use Rattle.nq_parser.specs.Machine.{Frame, ends}
use Rattle.nq_parser.specs.Forms.{form_view}
use Rattle.nq_parser.specs.declared.form.Form.{Form}

-- whether the innermost form ends before the token
abbrev pub top_ends : List Frame → Token → Bool
top_ends [] t = false
top_ends (f ∷ k) t = ends f t

-- the innermost form, which ends before the token, was taken off; or it does not end, and nothing was
abbrev pub Taken : Option Form → List Frame → List Frame → Token → Type 0
Taken (Some f) old new t = (old ≡ form_view f ∷ new) × (ends (form_view f) t ≡ true)
Taken None old new t = (old ≡ new) × (top_ends old t ≡ false)
