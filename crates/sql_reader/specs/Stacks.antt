-- The levels of a stack as a list of forms.
use Rattle.std.specs.Prelude.{◌≡◌, ℕ, List, [], ◌∷◌, map, reverse, Option, Some, None}
use Rattle.std.specs.Borrow.{Bor}
use Rattle.sql_reader.specs.Needs.{height, needs}
use Rattle.sql_reader.specs.Steps as reader
use Rattle.sql_reader.specs.Views.{begun_view, keys_view, part_view, ranged_view}
use Rattle.sql_reader.specs.declared.form.Form.{Form}
use Rattle.sql_reader.specs.declared.form.Form.TheVariants as form
use Rattle.sql_reader.specs.declared.stack.Level.{Level}

abbrev pub form_view : Form → reader.Form
form_view (form.Paren p) = reader.Paren p
form_view (form.Minus p) = reader.Minus p
form_view (form.Not p) = reader.Not p
form_view (form.When p) = reader.When p
form_view (form.Then p t) = reader.Then p (part_view t)
form_view (form.Else p t y) = reader.Else p (part_view t) (part_view y)
form_view (form.Right l p op) = reader.Right (part_view l) p op
form_view (form.Item g) = reader.Item (begun_view g)
form_view (form.OrderKey ks g) = reader.OrderKey (keys_view ks) (begun_view g)
form_view (form.Where g from) = reader.Where (ranged_view g) from
form_view (form.NotExists p) = reader.NotExists p
form_view (form.Sum p) = reader.Sum p

-- the forms, the innermost first
abbrev pub forms_of : List Level → List reader.Form
forms_of ls = map (λ l. form_view l.form) ls

abbrev pub forms : List Level → List reader.Form
forms levels = forms_of (reverse levels)

-- what each level and those around it need and how many they are, the innermost first
abbrev pub marks : List Level → List (ℕ × ℕ)
marks levels = map (λ l. (l.needs, l.height)) (reverse levels)

abbrev pub needed : List reader.Form → List (ℕ × ℕ)
needed [] = []
needed (f ∷ k) = (needs (f ∷ k), height (f ∷ k)) ∷ needed k

-- the innermost form was taken off, or there was none
abbrev pub Popped : Option Form → List reader.Form → List reader.Form → Type 0
Popped (Some f) old new = old ≡ form_view f ∷ new
Popped None old new = (old ≡ []) × (new ≡ [])

-- the innermost form, if there is one
abbrev pub TopIs : Option (Bor Form) → List reader.Form → Type 0
TopIs (Some f) k = (below : List reader.Form) × (k ≡ form_view f.now ∷ below)
TopIs None k = k ≡ []
