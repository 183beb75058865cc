-- Choices between records, field by field.
use Rattle.std.proofs.Common.{◌≡◌, List, [], ◌∷◌, ◌++◌, refl, sym, ap, ap₂, ◌∙◌, reverse, MatchOption, Option, Some, None, length, arith}
use Rattle.std.proofs.lemmas.List.{reverse-append}
use Rattle.nq_model.specs.NamedRows.{Label}
use Rattle.nq_ir.specs.RawForms.{RawBase, RawBody, raw_field, choice, choice_of_fields}
use Rattle.normalise.specs.Choices.{choice_list}
use Rattle.normalise.specs.Raw.{fields_of, fields_view, moved_body}
use Rattle.normalise.specs.declared.raw.MovedBody.{MovedBody}

pub choices_are : (x : RawBase) (fs gs : List (Label × RawBody)) → fields_of (choice_list x fs gs) ≡ choice_of_fields x (fields_of fs) (fields_of gs)
choices_are x [] gs = refl
choices_are x (f ∷ fs) [] = refl
choices_are x (f ∷ fs) (g ∷ gs) = ap (raw_field f.0 (choice x f.1 g.1)) (choices_are x fs gs)

pub choice_none : (x : RawBase) (fs : List (Label × RawBody)) → choice_list x fs [] ≡ fs
choice_none x [] = refl
choice_none x (f ∷ fs) = refl

reverse_last : {A : Type 0} (xs : List A) (x : A) → reverse (xs ++ x ∷ []) ≡ x ∷ reverse xs
reverse_last xs x = reverse-append xs (x ∷ [])

-- one more field is chosen
pub choice_step : (x : RawBase) (f : Label × MovedBody) (rest old new : List (Label × MovedBody)) (o : Option (Label × MovedBody)) (r : Label × MovedBody) → MatchOption o ((old ≡ []) × (new ≡ [])) (λ g. old ≡ new ++ g ∷ []) → (r.0 ≡ f.0) × MatchOption o (moved_body r.1 ≡ moved_body f.1) (λ g. moved_body r.1 ≡ choice x (moved_body f.1) (moved_body g.1)) → choice_list x (fields_view (f ∷ rest)) (fields_view (reverse old)) ≡ (r.0, moved_body r.1) ∷ choice_list x (fields_view rest) (fields_view (reverse new))
choice_step x f rest old new None r p q =
    ap (λ (z : List (Label × MovedBody)). choice_list x (fields_view (f ∷ rest)) (fields_view (reverse z))) p.0
    ∙ ap₂ (λ (l : Label) z. (l, z) ∷ fields_view rest) (sym q.0) (sym q.1)
    ∙ ap (λ (z : List (Label × RawBody)). (r.0, moved_body r.1) ∷ z) (sym (choice_none x (fields_view rest)))
    ∙ ap (λ (z : List (Label × MovedBody)). (r.0, moved_body r.1) ∷ choice_list x (fields_view rest) (fields_view (reverse z))) (sym p.1)
choice_step x f rest old new (Some g) r p q =
    ap (λ (z : List (Label × MovedBody)). choice_list x (fields_view (f ∷ rest)) (fields_view z)) (ap reverse p ∙ reverse_last new g)
    ∙ ap₂ (λ (l : Label) z. (l, z) ∷ choice_list x (fields_view rest) (fields_view (reverse new))) (sym q.0) (sym q.1)

pub none_left : {A : Type 0} (xs : List A) → length xs ≡ 0 → xs ≡ []
none_left [] e = refl
none_left (x ∷ xs) e = absurd (omega arith)
