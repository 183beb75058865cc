-- Tables found by their places.
use Rattle.std.proofs.Common.{◌≡◌, ℕ, suc, ◌+◌, ◌<◌, Bool, true, false, cond, List, [], ◌∷◌, Option, Some, None, slice_get, drop, length, get_or, refl, ap, sym, ◌∙◌, arith, drop-cons}
use Rattle.std.specs.Str.{bytes_eq}
use Rattle.std.specs.Cmp.Lexicographic.{nat_list_eq_equiv}
use Rattle.nq_model.specs.Typing.{shape_named}
use Rattle.nq_model.specs.declared.table.TableShape.{TableShape}
use Rattle.nq_types.specs.Indexes.{place_from}

pub bytes_eq_other : (a b : List ℕ) → bytes_eq a b ≡ bytes_eq b a
bytes_eq_other a b = nat_list_eq_equiv.symm a b

-- the table at the place that is told is the first of that name
pub found_at : (first : ℕ) (name : List ℕ) (shapes : List TableShape) (place : ℕ) → place_from first name shapes ≡ Some place →
    (k : ℕ) × (place ≡ first + k) × (slice_get shapes k ≡ shape_named name shapes)
found_at first name [] place e = cc
found_at first name (shape ∷ shapes) place e = by (bytes_eq name shape.name) refl (found_at (first + 1) name shapes place)
  where
    by : (b : Bool) → bytes_eq name shape.name ≡ b → (place_from (first + 1) name shapes ≡ Some place → (k : ℕ) × (place ≡ (first + 1) + k) × (slice_get shapes k ≡ shape_named name shapes)) →
        (k : ℕ) × (place ≡ first + k) × (slice_get (shape ∷ shapes) k ≡ shape_named name (shape ∷ shapes))
    by true is later =
        let g : Some first ≡ Some place = sym (ap (λ c. cond c (Some first) (place_from (first + 1) name shapes)) is) ∙ e in
        let h : first ≡ place = cc in
        (0, omega (arith, h), sym (ap (λ c. cond c (Some shape) (shape_named name shapes)) is))
    by false is later =
        let r = later (sym (ap (λ c. cond c (Some first) (place_from (first + 1) name shapes)) is) ∙ e) in
        (suc r.0, omega (arith, r.1), r.2 ∙ sym (ap (λ c. cond c (Some shape) (shape_named name shapes)) is))

pub found_there : (name : List ℕ) (shapes : List TableShape) (place : ℕ) → place_from 0 name shapes ≡ Some place → slice_get shapes place ≡ shape_named name shapes
found_there name shapes place e =
    let r = found_at 0 name shapes place e in
    let same : place ≡ r.0 = omega (arith, r.1) in
    ap (slice_get shapes) same ∙ r.2

pub found_nowhere : (first : ℕ) (name : List ℕ) (shapes : List TableShape) → place_from first name shapes ≡ None → shape_named name shapes ≡ None
found_nowhere first name [] e = refl
found_nowhere first name (shape ∷ shapes) e = by (bytes_eq name shape.name) refl (found_nowhere (first + 1) name shapes)
  where
    by : (b : Bool) → bytes_eq name shape.name ≡ b → (place_from (first + 1) name shapes ≡ None → shape_named name shapes ≡ None) → shape_named name (shape ∷ shapes) ≡ None
    by true is later =
        let g : Some first ≡ None = sym (ap (λ c. cond c (Some first) (place_from (first + 1) name shapes)) is) ∙ e in cc
    by false is later =
        ap (λ c. cond c (Some shape) (shape_named name shapes)) is
        ∙ later (sym (ap (λ c. cond c (Some first) (place_from (first + 1) name shapes)) is) ∙ e)

-- one more table, before those whose places are told
pub place_more : (shapes : List TableShape) (place : ℕ) (shape : TableShape) (name : List ℕ) → place < length shapes → shape ≡ get_or shapes place shape →
    place_from place name (drop place shapes) ≡ cond (bytes_eq shape.name name) (Some place) (place_from (place + 1) name (drop (place + 1) shapes))
place_more shapes place shape name h is =
    ap (place_from place name) (drop-cons shapes place shape h ∙ ap (λ (s : TableShape). s ∷ drop (suc place) shapes) (sym is))
    ∙ ap (λ c. cond c (Some place) (place_from (place + 1) name (drop (suc place) shapes))) (bytes_eq_other name shape.name)
    ∙ (let e : suc place ≡ place + 1 = omega arith in ap (λ n. cond (bytes_eq shape.name name) (Some place) (place_from (place + 1) name (drop n shapes))) e)

pub told_more : (shapes : List TableShape) (p q : ℕ) (shape : TableShape) (name text : List ℕ) (old new : Option ℕ) → p < length shapes → shape ≡ get_or shapes p shape →
    p + 1 ≡ q → text ≡ shape.name → old ≡ place_from q name (drop q shapes) → new ≡ cond (bytes_eq text name) (Some p) old → new ≡ place_from p name (drop p shapes)
told_more shapes p q shape name text old new h is next named before now =
    now ∙ ap (λ (l : List ℕ). cond (bytes_eq l name) (Some p) old) named
    ∙ ap (cond (bytes_eq shape.name name) (Some p)) (before ∙ ap (λ n. place_from n name (drop n shapes)) (sym next))
    ∙ sym (place_more shapes p shape name h is)
