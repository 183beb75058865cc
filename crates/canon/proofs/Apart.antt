-- Texts of values of one type are read in parallel: each tells its value and where it ends.
use Rattle.std.proofs.Common.{◌≡◌, ◌≢◌, ℕ, ℤ, pos, negsuc, suc, ◌<◌, ◌^◌, List, [], ◌∷◌, ◌++◌, refl, sym, ap, ap₂, ◌∙◌, subst, true, false, cond, length, arith, append_assoc, append-nil, codes, inl, inr, ◌⊎◌}
use Rattle.std.specs.Int.{IsInRange, w64}
use Rattle.std.specs.Int.RustNames.{FitsSigned}
use Rattle.std.specs.Fmt.{decimal, signed_decimal}
use Rattle.std.specs.Str.Parse.{AllDigits}
use Rattle.std.proofs.lemmas.Fmt.{decimal_is_IsNumeral, decimal_injective}
use Rattle.std.proofs.lemmas.Str.Parse.{digit_from_value}
use Rattle.std.proofs.lemmas.Bool.Decides.{eqb_tells}
use Rattle.std.proofs.lemmas.List.{append_cancel_left}
use Rattle.nq_model.specs.Types.{TypeTree, FieldTypes}
use Rattle.nq_model.specs.Values.{Nested, Fields, Elements}
use Rattle.nq_model.specs.Canonical.{doubled_quotes, written, written_fields, written_elements}
use Rattle.nq_model.specs.declared.table.Cell.TheVariants as cell
use Rattle.nq_model.specs.ValueTypes.{IsOfType, FieldsAreOfTypes, ElementsAreOfType}
use Rattle.canon.specs.Texts.{Ends}

-- digits end where something else begins
digits_apart : (ds es x y : List ℕ) → AllDigits 10 ds → AllDigits 10 es → Ends x → Ends y → ds ++ x
    ≡ es ++ y → (ds ≡ es) × (x ≡ y)
digits_apart [] [] x y d f p q e = (refl, e)
digits_apart [] (b ∷ es) x y d f p q e = absurd ((subst Ends e p).0 (digit_from_value b f.0))
digits_apart (a ∷ ds) [] x y d f p q e = absurd ((subst Ends (sym e) q).0 (digit_from_value a d.0))
digits_apart (a ∷ ds) (b ∷ es) x y d f p q e =
    let rest : ds ++ x ≡ es ++ y = cc in
    let r = digits_apart ds es x y d.1 f.1 p q rest in
    let same : ds ≡ es = r.0 in
    (cc, r.1)

decimals_apart : (m n : ℕ) (x y : List ℕ) → m < 2 ^ 64 → n < 2 ^ 64 → Ends x → Ends y → decimal m
    ++ x ≡ decimal n ++ y → (m ≡ n) × (x ≡ y)
decimals_apart m n x y k l p q e =
    let r = digits_apart (decimal m) (decimal n) x y (decimal_is_IsNumeral m k).0.1
    (decimal_is_IsNumeral n l).0.1 p q e in
    (decimal_injective m n k l r.0, r.1)

-- what begins with digits begins with a digit
first_digit : (ds : List ℕ) (b : ℕ) (x y : List ℕ) → 0 < length ds → AllDigits 10 ds → ds ++ x ≡ b
    ∷ y → IsInRange 48 57 b
first_digit [] b x y some d e = absurd (omega (arith, some))
first_digit (a ∷ ds) b x y some d e = let same : a ≡ b = cc in subst (IsInRange 48 57) same (digit_from_value a d.0)

decimal_begins : (n b : ℕ) (x y : List ℕ) → n < 2 ^ 64 → decimal n ++ x ≡ b ∷ y → IsInRange 48 57 b
decimal_begins n b x y h e =
    let r = decimal_is_IsNumeral n h in first_digit (decimal n) b x y r.0.0 r.0.1 e

integers_apart : (m n : ℤ) (x y : List ℕ) → FitsSigned w64 m → FitsSigned w64 n → Ends x → Ends y
    → signed_decimal m ++ x ≡ signed_decimal n ++ y → (m ≡ n) × (x ≡ y)
integers_apart (pos m) (pos n) x y k l p q e =
    let r = decimals_apart m n x y (omega (arith, k.sfits)) (omega (arith, l.sfits)) p q e in
    (ap pos r.0, r.1)
integers_apart (pos m) (negsuc n) x y k l p q e =
    absurd (omega (arith, decimal_begins m 45 x (decimal (suc n) ++ y) (omega (arith, k.sfits)) e))
integers_apart (negsuc m) (pos n) x y k l p q e =
    absurd (omega (
      arith,
      decimal_begins n 45 y (decimal (suc m) ++ x) (omega (arith, l.sfits))
          (sym e),
    ))
integers_apart (negsuc m) (negsuc n) x y k l p q e =
    let rest : decimal (suc m) ++ x ≡ decimal (suc n) ++ y = cc in
    let r = decimals_apart (suc m) (suc n) x y (omega (arith, k.sfits))
    (omega (arith, l.sfits)) p q rest in
    let same : m ≡ n = omega (arith, r.0) in
    (ap negsuc same, r.1)

first_bytes : (a b : ℕ) (x y : List ℕ) → a ∷ x ≡ b ∷ y → a ≡ b
first_bytes a b x y e = cc

-- how the next byte of a text is written
doubled_next : (b : ℕ) (t : List ℕ)
    → ((b ≡ 39) × (doubled_quotes (b ∷ t) ≡ 39 ∷ 39 ∷ doubled_quotes t))
    ⊎ ((b ≢ 39) × (doubled_quotes (b ∷ t) ≡ b ∷ doubled_quotes t))
doubled_next b t =
    elim (eqb_tells b 39) [
      | inl is ↦ inl (
        is.1,
        ap (λ c. cond c (39 ∷ 39 ∷ doubled_quotes t)
            (b ∷ doubled_quotes t)) is.0,
      )
      | inr is ↦ inr (
        is.1,
        ap (λ c. cond c (39 ∷ 39 ∷ doubled_quotes t)
            (b ∷ doubled_quotes t)) is.0,
      )
    ]

-- the closing quote is none of a text's own, since no quote follows it
quote_closes : (b : ℕ) (t x y : List ℕ) → Ends x → 39 ∷ x ≡ doubled_quotes (b ∷ t) ++ 39 ∷ y → ⊥
quote_closes b t x y p e =
    elim (doubled_next b t) [
      | inl is ↦ let f : 39 ∷ x ≡ 39 ∷ 39 ∷ (doubled_quotes t ++ 39 ∷ y) = e ∙ ap (λ (l : List ℕ). l ++ 39 ∷ y) is.1 in let rest : x ≡ 39 ∷ (doubled_quotes t ++ 39 ∷ y) = cc in (subst Ends rest p).1 refl
      | inr is ↦ let f : 39 ∷ x ≡ b ∷ (doubled_quotes t ++ 39 ∷ y) = e ∙ ap (λ (l : List ℕ). l ++ 39 ∷ y) is.1 in let same : b ≡ 39 = cc in is.0 same
    ]

-- one byte of two texts, where the rest is told apart
quoted_byte : (a b : ℕ) (s t x y : List ℕ) → (doubled_quotes s ++ 39 ∷ x ≡ doubled_quotes t ++ 39
    ∷ y → (s ≡ t) × (x ≡ y)) → doubled_quotes (a ∷ s) ++ 39 ∷ x ≡ doubled_quotes (b ∷ t) ++ 39 ∷ y
    → (a ∷ s ≡ b ∷ t) × (x ≡ y)
quoted_byte a b s t x y next e = go (doubled_next a s) (doubled_next b t)
  where
    further : a ≡ b → doubled_quotes s ++ 39 ∷ x ≡ doubled_quotes t ++ 39 ∷ y → (a ∷ s ≡ b ∷ t)
        × (x ≡ y)
    further h f = let r = next f in (ap₂ (λ c (l : List ℕ). c ∷ l) h r.0, r.1)

    written_as : (us vs : List ℕ) → doubled_quotes (a ∷ s) ≡ us → doubled_quotes (b ∷ t) ≡ vs → us
        ++ 39 ∷ x ≡ vs ++ 39 ∷ y
    written_as us vs g h = sym (ap (λ (l : List ℕ). l ++ 39 ∷ x) g) ∙ e
        ∙ ap (λ (l : List ℕ). l ++ 39 ∷ y) h

    go : ((a ≡ 39) × (doubled_quotes (a ∷ s) ≡ 39 ∷ 39 ∷ doubled_quotes s))
        ⊎ ((a ≢ 39) × (doubled_quotes (a ∷ s) ≡ a ∷ doubled_quotes s))
        → ((b ≡ 39) × (doubled_quotes (b ∷ t) ≡ 39 ∷ 39 ∷ doubled_quotes t))
        ⊎ ((b ≢ 39) × (doubled_quotes (b ∷ t) ≡ b ∷ doubled_quotes t)) → (a ∷ s ≡ b ∷ t) × (x ≡ y)
    go (inl g) (inl h) =
        let f : 39 ∷ 39 ∷ (doubled_quotes s ++ 39 ∷ x) ≡ 39 ∷ 39 ∷ (doubled_quotes t ++ 39 ∷ y)
        = written_as (39 ∷ 39 ∷ doubled_quotes s) (39 ∷ 39 ∷ doubled_quotes t) g.1 h.1 in
        further (g.0 ∙ sym h.0) cc
    go (inl g) (inr h) = absurd
        (h.0 (sym (first_bytes _ _ _ _ (written_as (39 ∷ 39 ∷ doubled_quotes s)
        (b ∷ doubled_quotes t) g.1 h.1))))
    go (inr g) (inl h) = absurd
        (g.0 (first_bytes _ _ _ _ (written_as (a ∷ doubled_quotes s)
        (39 ∷ 39 ∷ doubled_quotes t) g.1 h.1)))
    go (inr g) (inr h) =
        let f : a ∷ (doubled_quotes s ++ 39 ∷ x) ≡ b ∷ (doubled_quotes t ++ 39 ∷ y)
        = written_as (a ∷ doubled_quotes s) (b ∷ doubled_quotes t) g.1 h.1 in
        further (first_bytes _ _ _ _ f) cc

-- a text between quotes ends at its closing quote
quotes_apart : (s t x y : List ℕ) → Ends x → Ends y → doubled_quotes s ++ 39 ∷ x ≡ doubled_quotes t
    ++ 39 ∷ y → (s ≡ t) × (x ≡ y)
quotes_apart [] [] x y p q e = (refl, cc)
quotes_apart [] (b ∷ t) x y p q e = absurd (quote_closes b t x y p e)
quotes_apart (a ∷ s) [] x y p q e = absurd (quote_closes a s y x q (sym e))
quotes_apart (a ∷ s) (b ∷ t) x y p q e = quoted_byte a b s t x y (quotes_apart s t x y p q) e

-- the fields after the first, and the elements after the first, each with its separator
abbrev later_fields : Fields → List ℕ
later_fields Fields.none = []
later_fields (Fields.field l v fs) = codes ", " ++ (l ++
    (codes " = " ++ (written v ++ later_fields fs)))

abbrev later_elements : Elements → List ℕ
later_elements Elements.end = []
later_elements (Elements.more v vs) = codes ", " ++ (written v ++ later_elements vs)

written_first_field : (l : List ℕ) (v : Nested) (fs : Fields) → written_fields (Fields.field l v fs)
    ≡ l ++ (codes " = " ++ (written v ++ later_fields fs))
written_first_field l v Fields.none =
    ap (λ (t : List ℕ). l ++ (codes " = " ++ t)) (sym (append-nil (written v)))
written_first_field l v (Fields.field m w fs) =
    ap (λ (t : List ℕ). l ++ (codes " = " ++ (written v ++ (codes ", " ++ t))))
    (written_first_field m w fs)

written_first_element : (v : Nested) (vs : Elements) → written_elements (Elements.more v vs)
    ≡ written v ++ later_elements vs
written_first_element v Elements.end = sym (append-nil (written v))
written_first_element v (Elements.more w vs) =
    ap (λ (t : List ℕ). written v ++ (codes ", " ++ t)) (written_first_element w vs)

-- the same with what comes next
first_field_then : (l : List ℕ) (v : Nested) (fs : Fields) (z : List ℕ)
    → written_fields (Fields.field l v fs) ++ z ≡ l ++ (codes " = "
    ++ (written v ++ (later_fields fs ++ z)))
first_field_then l v fs z = ap (λ (t : List ℕ). t ++ z) (written_first_field l v fs)
    ∙ (simp append_assoc)

next_field_then : (l : List ℕ) (v : Nested) (fs : Fields) (z : List ℕ)
    → later_fields (Fields.field l v fs) ++ z ≡ codes ", "
    ++ (l ++ (codes " = " ++ (written v ++ (later_fields fs ++ z))))
next_field_then l v fs z = simp append_assoc

first_element_then : (v : Nested) (vs : Elements) (z : List ℕ)
    → written_elements (Elements.more v vs) ++ z ≡ written v ++ (later_elements vs ++ z)
first_element_then v vs z = ap (λ (t : List ℕ). t ++ z) (written_first_element v vs)
    ∙ (simp append_assoc)

next_element_then : (v : Nested) (vs : Elements) (z : List ℕ) → later_elements (Elements.more v vs)
    ++ z ≡ codes ", " ++ (written v ++ (later_elements vs ++ z))
next_element_then v vs z = simp append_assoc

bytes_differ : (a b : ℕ) (x y : List ℕ) → a ≢ b → a ∷ x ≡ b ∷ y → ⊥
bytes_differ a b x y h e = h (first_bytes a b x y e)

-- the text of no value begins with a closing brace
not_closing : (t : TypeTree) (v : Nested) (x y : List ℕ) → IsOfType t v → written v ++ x ≡ codes "}"
    ++ y → ⊥
not_closing TypeTree.int (Nested.base (cell.Int (pos n))) x y h e = let b = decimal_begins n 125 x y (omega (arith, h.sfits)) e in omega (arith, b)
not_closing TypeTree.int (Nested.base (cell.Int (negsuc n))) x y h e
    = bytes_differ 45 125 _ _ (λ r. omega (arith, r)) e
not_closing TypeTree.bool (Nested.base (cell.Bool true)) x y h e
    = bytes_differ 116 125 _ _ (λ r. omega (arith, r)) e
not_closing TypeTree.bool (Nested.base (cell.Bool false)) x y h e
    = bytes_differ 102 125 _ _ (λ r. omega (arith, r)) e
not_closing TypeTree.text (Nested.base (cell.Text t)) x y h e
    = bytes_differ 39 125 _ _ (λ r. omega (arith, r)) e
not_closing (TypeTree.rec ts) (Nested.rec fs) x y h e = bytes_differ 40 125 _ _
    (λ r. omega (arith, r)) e
not_closing (TypeTree.bag t) (Nested.bag vs) x y h e = bytes_differ 123 125 _ _
    (λ r. omega (arith, r)) e
not_closing t v x y h e = h

-- what follows a field or an element ends it
fields_end : (fs : Fields) (x : List ℕ) → Ends (later_fields fs ++ (codes ")" ++ x))
fields_end Fields.none x = (λ r. omega (arith, r), λ r. omega (arith, r))
fields_end (Fields.field l v fs) x = (λ r. omega (arith, r), λ r. omega (arith, r))

elements_end : (vs : Elements) (x : List ℕ) → Ends (later_elements vs ++ (codes "}" ++ x))
elements_end Elements.end x = (λ r. omega (arith, r), λ r. omega (arith, r))
elements_end (Elements.more v vs) x = (λ r. omega (arith, r), λ r. omega (arith, r))

-- one field of two records, where its value and the fields after it are told apart
field_apart : (l m : List ℕ) (v w : Nested) (fs gs : Fields) (x y : List ℕ) → l ≡ m
    → (written v ++ (later_fields fs ++ (codes ")" ++ x)) ≡ written w
    ++ (later_fields gs ++ (codes ")" ++ y)) → (v ≡ w)
    × (later_fields fs ++ (codes ")" ++ x) ≡ later_fields gs ++ (codes ")" ++ y)))
    → (later_fields fs ++ (codes ")" ++ x) ≡ later_fields gs ++ (codes ")" ++ y) → (fs ≡ gs)
    × (x ≡ y))
    → l ++ (codes " = " ++ (written v ++ (later_fields fs ++ (codes ")" ++ x)))) ≡ m
    ++ (codes " = " ++ (written w ++ (later_fields gs ++ (codes ")" ++ y))))
    → (Fields.field l v fs ≡ Fields.field m w gs) × (x ≡ y)
field_apart l m v w fs gs x y same value later e =
    let left : List ℕ = written v ++ (later_fields fs ++ (codes ")" ++ x)) in
    let right : List ℕ = written w ++ (later_fields gs ++ (codes ")" ++ y)) in
    let rest : codes " = " ++ left ≡ codes " = " ++ right
    = append_cancel_left l (codes " = " ++ left) (codes " = " ++ right)
    (e ∙ ap (λ (k : List ℕ). k ++ (codes " = " ++ right)) (sym same)) in
    let r = value (append_cancel_left (codes " = ") left right rest) in
    let s = later r.1 in
    let one : v ≡ w = r.0 in
    let others : fs ≡ gs = s.0 in
    (cc, s.1)

mutual
  pub apart : (t : TypeTree) (v w : Nested) (x y : List ℕ) → IsOfType t v → IsOfType t w → Ends x
      → Ends y → written v ++ x ≡ written w ++ y → (v ≡ w) × (x ≡ y)
  apart TypeTree.int (Nested.base (cell.Int m)) (Nested.base (cell.Int n)) x y h k p q e =
      let r = integers_apart m n x y h k p q e in (ap (λ z. Nested.base (cell.Int z)) r.0, r.1)
  apart TypeTree.bool (Nested.base (cell.Bool true)) (Nested.base (cell.Bool true)) x y h k p q e =
      (refl, append_cancel_left (codes "true") x y e)
  apart TypeTree.bool (Nested.base (cell.Bool true)) (Nested.base (cell.Bool false)) x y h k p q e =
      absurd (bytes_differ 116 102 _ _ (λ r. omega (arith, r)) e)
  apart TypeTree.bool (Nested.base (cell.Bool false)) (Nested.base (cell.Bool true)) x y h k p q e =
      absurd (bytes_differ 102 116 _ _ (λ r. omega (arith, r)) e)
  apart TypeTree.bool (Nested.base (cell.Bool false)) (Nested.base
      (cell.Bool false)) x y h k p q e =
      (refl, append_cancel_left (codes "false") x y e)
  apart TypeTree.text (Nested.base (cell.Text s)) (Nested.base (cell.Text u)) x y h k p q e =
      let f = append_cancel_left (codes "'") ((doubled_quotes s ++ codes "'") ++ x)
      ((doubled_quotes u ++ codes "'") ++ y) e in
      let r = quotes_apart s u x y p q (sym (append_assoc (doubled_quotes s) (codes "'") x) ∙ f
      ∙ append_assoc (doubled_quotes u) (codes "'") y) in
      (ap (λ z. Nested.base (cell.Text z)) r.0, r.1)
  apart (TypeTree.rec ts) (Nested.rec fs) (Nested.rec gs) x y h k p q e =
      let f = append_cancel_left (codes "(") ((written_fields fs ++ codes ")") ++ x)
      ((written_fields gs ++ codes ")") ++ y) e in
      let r = fields_apart ts fs gs x y h k (sym (append_assoc (written_fields fs) (codes ")") x)
      ∙ f ∙ append_assoc (written_fields gs) (codes ")") y) in
      (ap Nested.rec r.0, r.1)
  apart (TypeTree.bag t) (Nested.bag vs) (Nested.bag ws) x y h k p q e =
      let f = append_cancel_left (codes "{") ((written_elements vs ++ codes "}") ++ x)
      ((written_elements ws ++ codes "}") ++ y) e in
      let r = elements_apart t vs ws x y h k (sym (append_assoc (written_elements vs) (codes "}") x)
      ∙ f ∙ append_assoc (written_elements ws) (codes "}") y) in
      (ap Nested.bag r.0, r.1)
  apart t v w x y h k p q e = absurd (assumption (h, k))

  fields_apart : (ts : FieldTypes) (fs gs : Fields) (x y : List ℕ) → FieldsAreOfTypes ts fs
      → FieldsAreOfTypes ts gs → written_fields fs ++ (codes ")" ++ x) ≡ written_fields gs
      ++ (codes ")" ++ y) → (fs ≡ gs) × (x ≡ y)
  fields_apart FieldTypes.none Fields.none Fields.none x y h k e
      = (refl, append_cancel_left (codes ")") x y e)
  fields_apart (FieldTypes.field a t ts) (Fields.field l v fs) (Fields.field m w gs) x y h k e =
      field_apart l m v w fs gs x y (sym h.0 ∙ k.0) (apart t v w
      (later_fields fs ++ (codes ")" ++ x)) (later_fields gs ++ (codes ")" ++ y)) h.1 k.1
      (fields_end fs x) (fields_end gs y)) (later_fields_apart ts fs gs x y h.2 k.2)
      (sym (first_field_then l v fs (codes ")" ++ x)) ∙ e
      ∙ first_field_then m w gs (codes ")" ++ y))
  fields_apart ts fs gs x y h k e = absurd (assumption (h, k))

  later_fields_apart : (ts : FieldTypes) (fs gs : Fields) (x y : List ℕ) → FieldsAreOfTypes ts fs
      → FieldsAreOfTypes ts gs → later_fields fs ++ (codes ")" ++ x) ≡ later_fields gs
      ++ (codes ")" ++ y) → (fs ≡ gs) × (x ≡ y)
  later_fields_apart FieldTypes.none Fields.none Fields.none x y h k e
      = (refl, append_cancel_left (codes ")") x y e)
  later_fields_apart (FieldTypes.field a t ts) (Fields.field l v fs)
      (Fields.field m w gs) x y h k e =
      field_apart l m v w fs gs x y (sym h.0 ∙ k.0) (apart t v w
      (later_fields fs ++ (codes ")" ++ x)) (later_fields gs ++ (codes ")" ++ y)) h.1 k.1
      (fields_end fs x) (fields_end gs y)) (later_fields_apart ts fs gs x y h.2 k.2)
      (append_cancel_left (codes ", ") _ _ (sym (next_field_then l v fs (codes ")" ++ x)) ∙ e
      ∙ next_field_then m w gs (codes ")" ++ y)))
  later_fields_apart ts fs gs x y h k e = absurd (assumption (h, k))

  elements_apart : (t : TypeTree) (vs ws : Elements) (x y : List ℕ) → ElementsAreOfType t vs
      → ElementsAreOfType t ws → written_elements vs ++ (codes "}" ++ x) ≡ written_elements ws
      ++ (codes "}" ++ y) → (vs ≡ ws) × (x ≡ y)
  elements_apart t Elements.end Elements.end x y h k e =
      (refl, append_cancel_left (codes "}") x y e)
  elements_apart t Elements.end (Elements.more w ws) x y h k e =
      absurd (not_closing t w (later_elements ws ++ (codes "}" ++ y)) x k.0
      (sym (e ∙ first_element_then w ws (codes "}" ++ y))))
  elements_apart t (Elements.more v vs) Elements.end x y h k e =
      absurd (not_closing t v (later_elements vs ++ (codes "}" ++ x)) y h.0
      (sym (first_element_then v vs (codes "}" ++ x)) ∙ e))
  elements_apart t (Elements.more v vs) (Elements.more w ws) x y h k e =
      let r = apart t v w (later_elements vs ++ (codes "}" ++ x))
      (later_elements ws ++ (codes "}" ++ y)) h.0 k.0 (elements_end vs x) (elements_end ws y)
      (sym (first_element_then v vs (codes "}" ++ x)) ∙ e
      ∙ first_element_then w ws (codes "}" ++ y)) in
      let s = later_elements_apart t vs ws x y h.1 k.1 r.1 in
      (ap₂ Elements.more r.0 s.0, s.1)

  later_elements_apart : (t : TypeTree) (vs ws : Elements) (x y : List ℕ) → ElementsAreOfType t vs
      → ElementsAreOfType t ws → later_elements vs ++ (codes "}" ++ x) ≡ later_elements ws
      ++ (codes "}" ++ y) → (vs ≡ ws) × (x ≡ y)
  later_elements_apart t Elements.end Elements.end x y h k e
      = (refl, append_cancel_left (codes "}") x y e)
  later_elements_apart t Elements.end (Elements.more w ws) x y h k e =
      absurd (bytes_differ 125 44 _ _ (λ r. omega (arith, r)) e)
  later_elements_apart t (Elements.more v vs) Elements.end x y h k e =
      absurd (bytes_differ 44 125 _ _ (λ r. omega (arith, r)) e)
  later_elements_apart t (Elements.more v vs) (Elements.more w ws) x y h k e =
      let r = apart t v w (later_elements vs ++ (codes "}" ++ x))
      (later_elements ws ++ (codes "}" ++ y)) h.0 k.0 (elements_end vs x) (elements_end ws y)
      (append_cancel_left (codes ", ") _ _ (sym (next_element_then v vs (codes "}" ++ x)) ∙ e
      ∙ next_element_then w ws (codes "}" ++ y))) in
      let s = later_elements_apart t vs ws x y h.1 k.1 r.1 in
      (ap₂ Elements.more r.0 s.0, s.1)
