-- The text of a term, and then more bytes.
use Rattle.std.proofs.Common.{◌≡◌, ℕ, suc, Bool, true, false, nat_le, List, ◌∷◌, ◌++◌, codes, refl, ap, ◌∙◌, append_assoc}
use Rattle.std.specs.Fmt.{decimal}
use Rattle.nq_model.specs.Canonical.{cell_text}
use Rattle.nq_model.specs.QueryGrammar.{aggregate_word}
use Rattle.nq_model.specs.Types.{TypeTree, FieldTypes}
use Rattle.nq_ir.specs.Printed.{NamedTerm, var, constant, unary, binary, choose, table, rec, field, single, nil, union, for, guard, aggregate, NamedFields, no_field, with_field, level, level_of, left_level, sign_of, word_of, fenced, type_text, more_types, text_of, more_text}

-- in parentheses, or as it stands
abbrev pub fence : Bool → (List ℕ → List ℕ) → List ℕ → List ℕ
fence true f x = f x
fence false f x = 40 ∷ f (41 ∷ x)

abbrev mutual
  pub type_then : TypeTree → List ℕ → List ℕ
  type_then TypeTree.int x = codes "int" ++ x
  type_then TypeTree.bool x = codes "bool" ++ x
  type_then TypeTree.text x = codes "text" ++ x
  type_then (TypeTree.rec FieldTypes.none) x = 40 ∷ 41 ∷ x
  type_then (TypeTree.rec (FieldTypes.field l a gs)) x = 40 ∷ (l ++ 58 ∷ 32 ∷ type_then a (types_then gs x))
  type_then (TypeTree.bag a) x = 91 ∷ type_then a (93 ∷ x)
  type_then (TypeTree.fun a b) x = x

  pub types_then : FieldTypes → List ℕ → List ℕ
  types_then FieldTypes.none x = 41 ∷ x
  types_then (FieldTypes.field l a gs) x = 44 ∷ 32 ∷ (l ++ 58 ∷ 32 ∷ type_then a (types_then gs x))

abbrev mutual
  pub text_then : NamedTerm → List ℕ → List ℕ
  text_then (var k) x = 120 ∷ (decimal k ++ x)
  text_then (constant c) x = cell_text c ++ x
  text_then (unary o a) x = sign_of o ++ fence (nat_le 8 (level a)) (λ y. text_then a y) x
  text_then (binary o a b) x =
      fence (nat_le (left_level o) (level a)) (λ y. text_then a y) (word_of o ++ fence (nat_le (suc (level_of o)) (level b)) (λ y. text_then b y) x)
  text_then (choose t a b) x = codes "if " ++ text_then t (codes " then " ++ text_then a (codes " else " ++ text_then b x))
  text_then (table t) x = codes "table " ++ (t ++ x)
  text_then (rec no_field) x = 40 ∷ 41 ∷ x
  text_then (rec (with_field l a fs)) x = 40 ∷ (l ++ 32 ∷ 61 ∷ 32 ∷ text_then a (fields_then fs x))
  text_then (field a l) x = fence (nat_le 9 (level a)) (λ y. text_then a y) (46 ∷ (l ++ x))
  text_then (single a) x = 91 ∷ text_then a (93 ∷ x)
  text_then (nil a) x = 91 ∷ 58 ∷ 32 ∷ type_then a (93 ∷ x)
  text_then (union a b) x = fence (nat_le 2 (level a)) (λ y. text_then a y) (codes " ++ " ++ fence (nat_le 3 (level b)) (λ y. text_then b y) x)
  text_then (for k a b) x = codes "for (x" ++ (decimal k ++ (codes " <- " ++ text_then a (41 ∷ 32 ∷ text_then b x)))
  text_then (guard t a) x = codes "where (" ++ text_then t (41 ∷ 32 ∷ text_then a x)
  text_then (aggregate g a) x = aggregate_word g ++ 40 ∷ text_then a (41 ∷ x)

  pub fields_then : NamedFields → List ℕ → List ℕ
  fields_then no_field x = 41 ∷ x
  fields_then (with_field l a fs) x = 44 ∷ 32 ∷ (l ++ 32 ∷ 61 ∷ 32 ∷ text_then a (fields_then fs x))

two_laid : (a p b x : List ℕ) → (a ++ (p ++ b)) ++ x ≡ a ++ (p ++ (b ++ x))
two_laid a p b x = simp append_assoc

three_laid : (p a q b x : List ℕ) → (p ++ (a ++ (q ++ b))) ++ x ≡ p ++ (a ++ (q ++ (b ++ x)))
three_laid p a q b x = simp append_assoc

five_laid : (p a q b r c x : List ℕ) → (p ++ (a ++ (q ++ (b ++ (r ++ c))))) ++ x ≡ p ++ (a ++ (q ++ (b ++ (r ++ (c ++ x)))))
five_laid p a q b r c x = simp append_assoc

-- a part between bytes, and what comes behind it
part_laid : (a q b x : List ℕ) (f : List ℕ → List ℕ) → ((y : List ℕ) → a ++ y ≡ f y) → (y : List ℕ) → b ++ x ≡ y → (a ++ (q ++ b)) ++ x ≡ f (q ++ y)
part_laid a q b x f h y e = two_laid a q b x ∙ ap (λ (l : List ℕ). a ++ (q ++ l)) e ∙ h (q ++ y)

mutual
  type_laid : (a : TypeTree) (x : List ℕ) → type_text a ++ x ≡ type_then a x
  type_laid TypeTree.int x = refl
  type_laid TypeTree.bool x = refl
  type_laid TypeTree.text x = refl
  type_laid (TypeTree.rec FieldTypes.none) x = refl
  type_laid (TypeTree.rec (FieldTypes.field l a gs)) x =
      three_laid (codes "(") l (codes ": ") (type_text a ++ more_types gs) x
      ∙ ap (λ (z : List ℕ). 40 ∷ (l ++ 58 ∷ 32 ∷ z)) (append_assoc (type_text a) (more_types gs) x ∙ ap (λ (z : List ℕ). type_text a ++ z) (types_laid gs x) ∙ type_laid a (types_then gs x))
  type_laid (TypeTree.bag a) x = ap (λ (z : List ℕ). 91 ∷ z) (append_assoc (type_text a) (codes "]") x ∙ type_laid a (93 ∷ x))
  type_laid (TypeTree.fun a b) x = refl

  types_laid : (gs : FieldTypes) (x : List ℕ) → more_types gs ++ x ≡ types_then gs x
  types_laid FieldTypes.none x = refl
  types_laid (FieldTypes.field l a gs) x =
      three_laid (codes ", ") l (codes ": ") (type_text a ++ more_types gs) x
      ∙ ap (λ (z : List ℕ). 44 ∷ 32 ∷ (l ++ 58 ∷ 32 ∷ z)) (append_assoc (type_text a) (more_types gs) x ∙ ap (λ (z : List ℕ). type_text a ++ z) (types_laid gs x) ∙ type_laid a (types_then gs x))

fence_laid : (b : Bool) (t : List ℕ) (f : List ℕ → List ℕ) → ((y : List ℕ) → t ++ y ≡ f y) → (x : List ℕ) → fenced b t ++ x ≡ fence b f x
fence_laid true t f h x = h x
fence_laid false t f h x = ap (λ (l : List ℕ). 40 ∷ l) (append_assoc t (codes ")") x ∙ h (41 ∷ x))

-- an operator between operands
infix_laid : (b c : Bool) (t u word : List ℕ) (f g : List ℕ → List ℕ) → ((y : List ℕ) → t ++ y ≡ f y) → ((y : List ℕ) → u ++ y ≡ g y) → (x : List ℕ)
    → (fenced b t ++ (word ++ fenced c u)) ++ x ≡ fence b f (word ++ fence c g x)
infix_laid b c t u word f g h k x =
    part_laid (fenced b t) word (fenced c u) x (fence b f) (fence_laid b t f h) (fence c g x) (fence_laid c u g k x)

mutual
  pub text_laid : (m : NamedTerm) (x : List ℕ) → text_of m ++ x ≡ text_then m x
  text_laid (var k) x = refl
  text_laid (constant c) x = refl
  text_laid (unary o a) x =
      append_assoc (sign_of o) (fenced (nat_le 8 (level a)) (text_of a)) x
      ∙ ap (λ (l : List ℕ). sign_of o ++ l) (fence_laid (nat_le 8 (level a)) (text_of a) (λ y. text_then a y) (λ y. text_laid a y) x)
  text_laid (binary o a b) x =
      infix_laid (nat_le (left_level o) (level a)) (nat_le (suc (level_of o)) (level b)) (text_of a) (text_of b) (word_of o) (λ y. text_then a y) (λ y. text_then b y) (λ y. text_laid a y) (λ y. text_laid b y) x
  text_laid (choose t a b) x =
      five_laid (codes "if ") (text_of t) (codes " then ") (text_of a) (codes " else ") (text_of b) x
      ∙ ap (λ (l : List ℕ). codes "if " ++ (text_of t ++ (codes " then " ++ (text_of a ++ (codes " else " ++ l))))) (text_laid b x)
      ∙ ap (λ (l : List ℕ). codes "if " ++ (text_of t ++ (codes " then " ++ l))) (text_laid a (codes " else " ++ text_then b x))
      ∙ ap (λ (l : List ℕ). codes "if " ++ l) (text_laid t (codes " then " ++ text_then a (codes " else " ++ text_then b x)))
  text_laid (table t) x = append_assoc (codes "table ") t x
  text_laid (rec no_field) x = refl
  text_laid (rec (with_field l a fs)) x =
      three_laid (codes "(") l (codes " = ") (text_of a ++ more_text fs) x
      ∙ ap (λ (z : List ℕ). 40 ∷ (l ++ 32 ∷ 61 ∷ 32 ∷ z)) (append_assoc (text_of a) (more_text fs) x ∙ ap (λ (z : List ℕ). text_of a ++ z) (fields_laid fs x) ∙ text_laid a (fields_then fs x))
  text_laid (field a l) x =
      part_laid (fenced (nat_le 9 (level a)) (text_of a)) (codes ".") l x (fence (nat_le 9 (level a)) (λ y. text_then a y)) (fence_laid (nat_le 9 (level a)) (text_of a) (λ y. text_then a y) (λ y. text_laid a y)) (l ++ x) refl
  text_laid (single a) x = ap (λ (z : List ℕ). 91 ∷ z) (append_assoc (text_of a) (codes "]") x ∙ text_laid a (93 ∷ x))
  text_laid (nil a) x = ap (λ (z : List ℕ). 91 ∷ 58 ∷ 32 ∷ z) (append_assoc (type_text a) (codes "]") x ∙ type_laid a (93 ∷ x))
  text_laid (union a b) x =
      infix_laid (nat_le 2 (level a)) (nat_le 3 (level b)) (text_of a) (text_of b) (codes " ++ ") (λ y. text_then a y) (λ y. text_then b y) (λ y. text_laid a y) (λ y. text_laid b y) x
  text_laid (for k a b) x =
      five_laid (codes "for (x") (decimal k) (codes " <- ") (text_of a) (codes ") ") (text_of b) x
      ∙ ap (λ (l : List ℕ). codes "for (x" ++ (decimal k ++ (codes " <- " ++ (text_of a ++ (codes ") " ++ l))))) (text_laid b x)
      ∙ ap (λ (l : List ℕ). codes "for (x" ++ (decimal k ++ (codes " <- " ++ l))) (text_laid a (41 ∷ 32 ∷ text_then b x))
  text_laid (guard t a) x =
      three_laid (codes "where (") (text_of t) (codes ") ") (text_of a) x
      ∙ ap (λ (l : List ℕ). codes "where (" ++ (text_of t ++ (codes ") " ++ l))) (text_laid a x)
      ∙ ap (λ (l : List ℕ). codes "where (" ++ l) (text_laid t (41 ∷ 32 ∷ text_then a x))
  text_laid (aggregate g a) x =
      three_laid (aggregate_word g) (codes "(") (text_of a) (codes ")") x ∙ ap (λ (z : List ℕ). aggregate_word g ++ 40 ∷ z) (text_laid a (41 ∷ x))

  fields_laid : (fs : NamedFields) (x : List ℕ) → more_text fs ++ x ≡ fields_then fs x
  fields_laid no_field x = refl
  fields_laid (with_field l a fs) x =
      three_laid (codes ", ") l (codes " = ") (text_of a ++ more_text fs) x
      ∙ ap (λ (z : List ℕ). 44 ∷ 32 ∷ (l ++ 32 ∷ 61 ∷ 32 ∷ z)) (append_assoc (text_of a) (more_text fs) x ∙ ap (λ (z : List ℕ). text_of a ++ z) (fields_laid fs x) ∙ text_laid a (fields_then fs x))
