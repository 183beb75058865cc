-- Texts of types, written piece by piece.
use Rattle.std.proofs.Common.{◌≡◌, ℕ, zero, suc, ◌+◌, ◌<◌, List, [], ◌∷◌, ◌++◌, sym, ap, ◌∙◌, length, take, get_or, arith, append_assoc, codes}
use Rattle.std.proofs.lemmas.List.{take_more, map-append}
use Rattle.nq_model.specs.Types.{TypeTree, type_tree, field_types_of, fields_view}
use Rattle.nq_model.specs.TypeTexts.{written_type, written_types}
use Rattle.nq_model.specs.declared.ty.Ty.{Ty}
use Rattle.nq_model.specs.Separators.{separator}

-- the text after start grows by a separator and an item
pub appended : (start old mid new done sep item all : List ℕ) → old ≡ start ++ done → mid ≡ old ++ sep → new ≡ mid ++ item → all ≡ done ++ (sep ++ item) → new ≡ start ++ all
appended start old mid new done sep item all p q r s =
    r ∙ ap (λ (l : List ℕ). l ++ item) (q ∙ ap (λ (l : List ℕ). l ++ sep) p) ∙ (simp append_assoc) ∙ ap (λ (l : List ℕ). start ++ l) (sym s)

-- three pieces, one after another
pub three_pieces : (old mid last new p q r : List ℕ) → mid ≡ old ++ p → last ≡ mid ++ q → new ≡ last ++ r → new ≡ old ++ (p ++ (q ++ r))
three_pieces old mid last new p q r e f g =
    g ∙ ap (λ (l : List ℕ). l ++ r) (f ∙ ap (λ (l : List ℕ). l ++ q) e) ∙ (simp append_assoc)

-- the text of a field
abbrev pub field_text : List ℕ × TypeTree → List ℕ
field_text f = f.0 ++ (codes ": " ++ written_type f.1)

fields_push : (fs : List (List ℕ × TypeTree)) (g f : List ℕ × TypeTree) → written_types (field_types_of (g ∷ (fs ++ f ∷ []))) ≡ written_types (field_types_of (g ∷ fs)) ++ (codes ", " ++ field_text f)
fields_push [] g f = simp append_assoc
fields_push (h ∷ fs) g f =
    ap (λ (l : List ℕ). g.0 ++ (codes ": " ++ (written_type g.1 ++ (codes ", " ++ l)))) (fields_push fs h f) ∙ (simp append_assoc)

pub fields_more : (xs : List (List ℕ × Ty)) (i : ℕ) (x : List ℕ × Ty) → i < length xs → x ≡ get_or xs i x
    → written_types (field_types_of (fields_view (take (i + 1) xs))) ≡ written_types (field_types_of (fields_view (take i xs))) ++ (separator i ++ field_text (x.0, type_tree x.1))
fields_more [] i x h e = absurd (omega (arith, h))
fields_more (y ∷ ys) zero x h e =
    ap (λ (l : List (List ℕ × Ty)). written_types (field_types_of (fields_view l))) (take_more (y ∷ ys) zero x h ∙ ap (λ z. z ∷ []) (sym e))
fields_more (y ∷ ys) (suc i) x h e =
    ap (λ (l : List (List ℕ × Ty)). written_types (field_types_of (fields_view l))) (take_more (y ∷ ys) (suc i) x h ∙ ap (λ z. y ∷ (take i ys ++ z ∷ [])) (sym e))
    ∙ ap (λ (l : List (List ℕ × TypeTree)). written_types (field_types_of ((y.0, type_tree y.1) ∷ l))) (map-append (λ (f : List ℕ × Ty). (f.0, type_tree f.1)) (take i ys) (x ∷ []))
    ∙ fields_push (fields_view (take i ys)) (y.0, type_tree y.1) (x.0, type_tree x.1)
