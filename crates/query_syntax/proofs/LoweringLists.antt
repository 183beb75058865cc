-- Fields that are walked one by one.
use Rattle.std.proofs.Common.{◌≡◌, ℕ, Bool, true, false, List, [], ◌∷◌, ◌++◌, Result, Ok, Err, refl, sym, ap, ◌∙◌, append_assoc, ◌⊎◌, inl, inr, Box, Global}
use Rattle.nq_model.specs.Types.{TypeTree, field_types_of, type_tree, fields_view}
use Rattle.nq_model.specs.Orders.{by_label}
use Rattle.nq_model.specs.Terms.{PlacedTerm, PlacedNode, at, placed, placed_fields_of}
use Rattle.nq_model.specs.QueryScope.{Name, among, labels, type_labels, fields_place}
use Rattle.nq_model.specs.QueryGrammar.{TypeSyntax, Syntax, Fields, One, More}
use Rattle.nq_model.specs.declared.ty.Ty.{Ty}
use Rattle.nq_model.specs.declared.term.Term.{Term}
use Rattle.query_syntax.specs.Lowering.{◌>>=◌, Gives, new_label, places_view, type_lowered, type_fields_lowered, lowered, fields_lowered}
use Rattle.query_syntax.specs.Trees.{type_view, type_fields, typed, syntax_view, fields, named, grow}
use Rattle.query_syntax.proofs.Views.{type_rec, form_rec, types_push, fields_push}
use Rattle.query_syntax.specs.declared.syntax.FieldName.{FieldName}
use Rattle.query_syntax.specs.declared.syntax.TypeSyntax.{TypeSyntax as CodeType}
use Rattle.query_syntax.specs.declared.syntax.Syntax.{Syntax as CodeSyntax}
use Rattle.query_syntax.specs.declared.syntax.TypeSyntax.TheVariants as types
use Rattle.query_syntax.specs.declared.syntax.Syntax.TheVariants as forms
use Rattle.query_syntax.specs.declared.fault.SyntaxFault.{SyntaxFault}
use Rattle.query_syntax.specs.declared.fault.SyntaxFault.TheVariants as code

abbrev pub WantOr : SyntaxFault → Type 0 → Type 0
WantOr e P = (e ≡ code.Memory) ⊎ P

-- a fault that is handed on
pub given : {A B : Type 0} (view : A → B) (r : Result A SyntaxFault) (R : Result B SyntaxFault) (S : Result B SyntaxFault) (e : SyntaxFault) → r ≡ Err e → S ≡ R → WantOr e (S ≡ Err e) → Gives view r R
given view (Ok x) R S e h is w = cc
given view (Err f) R S e h is (inl m) = let g : f ≡ e = cc in inl (g ∙ m)
given view (Err f) R S e h is (inr k) = let g : e ≡ f = cc in inr (sym is ∙ k ∙ ap Err g)

append_nil : {A : Type 0} (xs : List A) → xs ++ [] ≡ xs
append_nil [] = refl
append_nil (x ∷ xs) = ap (λ ys. x ∷ ys) (append_nil xs)

-- one field behind the others
abbrev pub one_more : {B : Type 0} → Result (List (Name × B)) SyntaxFault → List Name → FieldName → Result B SyntaxFault → Result (List (Name × B)) SyntaxFault
one_more done seen name r =
    done >>= (λ others. (new_label (among name.label seen) name.place >>= (λ u. (r >>= (λ a. Ok (others ++ (name.label, a) ∷ []))))))

abbrev bind_label : {B : Type 0} → List (Name × B) → FieldName → Result B SyntaxFault → Result (Unit {0}) SyntaxFault → Result (List (Name × B)) SyntaxFault
bind_label others name r s = s >>= (λ u. (r >>= (λ a. Ok (others ++ (name.label, a) ∷ []))))

abbrev bind_value : {B : Type 0} → List (Name × B) → FieldName → Result B SyntaxFault → Result (List (Name × B)) SyntaxFault
bind_value others name r = r >>= (λ a. Ok (others ++ (name.label, a) ∷ []))

abbrev bind_first : {B : Type 0} → FieldName → Result B SyntaxFault → Result (List (Name × B)) SyntaxFault
bind_first name r = r >>= (λ a. Ok ((name.label, a) ∷ []))

module _ {A B : Type 0} (low : A → Result B SyntaxFault) (so_far : List (FieldName × A) → Result (List (Name × B)) SyntaxFault) (seen : List (FieldName × A) → List Name) (more : (xs : List (FieldName × A)) (x : FieldName × A) → so_far (xs ++ x ∷ []) ≡ one_more (so_far xs) (seen xs) x.0 (low x.1)) where
  stops : (xs rest : List (FieldName × A)) (e : SyntaxFault) → so_far xs ≡ Err e → so_far (xs ++ rest) ≡ Err e
  stops xs [] e h = ap so_far (append_nil xs) ∙ h
  stops xs (y ∷ ys) e h =
      ap so_far (sym (append_assoc xs (y ∷ []) ys))
      ∙ stops (xs ++ y ∷ []) ys e (more xs y ∙ ap (λ (r : Result (List (Name × B)) SyntaxFault). one_more r (seen xs) y.0 (low y.1)) h)

  whole : (xs rest all : List (FieldName × A)) (x : FieldName × A) (e : SyntaxFault) → xs ++ x ∷ rest ≡ all → so_far (xs ++ x ∷ []) ≡ Err e → so_far all ≡ Err e
  whole xs rest all x e is h = ap so_far (sym is ∙ sym (append_assoc xs (x ∷ []) rest)) ∙ stops (xs ++ x ∷ []) rest e h

  pub label_fault : (xs rest all : List (FieldName × A)) (x : FieldName × A) (done : List (Name × B)) (e : SyntaxFault) → xs ++ x ∷ rest ≡ all → so_far xs ≡ Ok done
      → WantOr e (new_label (among x.0.label (seen xs)) x.0.place ≡ Err e) → WantOr e (so_far all ≡ Err e)
  label_fault xs rest all x done e is before (inl m) = inl m
  label_fault xs rest all x done e is before (inr h) =
      inr (whole xs rest all x e is
      (more xs x ∙ ap (λ (r : Result (List (Name × B)) SyntaxFault). one_more r (seen xs) x.0 (low x.1)) before ∙ ap (bind_label done x.0 (low x.1)) h))

  pub value_fault : (xs rest all : List (FieldName × A)) (x : FieldName × A) (done : List (Name × B)) (e : SyntaxFault) → xs ++ x ∷ rest ≡ all → so_far xs ≡ Ok done
      → new_label (among x.0.label (seen xs)) x.0.place ≡ Ok tt → WantOr e (low x.1 ≡ Err e) → WantOr e (so_far all ≡ Err e)
  value_fault xs rest all x done e is before new (inl m) = inl m
  value_fault xs rest all x done e is before new (inr h) =
      inr (whole xs rest all x e is
      (more xs x ∙ ap (λ (r : Result (List (Name × B)) SyntaxFault). one_more r (seen xs) x.0 (low x.1)) before ∙ ap (bind_label done x.0 (low x.1)) new ∙ ap (bind_value done x.0) h))

  pub value_more : (xs : List (FieldName × A)) (x : FieldName × A) (done : List (Name × B)) (y : B) → so_far xs ≡ Ok done
      → new_label (among x.0.label (seen xs)) x.0.place ≡ Ok tt → low x.1 ≡ Ok y → so_far (xs ++ x ∷ []) ≡ Ok (done ++ (x.0.label, y) ∷ [])
  value_more xs x done y before new h =
      more xs x ∙ ap (λ (r : Result (List (Name × B)) SyntaxFault). one_more r (seen xs) x.0 (low x.1)) before ∙ ap (bind_label done x.0 (low x.1)) new ∙ ap (bind_value done x.0) h

-- the fields of a record type so far: the first, and some of the others
abbrev pub types_so_far : FieldName → TypeSyntax → List (FieldName × CodeType) → Result (List (Name × TypeTree)) SyntaxFault
types_so_far f t xs = type_fields_lowered (type_fields f t (typed xs))

abbrev pub types_seen : FieldName → TypeSyntax → List (FieldName × CodeType) → List Name
types_seen f t xs = type_labels (type_fields f t (typed xs))

pub types_more : (f : FieldName) (t : TypeSyntax) (xs : List (FieldName × CodeType)) (x : FieldName × CodeType)
    → types_so_far f t (xs ++ x ∷ []) ≡ one_more (types_so_far f t xs) (types_seen f t xs) x.0 (type_lowered (type_view x.1))
types_more f t xs x = ap type_fields_lowered (types_push f t xs x)

pub types_seen_more : (f : FieldName) (t : TypeSyntax) (xs : List (FieldName × CodeType)) (x : FieldName × CodeType) → types_seen f t (xs ++ x ∷ []) ≡ x.0.label ∷ types_seen f t xs
types_seen_more f t xs x = ap type_labels (types_push f t xs x)

abbrev type_bind : Result (List (Name × TypeTree)) SyntaxFault → Result TypeTree SyntaxFault
type_bind r = r >>= (λ parts. Ok (TypeTree.rec (field_types_of (by_label parts))))

-- a fault in the fields of a record type
pub record_type_fault : (r : Result Ty SyntaxFault) (s : CodeType) (f : FieldName) (b : Box CodeType Global) (xs : List (FieldName × CodeType)) (q : ℕ) (e : SyntaxFault) → r ≡ Err e → s ≡ types.Rec f b xs q
    → WantOr e (types_so_far f (type_view b.value) xs ≡ Err e) → Gives type_tree r (type_lowered (type_view s))
record_type_fault r s f b xs q e is form w =
    given type_tree r (type_lowered (type_view s)) (type_bind (types_so_far f (type_view b.value) xs)) e is
    (sym (ap (λ z. type_lowered (type_view z)) form ∙ ap type_lowered (type_rec f b xs q))) (or_under w)
  where
    or_under : WantOr e (types_so_far f (type_view b.value) xs ≡ Err e) → WantOr e (type_bind (types_so_far f (type_view b.value) xs) ≡ Err e)
    or_under (inl m) = inl m
    or_under (inr h) = inr (ap type_bind h)

-- a fault in the first field is that of all
pub first_type_fault : (f : FieldName) (t : TypeSyntax) (xs : List (FieldName × CodeType)) (e : SyntaxFault) → WantOr e (type_lowered t ≡ Err e) → WantOr e (types_so_far f t xs ≡ Err e)
first_type_fault f t xs e (inl m) = inl m
first_type_fault f t xs e (inr h) =
    inr (stops (λ (s : CodeType). type_lowered (type_view s)) (types_so_far f t) (types_seen f t) (types_more f t) [] xs e (ap (bind_first f) h))

-- the fields of a record so far, under these binders: the first, and some of the others
abbrev pub terms_so_far : List Name → FieldName → Syntax → List (FieldName × CodeSyntax) → Result (List (Name × PlacedTerm)) SyntaxFault
terms_so_far scope f s xs = fields_lowered (fields f s (named xs)) scope

abbrev pub terms_seen : FieldName → Syntax → List (FieldName × CodeSyntax) → List Name
terms_seen f s xs = labels (fields f s (named xs))

pub terms_more : (scope : List Name) (f : FieldName) (s : Syntax) (xs : List (FieldName × CodeSyntax)) (x : FieldName × CodeSyntax)
    → terms_so_far scope f s (xs ++ x ∷ []) ≡ one_more (terms_so_far scope f s xs) (terms_seen f s xs) x.0 (lowered (syntax_view x.1) scope)
terms_more scope f s xs x = ap (λ fs. fields_lowered fs scope) (fields_push f s xs x)

pub terms_seen_more : (f : FieldName) (s : Syntax) (xs : List (FieldName × CodeSyntax)) (x : FieldName × CodeSyntax) → terms_seen f s (xs ++ x ∷ []) ≡ x.0.label ∷ terms_seen f s xs
terms_seen_more f s xs x = ap labels (fields_push f s xs x)

abbrev term_bind : Fields → Result (List (Name × PlacedTerm)) SyntaxFault → Result PlacedTerm SyntaxFault
term_bind fs r = r >>= (λ parts. Ok (at (fields_place fs) (PlacedNode.rec (placed_fields_of parts))))

grown_place : (fs : Fields) (xs : List (FieldName × Syntax)) → fields_place (grow fs xs) ≡ fields_place fs
grown_place fs [] = refl
grown_place fs (x ∷ xs) = grown_place (More fs x.0.before x.0.place x.0.label x.0.mark x.1) xs

-- a record begins with the `(` before its first field
pub opening_place : (x : FieldName) (e : Syntax) (xs : List (FieldName × Syntax)) → fields_place (fields x e xs) ≡ x.before
opening_place x e xs = grown_place (One x.before x.place x.label x.mark e) xs

-- a record whose fields are known
pub record_whole : (scope : List Name) (s : CodeSyntax) (f : FieldName) (b : Box CodeSyntax Global) (xs : List (FieldName × CodeSyntax)) (q : ℕ) (parts : List (Name × PlacedTerm)) → s ≡ forms.Rec f b xs q
    → terms_so_far scope f (syntax_view b.value) xs ≡ Ok parts → lowered (syntax_view s) scope ≡ Ok (at f.before (PlacedNode.rec (placed_fields_of parts)))
record_whole scope s f b xs q parts form h =
    ap (λ z. lowered (syntax_view z) scope) form ∙ ap (λ z. lowered z scope) (form_rec f b xs q)
    ∙ ap (term_bind (fields f (syntax_view b.value) (named xs))) h
    ∙ ap (λ p. Ok (at p (PlacedNode.rec (placed_fields_of parts)))) (opening_place f (syntax_view b.value) (named xs))

-- a fault in the fields of a record
pub record_fault : (scope : List Name) (r : Result Term SyntaxFault) (s : CodeSyntax) (f : FieldName) (b : Box CodeSyntax Global) (xs : List (FieldName × CodeSyntax)) (q : ℕ) (e : SyntaxFault) → r ≡ Err e → s ≡ forms.Rec f b xs q
    → WantOr e (terms_so_far scope f (syntax_view b.value) xs ≡ Err e) → Gives placed r (lowered (syntax_view s) scope)
record_fault scope r s f b xs q e is form w =
    given placed r (lowered (syntax_view s) scope) (term_bind (fields f (syntax_view b.value) (named xs)) (terms_so_far scope f (syntax_view b.value) xs)) e is
    (sym (ap (λ z. lowered (syntax_view z) scope) form ∙ ap (λ z. lowered z scope) (form_rec f b xs q))) (or_under w)
  where
    or_under : WantOr e (terms_so_far scope f (syntax_view b.value) xs ≡ Err e)
        → WantOr e (term_bind (fields f (syntax_view b.value) (named xs)) (terms_so_far scope f (syntax_view b.value) xs) ≡ Err e)
    or_under (inl m) = inl m
    or_under (inr h) = inr (ap (term_bind (fields f (syntax_view b.value) (named xs))) h)

-- a fault in the first field is that of all
pub first_fault : (scope : List Name) (f : FieldName) (s : Syntax) (xs : List (FieldName × CodeSyntax)) (e : SyntaxFault) → WantOr e (lowered s scope ≡ Err e) → WantOr e (terms_so_far scope f s xs ≡ Err e)
first_fault scope f s xs e (inl m) = inl m
first_fault scope f s xs e (inr h) =
    inr (stops (λ (x : CodeSyntax). lowered (syntax_view x) scope) (terms_so_far scope f s) (terms_seen f s) (terms_more scope f s) [] xs e (ap (bind_first f) h))

-- a label that is put is new
pub is_new : (b : Bool) (v : ℕ) → new_label b v ≡ Ok tt → b ≡ false
is_new true v e = cc
is_new false v e = refl

pub fields_view_push : (fs : List (List ℕ × Ty)) (l : List ℕ) (t : Ty) → fields_view (fs ++ (l, t) ∷ []) ≡ fields_view fs ++ (l, type_tree t) ∷ []
fields_view_push [] l t = refl
fields_view_push (f ∷ fs) l t = ap (λ gs. (f.0, type_tree f.1) ∷ gs) (fields_view_push fs l t)

pub places_view_push : (fs : List (List ℕ × Term)) (l : List ℕ) (t : Term) → places_view (fs ++ (l, t) ∷ []) ≡ places_view fs ++ (l, placed t) ∷ []
places_view_push [] l t = refl
places_view_push (f ∷ fs) l t = ap (λ gs. (f.0, placed f.1) ∷ gs) (places_view_push fs l t)
