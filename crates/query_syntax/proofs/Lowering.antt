-- The walk gives the term, or the first fault of the names.
use Rattle.std.proofs.Common.{◌≡◌, ℕ, Bool, true, false, if◌then◌else◌, List, [], ◌∷◌, ◌++◌, Some, None, Result, Ok, Err, refl, sym, ap, ◌∙◌, append_assoc, inl, inr}
use Rattle.nq_model.specs.Orders.{by_label}
use Rattle.nq_model.specs.Types.{TypeTree, field_types_of}
use Rattle.nq_model.specs.Terms.{PlacedTerm, PlacedNode, PlacedFields, at, placed, placed_fields_of}
use Rattle.nq_model.specs.QueryGrammar.{TypeSyntax, TBase, TBag, TParen, TNoFields, TRec, TFun, TypeFields, TOne, TMore, Syntax, Const, Truth, Var, Table, Aggregated, Paren, NoFields, Rec, Bag, Nil, For, Where, If, Fun, Let, Prefix, Infix, Apply, Field, Fields, One, More}
use Rattle.nq_model.specs.QueryScope.{Name, among, number_of, operator_node, fields_place, type_labels, labels, typed_fields, type_of, fields_of, if_unbound, if_twice, type_wrongs, type_fields_wrongs, fields_wrongs, Wrong, wrongs, term_of}
use Rattle.nq_model.specs.declared.term.Term.{Term}
use Rattle.query_syntax.specs.Lowering.{◌>>=◌, new_label, type_lowered, type_fields_lowered, bound, lowered, fields_lowered, Gives, fault_of, IsFirst, Lowered}
use Rattle.query_syntax.specs.declared.fault.SyntaxFault.{SyntaxFault}

-- the value where nothing is wrong, else the first that is wrong
abbrev pub outcome : {A : Type 0} → List Wrong → A → Result A SyntaxFault
outcome [] x = Ok x
outcome (w ∷ ws) x = Err (fault_of w)

-- one step and then another
following : {A B : Type 0} (r : Result A SyntaxFault) (ws : List Wrong) (x : A) (f : A → Result B SyntaxFault) (vs : List Wrong) (y : B)
    → r ≡ outcome ws x → f x ≡ outcome vs y → (r >>= f) ≡ outcome (ws ++ vs) y
following r [] x f vs y e g = ap (λ (z : Result _ SyntaxFault). z >>= f) e ∙ g
following r (w ∷ ws) x f vs y e g = ap (λ (z : Result _ SyntaxFault). z >>= f) e

-- one step, and a form around what it gives
last : {A B : Type 0} (r : Result A SyntaxFault) (ws : List Wrong) (x : A) (f : A → B)
    → r ≡ outcome ws x → (r >>= (λ a. Ok (f a))) ≡ outcome ws (f x)
last r [] x f e = ap (λ (z : Result _ SyntaxFault). z >>= (λ a. Ok (f a))) e
last r (w ∷ ws) x f e = ap (λ (z : Result _ SyntaxFault). z >>= (λ a. Ok (f a))) e

new_label_outcome : (b : Bool) (v : ℕ) → new_label b v ≡ outcome (if_twice b v) tt
new_label_outcome true v = refl
new_label_outcome false v = refl

-- the fields of a type in the order of the text
abbrev type_list : TypeFields → List (Name × TypeTree)
type_list (TOne p v l c t) = (l, type_of t) ∷ []
type_list (TMore fs q v l c t) = type_list fs ++ (l, type_of t) ∷ []

type_list_typed : (fs : TypeFields) (rest : List (Name × TypeTree)) → typed_fields fs rest ≡ type_list fs ++ rest
type_list_typed (TOne p v l c t) rest = refl
type_list_typed (TMore fs q v l c t) rest = type_list_typed fs ((l, type_of t) ∷ rest) ∙ sym (append_assoc (type_list fs) ((l, type_of t) ∷ []) rest)

append_nil : {A : Type 0} (xs : List A) → xs ++ [] ≡ xs
append_nil [] = refl
append_nil (x ∷ xs) = ap (λ ys. x ∷ ys) (append_nil xs)

typed_is_list : (fs : TypeFields) → type_list fs ≡ typed_fields fs []
typed_is_list fs = sym (type_list_typed fs [] ∙ append_nil (type_list fs))

mutual
  pub type_walk : (t : TypeSyntax) → type_lowered t ≡ outcome (type_wrongs t) (type_of t)
  type_walk (TBase p c) = refl
  type_walk (TBag p t q) = last (type_lowered t) (type_wrongs t) (type_of t) TypeTree.bag (type_walk t)
  type_walk (TParen p t q) = type_walk t
  type_walk (TNoFields p q) = refl
  type_walk (TRec fs q) =
      last (type_fields_lowered fs) (type_fields_wrongs fs) (type_list fs) (λ xs. TypeTree.rec (field_types_of (by_label xs))) (type_fields_walk fs)
      ∙ ap (λ xs. outcome (type_fields_wrongs fs) (TypeTree.rec (field_types_of (by_label xs)))) (typed_is_list fs)
  type_walk (TFun s p t) =
      following (type_lowered s) (type_wrongs s) (type_of s) _ (type_wrongs t) (TypeTree.fun (type_of s) (type_of t)) (type_walk s)
      (last (type_lowered t) (type_wrongs t) (type_of t) (TypeTree.fun (type_of s)) (type_walk t))

  type_fields_walk : (fs : TypeFields) → type_fields_lowered fs ≡ outcome (type_fields_wrongs fs) (type_list fs)
  type_fields_walk (TOne p v l c t) = last (type_lowered t) (type_wrongs t) (type_of t) (λ a. (l, a) ∷ []) (type_walk t)
  type_fields_walk (TMore fs q v l c t) =
      following (type_fields_lowered fs) (type_fields_wrongs fs) (type_list fs) _ (if_twice (among l (type_labels fs)) v ++ type_wrongs t) (type_list fs ++ (l, type_of t) ∷ []) (type_fields_walk fs)
      (following (new_label (among l (type_labels fs)) v) (if_twice (among l (type_labels fs)) v) tt _ (type_wrongs t) _ (new_label_outcome (among l (type_labels fs)) v)
      (last (type_lowered t) (type_wrongs t) (type_of t) (λ a. type_list fs ++ (l, a) ∷ []) (type_walk t)))

bound_outcome : (b : Bool) (p k : ℕ) → bound p (if b then Some k else None) ≡ outcome (if_unbound b p) (at p (PlacedNode.var k))
bound_outcome true p k = refl
bound_outcome false p k = refl

-- the fields of a record in the order of the text
abbrev field_list : Fields → List Name → List (Name × PlacedTerm)
field_list (One p v l a e) xs = (l, term_of e xs) ∷ []
field_list (More fs c v l a e) xs = field_list fs xs ++ (l, term_of e xs) ∷ []

-- the fields, and then the rest
abbrev onto : List (Name × PlacedTerm) → PlacedFields → PlacedFields
onto [] rest = rest
onto (f ∷ fs) rest = PlacedFields.with_field f.0 f.1 (onto fs rest)

onto_append : (fs gs : List (Name × PlacedTerm)) (rest : PlacedFields) → onto (fs ++ gs) rest ≡ onto fs (onto gs rest)
onto_append [] gs rest = refl
onto_append (f ∷ fs) gs rest = ap (PlacedFields.with_field f.0 f.1) (onto_append fs gs rest)

onto_none : (fs : List (Name × PlacedTerm)) → placed_fields_of fs ≡ onto fs PlacedFields.none
onto_none [] = refl
onto_none (f ∷ fs) = ap (PlacedFields.with_field f.0 f.1) (onto_none fs)

fields_onto : (fs : Fields) (xs : List Name) (rest : PlacedFields) → fields_of fs xs rest ≡ onto (field_list fs xs) rest
fields_onto (One p v l a e) xs rest = refl
fields_onto (More fs c v l a e) xs rest =
    fields_onto fs xs (PlacedFields.with_field l (term_of e xs) rest) ∙ sym (onto_append (field_list fs xs) ((l, term_of e xs) ∷ []) rest)

fields_are_list : (fs : Fields) (xs : List Name) → placed_fields_of (field_list fs xs) ≡ fields_of fs xs PlacedFields.none
fields_are_list fs xs = onto_none (field_list fs xs) ∙ sym (fields_onto fs xs PlacedFields.none)

mutual
  pub walk : (s : Syntax) (xs : List Name) → lowered s xs ≡ outcome (wrongs s xs) (term_of s xs)
  walk (Const p c) xs = refl
  walk (Truth p b) xs = refl
  walk (Var p x) xs = bound_outcome (among x xs) p (number_of x xs)
  walk (Table p v l) xs = refl
  walk (Paren p e q) xs = walk e xs
  walk (NoFields p q) xs = refl
  walk (Rec fs q) xs =
      last (fields_lowered fs xs) (fields_wrongs fs xs) (field_list fs xs) (λ parts. at (fields_place fs) (PlacedNode.rec (placed_fields_of parts))) (fields_walk fs xs)
      ∙ ap (λ parts. outcome (fields_wrongs fs xs) (at (fields_place fs) (PlacedNode.rec parts))) (fields_are_list fs xs)
  walk (Aggregated g p o e c) xs = last (lowered e xs) (wrongs e xs) (term_of e xs) (λ a. at p (PlacedNode.aggregate g a)) (walk e xs)
  walk (Bag p e q) xs = last (lowered e xs) (wrongs e xs) (term_of e xs) (λ a. at p (PlacedNode.single a)) (walk e xs)
  walk (Prefix p u e) xs = last (lowered e xs) (wrongs e xs) (term_of e xs) (λ a. at p (PlacedNode.unary u a)) (walk e xs)
  walk (Field e p v l) xs = last (lowered e xs) (wrongs e xs) (term_of e xs) (λ a. at p (PlacedNode.field a l)) (walk e xs)
  walk (Nil p c t q) xs = last (type_lowered t) (type_wrongs t) (type_of t) (λ a. at p (PlacedNode.nil a)) (type_walk t)
  walk (For p o v x a m c n) xs =
      following (lowered m xs) (wrongs m xs) (term_of m xs) _ (wrongs n (x ∷ xs)) (at p (PlacedNode.for (term_of m xs) (term_of n (x ∷ xs)))) (walk m xs)
      (last (lowered n (x ∷ xs)) (wrongs n (x ∷ xs)) (term_of n (x ∷ xs)) (λ z. at p (PlacedNode.for (term_of m xs) z)) (walk n (x ∷ xs)))
  walk (Where p o t c n) xs =
      following (lowered t xs) (wrongs t xs) (term_of t xs) _ (wrongs n xs) (at p (PlacedNode.guard (term_of t xs) (term_of n xs))) (walk t xs)
      (last (lowered n xs) (wrongs n xs) (term_of n xs) (λ z. at p (PlacedNode.guard (term_of t xs) z)) (walk n xs))
  walk (Let p v x a m s n) xs =
      following (lowered m xs) (wrongs m xs) (term_of m xs) _ (wrongs n (x ∷ xs)) (at p (PlacedNode.bind (term_of m xs) (term_of n (x ∷ xs)))) (walk m xs)
      (last (lowered n (x ∷ xs)) (wrongs n (x ∷ xs)) (term_of n (x ∷ xs)) (λ z. at p (PlacedNode.bind (term_of m xs) z)) (walk n (x ∷ xs)))
  walk (Infix l p op r) xs =
      following (lowered l xs) (wrongs l xs) (term_of l xs) _ (wrongs r xs) (at p (operator_node op (term_of l xs) (term_of r xs))) (walk l xs)
      (last (lowered r xs) (wrongs r xs) (term_of r xs) (λ z. at p (operator_node op (term_of l xs) z)) (walk r xs))
  walk (Apply f p e q) xs =
      following (lowered f xs) (wrongs f xs) (term_of f xs) _ (wrongs e xs) (at p (PlacedNode.apply (term_of f xs) (term_of e xs))) (walk f xs)
      (last (lowered e xs) (wrongs e xs) (term_of e xs) (λ z. at p (PlacedNode.apply (term_of f xs) z)) (walk e xs))
  walk (Fun p o v x c t z a n) xs =
      following (type_lowered t) (type_wrongs t) (type_of t) _ (wrongs n (x ∷ xs)) (at p (PlacedNode.fun (type_of t) (term_of n (x ∷ xs)))) (type_walk t)
      (last (lowered n (x ∷ xs)) (wrongs n (x ∷ xs)) (term_of n (x ∷ xs)) (λ b. at p (PlacedNode.fun (type_of t) b)) (walk n (x ∷ xs)))
  walk (If p t q y r n) xs =
      following (lowered t xs) (wrongs t xs) (term_of t xs) _ (wrongs y xs ++ wrongs n xs) (at p (PlacedNode.choose (term_of t xs) (term_of y xs) (term_of n xs))) (walk t xs)
      (following (lowered y xs) (wrongs y xs) (term_of y xs) _ (wrongs n xs) _ (walk y xs)
      (last (lowered n xs) (wrongs n xs) (term_of n xs) (λ b. at p (PlacedNode.choose (term_of t xs) (term_of y xs) b)) (walk n xs)))

  fields_walk : (fs : Fields) (xs : List Name) → fields_lowered fs xs ≡ outcome (fields_wrongs fs xs) (field_list fs xs)
  fields_walk (One p v l a e) xs = last (lowered e xs) (wrongs e xs) (term_of e xs) (λ t. (l, t) ∷ []) (walk e xs)
  fields_walk (More fs c v l a e) xs =
      following (fields_lowered fs xs) (fields_wrongs fs xs) (field_list fs xs) _ (if_twice (among l (labels fs)) v ++ wrongs e xs) (field_list fs xs ++ (l, term_of e xs) ∷ []) (fields_walk fs xs)
      (following (new_label (among l (labels fs)) v) (if_twice (among l (labels fs)) v) tt _ (wrongs e xs) _ (new_label_outcome (among l (labels fs)) v)
      (last (lowered e xs) (wrongs e xs) (term_of e xs) (λ t. field_list fs xs ++ (l, t) ∷ []) (walk e xs)))

is_ok : {A : Type 0} (ws : List Wrong) (x y : A) → outcome ws x ≡ Ok y → (ws ≡ []) × (y ≡ x)
is_ok [] x y e = (refl, cc)
is_ok (w ∷ ws) x y e = cc

is_first : {A : Type 0} (ws : List Wrong) (x : A) (f : SyntaxFault) → outcome ws x ≡ Err f → IsFirst f ws
is_first [] x f e = cc
is_first (w ∷ ws) x f e = let g : f ≡ fault_of w = cc in (w, ws, refl, g)

-- the walk from no binders gives the answer
pub whole_walk : (r : Result Term SyntaxFault) (s : Syntax) → Gives placed r (lowered s []) → Lowered r s
whole_walk (Ok t) s e = is_ok (wrongs s []) (term_of s []) (placed t) (sym (walk s []) ∙ e)
whole_walk (Err f) s (inl e) = inl e
whole_walk (Err f) s (inr e) = inr (is_first (wrongs s []) (term_of s []) f (sym (walk s []) ∙ e))
