-- Unfolding keeps terms proper, and typed terms are closed.
use Rattle.std.proofs.Common.{◌≡◌, ℕ, zero, suc, ◌+◌, ◌-◌, ◌<◌, cond, Bool, true, false, List, [], ◌∷◌, length, Option, Some, None, refl, sym, ap, subst as along, nat_lt, nat_eq, bytes_eq, arith}
use Rattle.std.specs.Prelude.{slice_get}
use Rattle.nq_model.specs.Orders.{AreDistinct}
use Rattle.nq_model.specs.Types.{TypeTree, FieldTypes}
use Rattle.nq_model.specs.Terms.{PlacedTerm, PlacedNode, PlacedFields, at, TermTree, TermFields, bare, bare_fields}
use Rattle.nq_model.specs.Substitution.{shift, shift_tree, shift_tree_fields}
use Rattle.nq_model.specs.Unfolding.{picked}
use Rattle.nq_model.specs.Proper.{IsQueryWord, field_labels, IsProperTerm, AreProperTerms, IsClosedUnder, AreClosedUnder}
use Rattle.nq_model.specs.Typing.{HasType, HaveTypes}
use Rattle.nq_model.specs.Tables.{base_type}
use Rattle.nq_model.specs.declared.table.Schema.{Schema}
use Rattle.nq_model.proofs.Substitution.{bare_shift}
use Rattle.unfold.specs.Hereditary.{or_else, field_by, substitute, substitute_fields, apply_by, apply_at, walk, walk_fields}
use Rattle.unfold.proofs.Typings.{one_more}

-- shifting
shift_labels : (d c : ℕ) (fs : TermFields) → field_labels (shift_tree_fields d c fs) ≡ field_labels fs
shift_labels d c TermFields.none = refl
shift_labels d c (TermFields.with_field l t fs) = ap (λ ls. l ∷ ls) (shift_labels d c fs)

mutual
  shift_proper : (d c : ℕ) (t : TermTree) → IsProperTerm t → IsProperTerm (shift_tree d c t)
  shift_proper d c (TermTree.var k) h = h
  shift_proper d c (TermTree.int n) h = h
  shift_proper d c (TermTree.bool b) h = h
  shift_proper d c (TermTree.text t) h = h
  shift_proper d c (TermTree.table l) h = h
  shift_proper d c (TermTree.unary op t) h = shift_proper d c t h
  shift_proper d c (TermTree.binary op t u) h = (shift_proper d c t h.0, shift_proper d c u h.1)
  shift_proper d c (TermTree.choose t u v) h = (shift_proper d c t h.0, shift_proper d c u h.1, shift_proper d c v h.2)
  shift_proper d c (TermTree.fun k t) h = (h.0, shift_proper d (c + 1) t h.1)
  shift_proper d c (TermTree.apply t u) h = (shift_proper d c t h.0, shift_proper d c u h.1)
  shift_proper d c (TermTree.rec fs) h = (along AreDistinct (sym (shift_labels d c fs)) h.0, shift_propers d c fs h.1)
  shift_proper d c (TermTree.field t l) h = (shift_proper d c t h.0, h.1)
  shift_proper d c (TermTree.aggregate o t) h = shift_proper d c t h
  shift_proper d c (TermTree.single t) h = shift_proper d c t h
  shift_proper d c (TermTree.nil k) h = h
  shift_proper d c (TermTree.union t u) h = (shift_proper d c t h.0, shift_proper d c u h.1)
  shift_proper d c (TermTree.for t u) h = (shift_proper d c t h.0, shift_proper d (c + 1) u h.1)
  shift_proper d c (TermTree.guard t u) h = (shift_proper d c t h.0, shift_proper d c u h.1)
  shift_proper d c (TermTree.bind t u) h = (shift_proper d c t h.0, shift_proper d (c + 1) u h.1)

  shift_propers : (d c : ℕ) (fs : TermFields) → AreProperTerms fs → AreProperTerms (shift_tree_fields d c fs)
  shift_propers d c TermFields.none h = h
  shift_propers d c (TermFields.with_field l t fs) h = (h.0, shift_proper d c t h.1, shift_propers d c fs h.2)

abbrev Proper : PlacedTerm → Type 0
Proper t = IsProperTerm (bare t)

put_proper_by : (c : ℕ) (s : PlacedTerm) (p k : ℕ) (a b : Bool) → Proper s → Proper (cond a (at p (PlacedNode.var k)) (cond b (shift c 0 s) (at p (PlacedNode.var (k - 1)))))
put_proper_by c s p k true b h = tt
put_proper_by c s p k false true h = along IsProperTerm (sym (bare_shift c 0 s)) (shift_proper c 0 (bare s) h)
put_proper_by c s p k false false h = tt

-- fields
picked_proper_by : (b : Bool) (t : PlacedTerm) (o : Option PlacedTerm) (u : PlacedTerm) → Proper t → (o ≡ Some u → Proper u) → cond b (Some t) o ≡ Some u → Proper u
picked_proper_by true t o u h k e = let s : t ≡ u = cc in along Proper s h
picked_proper_by false t o u h k e = k e

picked_proper : (l : List ℕ) (fs : PlacedFields) (u : PlacedTerm) → AreProperTerms (bare_fields fs) → picked l fs ≡ Some u → Proper u
picked_proper l PlacedFields.none u h e = cc
picked_proper l (PlacedFields.with_field m t fs) u h e =
    picked_proper_by (bytes_eq l m) t (picked l fs) u h.1 (λ f. picked_proper l fs u h.2 f) e

or_else_proper : (o : Option PlacedTerm) (t : PlacedTerm) → Proper t → ((u : PlacedTerm) → o ≡ Some u → Proper u) → Proper (or_else o t)
or_else_proper None t h k = h
or_else_proper (Some u) t h k = k u refl

field_proper : (p : ℕ) (l : List ℕ) (t : PlacedTerm) → IsQueryWord l → Proper t → Proper (field_by p l t)
field_proper p l (at z (PlacedNode.var k)) w h = (h, w)
field_proper p l (at z (PlacedNode.int n)) w h = (h, w)
field_proper p l (at z (PlacedNode.bool b)) w h = (h, w)
field_proper p l (at z (PlacedNode.text t)) w h = (h, w)
field_proper p l (at z (PlacedNode.table m)) w h = (h, w)
field_proper p l (at z (PlacedNode.unary op t)) w h = (h, w)
field_proper p l (at z (PlacedNode.binary op t u)) w h = (h, w)
field_proper p l (at z (PlacedNode.choose t u v)) w h = (h.0, field_proper p l u w h.1, field_proper p l v w h.2)
field_proper p l (at z (PlacedNode.fun k t)) w h = (h, w)
field_proper p l (at z (PlacedNode.apply t u)) w h = (h, w)
field_proper p l (at z (PlacedNode.rec fs)) w h = or_else_proper (picked l fs) (at p (PlacedNode.field (at z (PlacedNode.rec fs)) l)) (h, w) (λ u e. picked_proper l fs u h.1 e)
field_proper p l (at z (PlacedNode.field t m)) w h = (h, w)
field_proper p l (at z (PlacedNode.aggregate o t)) w h = (h, w)
field_proper p l (at z (PlacedNode.single t)) w h = (h, w)
field_proper p l (at z (PlacedNode.nil k)) w h = (h, w)
field_proper p l (at z (PlacedNode.union t u)) w h = (h, w)
field_proper p l (at z (PlacedNode.for t u)) w h = (h, w)
field_proper p l (at z (PlacedNode.guard t u)) w h = (h, w)
field_proper p l (at z (PlacedNode.bind t u)) w h = (h, w)

-- substitution, where an application of proper parts is proper
abbrev Applies : (ℕ → PlacedTerm → PlacedTerm → PlacedTerm) → Type 0
Applies app = (p : ℕ) (f a : PlacedTerm) → Proper f → Proper a → Proper (app p f a)

substitute_labels : (app : ℕ → PlacedTerm → PlacedTerm → PlacedTerm) (c : ℕ) (s : PlacedTerm) (fs : PlacedFields) → field_labels (bare_fields (substitute_fields app c s fs)) ≡ field_labels (bare_fields fs)
substitute_labels app c s PlacedFields.none = refl
substitute_labels app c s (PlacedFields.with_field l t fs) = ap (λ ls. l ∷ ls) (substitute_labels app c s fs)

module _ (app : ℕ → PlacedTerm → PlacedTerm → PlacedTerm) (ok : Applies app) (s : PlacedTerm) (done : Proper s) where
  mutual
    substitute_proper : (c : ℕ) (t : PlacedTerm) → Proper t → Proper (substitute app c s t)
    substitute_proper c (at z (PlacedNode.var k)) h = put_proper_by c s z k (nat_lt k c) (nat_eq k c) done
    substitute_proper c (at z (PlacedNode.int n)) h = h
    substitute_proper c (at z (PlacedNode.bool b)) h = h
    substitute_proper c (at z (PlacedNode.text t)) h = h
    substitute_proper c (at z (PlacedNode.table l)) h = h
    substitute_proper c (at z (PlacedNode.unary op t)) h = substitute_proper c t h
    substitute_proper c (at z (PlacedNode.binary op t u)) h = (substitute_proper c t h.0, substitute_proper c u h.1)
    substitute_proper c (at z (PlacedNode.choose t u v)) h = (substitute_proper c t h.0, substitute_proper c u h.1, substitute_proper c v h.2)
    substitute_proper c (at z (PlacedNode.fun k t)) h = (h.0, substitute_proper (c + 1) t h.1)
    substitute_proper c (at z (PlacedNode.apply t u)) h = ok z (substitute app c s t) (substitute app c s u) (substitute_proper c t h.0) (substitute_proper c u h.1)
    substitute_proper c (at z (PlacedNode.rec fs)) h = (along AreDistinct (sym (substitute_labels app c s fs)) h.0, substitute_propers c fs h.1)
    substitute_proper c (at z (PlacedNode.field t l)) h = field_proper z l (substitute app c s t) h.1 (substitute_proper c t h.0)
    substitute_proper c (at z (PlacedNode.aggregate o t)) h = substitute_proper c t h
    substitute_proper c (at z (PlacedNode.single t)) h = substitute_proper c t h
    substitute_proper c (at z (PlacedNode.nil k)) h = h
    substitute_proper c (at z (PlacedNode.union t u)) h = (substitute_proper c t h.0, substitute_proper c u h.1)
    substitute_proper c (at z (PlacedNode.for t u)) h = (substitute_proper c t h.0, substitute_proper (c + 1) u h.1)
    substitute_proper c (at z (PlacedNode.guard t u)) h = (substitute_proper c t h.0, substitute_proper c u h.1)
    substitute_proper c (at z (PlacedNode.bind t u)) h = (substitute_proper c t h.0, substitute_proper (c + 1) u h.1)

    substitute_propers : (c : ℕ) (fs : PlacedFields) → AreProperTerms (bare_fields fs) → AreProperTerms (bare_fields (substitute_fields app c s fs))
    substitute_propers c PlacedFields.none h = h
    substitute_propers c (PlacedFields.with_field l t fs) h = (h.0, substitute_proper c t h.1, substitute_propers c fs h.2)

apply_proper_by : (sub : PlacedTerm → PlacedTerm → PlacedTerm) → ((a t : PlacedTerm) → Proper a → Proper t → Proper (sub a t)) → (p : ℕ) (f a : PlacedTerm) → Proper f → Proper a → Proper (apply_by sub p f a)
apply_proper_by sub ok p (at z (PlacedNode.var k)) a h g = (h, g)
apply_proper_by sub ok p (at z (PlacedNode.int n)) a h g = (h, g)
apply_proper_by sub ok p (at z (PlacedNode.bool b)) a h g = (h, g)
apply_proper_by sub ok p (at z (PlacedNode.text t)) a h g = (h, g)
apply_proper_by sub ok p (at z (PlacedNode.table l)) a h g = (h, g)
apply_proper_by sub ok p (at z (PlacedNode.unary op t)) a h g = (h, g)
apply_proper_by sub ok p (at z (PlacedNode.binary op t u)) a h g = (h, g)
apply_proper_by sub ok p (at z (PlacedNode.choose t u v)) a h g = (h.0, apply_proper_by sub ok p u a h.1 g, apply_proper_by sub ok p v a h.2 g)
apply_proper_by sub ok p (at z (PlacedNode.fun k t)) a h g = ok a t g h.1
apply_proper_by sub ok p (at z (PlacedNode.apply t u)) a h g = (h, g)
apply_proper_by sub ok p (at z (PlacedNode.rec fs)) a h g = (h, g)
apply_proper_by sub ok p (at z (PlacedNode.field t l)) a h g = (h, g)
apply_proper_by sub ok p (at z (PlacedNode.aggregate o t)) a h g = (h, g)
apply_proper_by sub ok p (at z (PlacedNode.single t)) a h g = (h, g)
apply_proper_by sub ok p (at z (PlacedNode.nil k)) a h g = (h, g)
apply_proper_by sub ok p (at z (PlacedNode.union t u)) a h g = (h, g)
apply_proper_by sub ok p (at z (PlacedNode.for t u)) a h g = (h, g)
apply_proper_by sub ok p (at z (PlacedNode.guard t u)) a h g = (h, g)
apply_proper_by sub ok p (at z (PlacedNode.bind t u)) a h g = (h, g)

apply_proper : (n : ℕ) → Applies (apply_at n)
apply_proper zero p f a h g = (h, g)
apply_proper (suc n) p f a h g =
    apply_proper_by (substitute (apply_at n) 0) (λ x t i j. substitute_proper (apply_at n) (apply_proper n) x i 0 t j) p f a h g

walk_labels : (n : ℕ) (fs : PlacedFields) → field_labels (bare_fields (walk_fields n fs)) ≡ field_labels (bare_fields fs)
walk_labels n PlacedFields.none = refl
walk_labels n (PlacedFields.with_field l t fs) = ap (λ ls. l ∷ ls) (walk_labels n fs)

mutual
  pub walk_proper : (n : ℕ) (t : PlacedTerm) → IsProperTerm (bare t) → IsProperTerm (bare (walk n t))
  walk_proper n (at z (PlacedNode.var k)) h = h
  walk_proper n (at z (PlacedNode.int i)) h = h
  walk_proper n (at z (PlacedNode.bool b)) h = h
  walk_proper n (at z (PlacedNode.text t)) h = h
  walk_proper n (at z (PlacedNode.table l)) h = h
  walk_proper n (at z (PlacedNode.unary op t)) h = walk_proper n t h
  walk_proper n (at z (PlacedNode.binary op t u)) h = (walk_proper n t h.0, walk_proper n u h.1)
  walk_proper n (at z (PlacedNode.choose t u v)) h = (walk_proper n t h.0, walk_proper n u h.1, walk_proper n v h.2)
  walk_proper n (at z (PlacedNode.fun k t)) h = (h.0, walk_proper n t h.1)
  walk_proper n (at z (PlacedNode.apply t u)) h = apply_proper n z (walk n t) (walk n u) (walk_proper n t h.0) (walk_proper n u h.1)
  walk_proper n (at z (PlacedNode.rec fs)) h = (along AreDistinct (sym (walk_labels n fs)) h.0, walk_propers n fs h.1)
  walk_proper n (at z (PlacedNode.field t l)) h = field_proper z l (walk n t) h.1 (walk_proper n t h.0)
  walk_proper n (at z (PlacedNode.aggregate o t)) h = walk_proper n t h
  walk_proper n (at z (PlacedNode.single t)) h = walk_proper n t h
  walk_proper n (at z (PlacedNode.nil k)) h = h
  walk_proper n (at z (PlacedNode.union t u)) h = (walk_proper n t h.0, walk_proper n u h.1)
  walk_proper n (at z (PlacedNode.for t u)) h = (walk_proper n t h.0, walk_proper n u h.1)
  walk_proper n (at z (PlacedNode.guard t u)) h = (walk_proper n t h.0, walk_proper n u h.1)
  walk_proper n (at z (PlacedNode.bind t u)) h = substitute_proper (apply_at n) (apply_proper n) (walk n t) (walk_proper n t h.0) 0 (walk n u) (walk_proper n u h.1)

  walk_propers : (n : ℕ) (fs : PlacedFields) → AreProperTerms (bare_fields fs) → AreProperTerms (bare_fields (walk_fields n fs))
  walk_propers n PlacedFields.none h = h
  walk_propers n (PlacedFields.with_field l t fs) h = (h.0, walk_proper n t h.1, walk_propers n fs h.2)

-- typed terms are closed
in_context : {A : Type 0} (xs : List A) (k : ℕ) (x : A) → slice_get xs k ≡ Some x → k < length xs
in_context [] k x h = absurd (cc)
in_context (y ∷ xs) zero x h = omega arith
in_context (y ∷ xs) (suc k) x h = let r = in_context xs k x h in omega (arith, r)

module _ (schema : Schema) where
  mutual
    pub typed_closed : (cx : List TypeTree) (n : ℕ) → n ≡ length cx → (t : TermTree) (a : TypeTree) → HasType schema cx t a → IsClosedUnder n t
    typed_closed cx n e (TermTree.var k) a h = along (λ m. k < m) (sym e) (in_context cx k a h)
    typed_closed cx n e (TermTree.int i) a h = tt
    typed_closed cx n e (TermTree.bool b) a h = tt
    typed_closed cx n e (TermTree.text t) a h = tt
    typed_closed cx n e (TermTree.table l) a h = tt
    typed_closed cx n e (TermTree.unary op t) a h = typed_closed cx n e t (base_type h.0) h.2
    typed_closed cx n e (TermTree.binary op t u) a h = (typed_closed cx n e t (base_type h.0) h.3, typed_closed cx n e u (base_type h.1) h.4)
    typed_closed cx n e (TermTree.choose t u v) a h = (typed_closed cx n e t TypeTree.bool h.0, typed_closed cx n e u a h.1, typed_closed cx n e v a h.2)
    typed_closed cx n e (TermTree.fun k t) a h = typed_closed (k ∷ cx) (n + 1) (one_more n (length cx) e) t h.0 h.2
    typed_closed cx n e (TermTree.apply t u) a h = (typed_closed cx n e t (TypeTree.fun h.0 a) h.1, typed_closed cx n e u h.0 h.2)
    typed_closed cx n e (TermTree.rec fs) a h = typeds_closed cx n e fs h.0 h.1
    typed_closed cx n e (TermTree.field t l) a h = typed_closed cx n e t (TypeTree.rec h.0) h.1
    typed_closed cx n e (TermTree.aggregate o t) a h = typed_closed cx n e t (TypeTree.bag h.0) h.1
    typed_closed cx n e (TermTree.single t) a h = typed_closed cx n e t h.0 h.1
    typed_closed cx n e (TermTree.nil k) a h = tt
    typed_closed cx n e (TermTree.union t u) a h = (typed_closed cx n e t a h.2, typed_closed cx n e u a h.3)
    typed_closed cx n e (TermTree.for t u) a h = (typed_closed cx n e t (TypeTree.bag h.0) h.2, typed_closed (h.0 ∷ cx) (n + 1) (one_more n (length cx) e) u a h.3)
    typed_closed cx n e (TermTree.guard t u) a h = (typed_closed cx n e t TypeTree.bool h.1, typed_closed cx n e u a h.2)
    typed_closed cx n e (TermTree.bind t u) a h = (typed_closed cx n e t h.0 h.1, typed_closed (h.0 ∷ cx) (n + 1) (one_more n (length cx) e) u a h.2)

    typeds_closed : (cx : List TypeTree) (n : ℕ) → n ≡ length cx → (fs : TermFields) (ks : FieldTypes) → HaveTypes schema cx fs ks → AreClosedUnder n fs
    typeds_closed cx n e TermFields.none ks h = tt
    typeds_closed cx n e (TermFields.with_field l t fs) ks h = (typed_closed cx n e t h.0 h.2, typeds_closed cx n e fs h.1 h.3)
