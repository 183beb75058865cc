-- A type with rising labels has a bag at a path exactly where the path is among its paths.
use Rattle.std.proofs.Common.{◌≡◌, ◌↔◌, ℕ, suc, Bool, true, false, cond, List, [], ◌∷◌, ◌++◌, map, refl, sym, ap, ◌∙◌, subst, arith}
use Rattle.std.specs.List.{AllByRecursion as Each, Contains}
use Rattle.std.specs.Str.{bytes_eq}
use Rattle.std.proofs.lemmas.List.Elements.{All-contains, All-from_recursion, Contains-append_left, Contains-append_right}
use Rattle.std.proofs.lemmas.Slice.Eq.{bytes_eq-Decides}
use Rattle.nq_model.specs.NamedRows.{Label}
use Rattle.nq_model.specs.Proper.{IsOrdered, labels_of}
use Rattle.nq_model.specs.Types.{TypeTree, int, bool, text, rec, bag, fun, FieldTypes, none, field}
use Rattle.nq_ir.proofs.Distinct.{each_join}
use Rattle.nq_ir.proofs.Equal.{bytes_same}
use Rattle.nq_ir.proofs.Paths.{LabelsDiffer, Proper, ProperFields, proper}
use Rattle.nq_ir.specs.Paths.{paths, paths_in}
use Rattle.nq_ir.specs.declared.path.Step.{Step}
use Rattle.nq_ir.specs.declared.path.Step.TheVariants.{Down, Field as FieldStep}
use Rattle.shred_types.specs.Bags.{has_bag, has_bag_in}

contains_next : {A : Type 0} (x y : A) (xs : List A) → Contains xs y → Contains (x ∷ xs) y
contains_next x y xs (k, below, is) = (suc k, omega arith, is)

contains_mapped : {A B : Type 0} (f : A → B) (xs : List A) (x : A) → Contains xs x → Contains (map f xs) (f x)
contains_mapped f [] x (k, below, is) = absurd (omega arith)
contains_mapped f (y ∷ ys) x (ℕ.zero, below, is) = (0, omega arith, ap f is)
contains_mapped f (y ∷ ys) x (suc k, below, is) = contains_next (f y) (f x) (map f ys) (contains_mapped f ys x (k, omega arith, is))

-- the path to a bag is among those of the first field, or of the others
field_there : (k : Label) (a : TypeTree) (fs : FieldTypes) (l : Label) (p : List Step) → (has_bag a p ≡ true → Contains (paths a) p) → (has_bag_in fs l p ≡ true → Contains (paths_in fs) (FieldStep l ∷ p))
    → (same : Bool) → bytes_eq l k ≡ same → cond same (has_bag a p) (has_bag_in fs l p) ≡ true → Contains (map (λ q. FieldStep k ∷ q) (paths a) ++ paths_in fs) (FieldStep l ∷ p)
field_there k a fs l p own others true e found =
    let named : k ≡ l = sym ((bytes_eq-Decides l k).0 e) in
    Contains-append_left (map (λ q. FieldStep k ∷ q) (paths a)) (paths_in fs) (FieldStep l ∷ p)
    (subst (λ (z : Label). Contains (map (λ q. FieldStep k ∷ q) (paths a)) (FieldStep z ∷ p)) named (contains_mapped (λ q. FieldStep k ∷ q) (paths a) p (own found)))
field_there k a fs l p own others false e found = Contains-append_right (map (λ q. FieldStep k ∷ q) (paths a)) (paths_in fs) (FieldStep l ∷ p) (others found)

-- where there is a bag, the path to it is among the paths
mutual
  there : (a : TypeTree) (p : List Step) → has_bag a p ≡ true → Contains (paths a) p
  there int p h = absurd (cc)
  there bool p h = absurd (cc)
  there text p h = absurd (cc)
  there (rec fs) [] h = absurd (cc)
  there (rec fs) (Down ∷ p) h = absurd (cc)
  there (rec fs) (FieldStep l ∷ p) h = there_in fs l p h
  there (bag a) [] h = (0, omega arith, refl)
  there (bag a) (Down ∷ p) h = contains_next [] (Down ∷ p) (map (λ q. Down ∷ q) (paths a)) (contains_mapped (λ q. Down ∷ q) (paths a) p (there a p h))
  there (bag a) (FieldStep l ∷ p) h = absurd (cc)
  there (fun a b) p h = absurd (cc)

  there_in : (fs : FieldTypes) (l : Label) (p : List Step) → has_bag_in fs l p ≡ true → Contains (paths_in fs) (FieldStep l ∷ p)
  there_in none l p h = absurd (cc)
  there_in (field k a fs) l p h = field_there k a fs l p (there a p) (there_in fs l p) (bytes_eq l k) refl h

each_under : {A B : Type 0} (f : A → B) (P : A → Type 0) (Q : B → Type 0) → ((x : A) → P x → Q (f x)) → (xs : List A) → Each P xs → Each Q (map f xs)
each_under f P Q h [] e = tt
each_under f P Q h (x ∷ xs) e = (h x e.0, each_under f P Q h xs e.1)

each_of : {A B : Type 0} (f : A → B) (Q : B → Type 0) → ((x : A) → Q (f x)) → (xs : List A) → Each Q (map f xs)
each_of f Q h [] = tt
each_of f Q h (x ∷ xs) = (h x, each_of f Q h xs)

each_then : {A : Type 0} (P Q : A → Type 0) (xs : List A) → Each P xs → Each (λ x. P x → Q x) xs → Each Q xs
each_then P Q [] e h = tt
each_then P Q (x ∷ xs) e h = (h.0 e.0, each_then P Q xs e.1 h.1)

-- a field in front does not hide fields with other labels
behind : (k : Label) (a : TypeTree) (fs gs : FieldTypes) → Each (λ m. bytes_eq m k ≡ false) (labels_of gs)
    → Each (λ p. has_bag (rec fs) p ≡ true → has_bag (rec (field k a fs)) p ≡ true) (paths_in gs)
behind k a fs none d = tt
behind k a fs (field l b gs) d =
    each_join (λ p. has_bag (rec fs) p ≡ true → has_bag (rec (field k a fs)) p ≡ true) (map (λ p. FieldStep l ∷ p) (paths b)) (paths_in gs)
    (each_of (λ p. FieldStep l ∷ p) (λ p. has_bag (rec fs) p ≡ true → has_bag (rec (field k a fs)) p ≡ true) (λ p h. ap (λ (same : Bool). cond same (has_bag a p) (has_bag_in fs l p)) d.0 ∙ h) (paths b))
    (behind k a fs gs d.1)

-- at each of its paths there is a bag
mutual
  each_has : (a : TypeTree) → Proper a → Each (λ p. has_bag a p ≡ true) (paths a)
  each_has int h = tt
  each_has bool h = tt
  each_has text h = tt
  each_has (rec fs) h = each_has_in fs h.0 h.1
  each_has (bag a) h = (refl, each_under (λ p. Down ∷ p) (λ p. has_bag a p ≡ true) (λ p. has_bag (bag a) p ≡ true) (λ p e. e) (paths a) (each_has a h))
  each_has (fun a b) h = tt

  each_has_in : (fs : FieldTypes) → LabelsDiffer (labels_of fs) → ProperFields fs → Each (λ p. has_bag (rec fs) p ≡ true) (paths_in fs)
  each_has_in none d h = tt
  each_has_in (field k a fs) d h =
      each_join (λ p. has_bag (rec (field k a fs)) p ≡ true) (map (λ p. FieldStep k ∷ p) (paths a)) (paths_in fs)
      (each_under (λ p. FieldStep k ∷ p) (λ p. has_bag a p ≡ true) (λ p. has_bag (rec (field k a fs)) p ≡ true)
      (λ p e. ap (λ (same : Bool). cond same (has_bag a p) (has_bag_in fs k p)) (bytes_same k k refl) ∙ e) (paths a) (each_has a h.0))
      (each_then (λ p. has_bag (rec fs) p ≡ true) (λ p. has_bag (rec (field k a fs)) p ≡ true) (paths_in fs) (each_has_in fs d.1 h.1) (behind k a fs fs d.0))

pub bag_is_at_path : (a : TypeTree) (p : List Step) → IsOrdered a → (has_bag a p ≡ true) ↔ Contains (paths a) p
bag_is_at_path a p rise =
    (there a p, λ among. All-contains (λ q. has_bag a q ≡ true) (paths a) p (All-from_recursion (λ q. has_bag a q ≡ true) (paths a) (each_has a (proper a rise))) among)
