-- Steps of unfolding, which remove functions, `let` and fields of records, and what a term unfolds to.
--
-- The rules for functions and records are after Cheney, Lindley and Wadler, "Query Shredding", SIGMOD 2014, and
-- Cooper, "The Script-Writer's Dream", DBPL 2009. The order of the steps is this project's own.
use Rattle.std.specs.Prelude.{◌≡◌, ℕ, cond, bytes_eq, List, Option, Some, None}
use Rattle.nq_model.specs.Types.{TypeTree}
use Rattle.nq_model.specs.declared.term.Unary.{Unary}
use Rattle.nq_model.specs.declared.term.Binary.{Binary}
use Rattle.nq_model.specs.Terms.{PlacedTerm, PlacedNode, PlacedFields, at, TermTree, TermFields, Aggregate}
use Rattle.nq_model.specs.Substitution.{subst, subst_tree}

-- the part's step with what stands around it, and else what comes after it
abbrev pub part : {A B : Type 0} → Option A → (A → B) → Option B → Option B
part None around rest = rest
part (Some t) around rest = Some (around t)

-- the first field of that label
abbrev pub picked : List ℕ → PlacedFields → Option PlacedTerm
picked l PlacedFields.none = None
picked l (PlacedFields.with_field m t fs) = cond (bytes_eq l m) (Some t) (picked l fs)

-- what an application of place p becomes, where it is contractible; the new nodes take its place
abbrev pub contract_apply : ℕ → PlacedTerm → PlacedTerm → Option PlacedTerm
contract_apply p (at q (PlacedNode.fun k t)) a = Some (subst 0 a t)
contract_apply p (at q (PlacedNode.choose x f g)) a =
    Some (at p (PlacedNode.choose x (at p (PlacedNode.apply f a)) (at p (PlacedNode.apply g a))))
contract_apply p _ a = None

-- what a field of place p becomes, where it is contractible
abbrev pub contract_field : ℕ → PlacedTerm → List ℕ → Option PlacedTerm
contract_field p (at q (PlacedNode.rec fs)) l = picked l fs
contract_field p (at q (PlacedNode.choose x t u)) l =
    Some (at p (PlacedNode.choose x (at p (PlacedNode.field t l)) (at p (PlacedNode.field u l))))
contract_field p _ l = None

-- the term after one step: the first contractible node in post-order is contracted
abbrev mutual
  pub step : PlacedTerm → Option PlacedTerm
  step (at p (PlacedNode.var k)) = None
  step (at p (PlacedNode.int n)) = None
  step (at p (PlacedNode.bool b)) = None
  step (at p (PlacedNode.text t)) = None
  step (at p (PlacedNode.table l)) = None
  step (at p (PlacedNode.unary op t)) = part (step t) (λ x. at p (PlacedNode.unary op x)) None
  step (at p (PlacedNode.binary op t u)) = part (step t) (λ x. at p (PlacedNode.binary op x u)) (part (step u) (λ x. at p (PlacedNode.binary op t x)) None)
  step (at p (PlacedNode.choose t u v)) = part (step t) (λ x. at p (PlacedNode.choose x u v)) (part (step u) (λ x. at p (PlacedNode.choose t x v)) (part (step v) (λ x. at p (PlacedNode.choose t u x)) None))
  step (at p (PlacedNode.fun k t)) = part (step t) (λ x. at p (PlacedNode.fun k x)) None
  step (at p (PlacedNode.apply t u)) = part (step t) (λ x. at p (PlacedNode.apply x u)) (part (step u) (λ x. at p (PlacedNode.apply t x)) (contract_apply p t u))
  step (at p (PlacedNode.rec fs)) = part (step_fields fs) (λ x. at p (PlacedNode.rec x)) None
  step (at p (PlacedNode.field t l)) = part (step t) (λ x. at p (PlacedNode.field x l)) (contract_field p t l)
  step (at p (PlacedNode.aggregate g t)) = part (step t) (λ x. at p (PlacedNode.aggregate g x)) None
  step (at p (PlacedNode.single t)) = part (step t) (λ x. at p (PlacedNode.single x)) None
  step (at p (PlacedNode.nil k)) = None
  step (at p (PlacedNode.union t u)) = part (step t) (λ x. at p (PlacedNode.union x u)) (part (step u) (λ x. at p (PlacedNode.union t x)) None)
  step (at p (PlacedNode.for t u)) = part (step t) (λ x. at p (PlacedNode.for x u)) (part (step u) (λ x. at p (PlacedNode.for t x)) None)
  step (at p (PlacedNode.guard t u)) = part (step t) (λ x. at p (PlacedNode.guard x u)) (part (step u) (λ x. at p (PlacedNode.guard t x)) None)
  step (at p (PlacedNode.bind t u)) = part (step t) (λ x. at p (PlacedNode.bind x u)) (part (step u) (λ x. at p (PlacedNode.bind t x)) (Some (subst 0 t u)))

  pub step_fields : PlacedFields → Option PlacedFields
  step_fields PlacedFields.none = None
  step_fields (PlacedFields.with_field l t fs) =
      part (step t) (λ x. PlacedFields.with_field l x fs) (part (step_fields fs) (PlacedFields.with_field l t) None)

-- u is reached from t by some number of steps
pub data Chain {A : Type 0} (next : A → Option A) : A → A → Type 0 where
  here : {t : A} → Chain next t t
  after : {t u v : A} → next t ≡ Some u → Chain next u v → Chain next t v

-- u is reached from t, and no step goes on from it
pub record Reaches {A : Type 0} (next : A → Option A) (t u : A) : Type 0 where
  pub steps : Chain next t u
  pub ended : next u ≡ None

abbrev pub Steps : PlacedTerm → PlacedTerm → Type 0
Steps t u = Chain step t u

-- t unfolds to u
abbrev pub Unfolds : PlacedTerm → PlacedTerm → Type 0
Unfolds t u = Reaches step t u

-- what stands around one part of a node, where the parts before it have no step
mutual
  pub data Around : (PlacedTerm → PlacedTerm) → Type 0 where
    unary_of : {p : ℕ} {op : Unary} → Around (λ x. at p (PlacedNode.unary op x))
    binary_left : {p : ℕ} {op : Binary} {u : PlacedTerm} → Around (λ x. at p (PlacedNode.binary op x u))
    binary_right : {p : ℕ} {op : Binary} {t : PlacedTerm} → step t ≡ None → Around (λ x. at p (PlacedNode.binary op t x))
    choose_test : {p : ℕ} {u v : PlacedTerm} → Around (λ x. at p (PlacedNode.choose x u v))
    choose_yes : {p : ℕ} {t v : PlacedTerm} → step t ≡ None → Around (λ x. at p (PlacedNode.choose t x v))
    choose_no : {p : ℕ} {t u : PlacedTerm} → step t ≡ None → step u ≡ None → Around (λ x. at p (PlacedNode.choose t u x))
    fun_body : {p : ℕ} {k : TypeTree} → Around (λ x. at p (PlacedNode.fun k x))
    apply_func : {p : ℕ} {u : PlacedTerm} → Around (λ x. at p (PlacedNode.apply x u))
    apply_arg : {p : ℕ} {t : PlacedTerm} → step t ≡ None → Around (λ x. at p (PlacedNode.apply t x))
    rec_field : {p : ℕ} {f : PlacedTerm → PlacedFields} → AroundField f → Around (λ x. at p (PlacedNode.rec (f x)))
    field_of : {p : ℕ} {l : List ℕ} → Around (λ x. at p (PlacedNode.field x l))
    aggregate_of : {p : ℕ} {g : Aggregate} → Around (λ x. at p (PlacedNode.aggregate g x))
    single_of : {p : ℕ} → Around (λ x. at p (PlacedNode.single x))
    union_left : {p : ℕ} {u : PlacedTerm} → Around (λ x. at p (PlacedNode.union x u))
    union_right : {p : ℕ} {t : PlacedTerm} → step t ≡ None → Around (λ x. at p (PlacedNode.union t x))
    for_source : {p : ℕ} {u : PlacedTerm} → Around (λ x. at p (PlacedNode.for x u))
    for_body : {p : ℕ} {t : PlacedTerm} → step t ≡ None → Around (λ x. at p (PlacedNode.for t x))
    guard_test : {p : ℕ} {u : PlacedTerm} → Around (λ x. at p (PlacedNode.guard x u))
    guard_body : {p : ℕ} {t : PlacedTerm} → step t ≡ None → Around (λ x. at p (PlacedNode.guard t x))
    bind_value : {p : ℕ} {u : PlacedTerm} → Around (λ x. at p (PlacedNode.bind x u))
    bind_body : {p : ℕ} {t : PlacedTerm} → step t ≡ None → Around (λ x. at p (PlacedNode.bind t x))

  pub data AroundField : (PlacedTerm → PlacedFields) → Type 0 where
    first_field : {l : List ℕ} {fs : PlacedFields} → AroundField (λ x. PlacedFields.with_field l x fs)
    later_field : {l : List ℕ} {t : PlacedTerm} {f : PlacedTerm → PlacedFields} → step t ≡ None → AroundField f → AroundField (λ x. PlacedFields.with_field l t (f x))

-- the same on terms without places
abbrev pub picked_tree : List ℕ → TermFields → Option TermTree
picked_tree l TermFields.none = None
picked_tree l (TermFields.with_field m t fs) = cond (bytes_eq l m) (Some t) (picked_tree l fs)

abbrev pub contract_tree_apply : TermTree → TermTree → Option TermTree
contract_tree_apply (TermTree.fun k t) a = Some (subst_tree 0 a t)
contract_tree_apply (TermTree.choose x f g) a = Some (TermTree.choose x (TermTree.apply f a) (TermTree.apply g a))
contract_tree_apply _ a = None

abbrev pub contract_tree_field : TermTree → List ℕ → Option TermTree
contract_tree_field (TermTree.rec fs) l = picked_tree l fs
contract_tree_field (TermTree.choose x t u) l = Some (TermTree.choose x (TermTree.field t l) (TermTree.field u l))
contract_tree_field _ l = None

abbrev mutual
  pub step_tree : TermTree → Option TermTree
  step_tree (TermTree.var k) = None
  step_tree (TermTree.int n) = None
  step_tree (TermTree.bool b) = None
  step_tree (TermTree.text t) = None
  step_tree (TermTree.table l) = None
  step_tree (TermTree.unary op t) = part (step_tree t) (TermTree.unary op) None
  step_tree (TermTree.binary op t u) = part (step_tree t) (λ x. TermTree.binary op x u) (part (step_tree u) (TermTree.binary op t) None)
  step_tree (TermTree.choose t u v) = part (step_tree t) (λ x. TermTree.choose x u v) (part (step_tree u) (λ x. TermTree.choose t x v) (part (step_tree v) (TermTree.choose t u) None))
  step_tree (TermTree.fun k t) = part (step_tree t) (TermTree.fun k) None
  step_tree (TermTree.apply t u) = part (step_tree t) (λ x. TermTree.apply x u) (part (step_tree u) (TermTree.apply t) (contract_tree_apply t u))
  step_tree (TermTree.rec fs) = part (step_tree_fields fs) TermTree.rec None
  step_tree (TermTree.field t l) = part (step_tree t) (λ x. TermTree.field x l) (contract_tree_field t l)
  step_tree (TermTree.aggregate g t) = part (step_tree t) (λ x. TermTree.aggregate g x) None
  step_tree (TermTree.single t) = part (step_tree t) TermTree.single None
  step_tree (TermTree.nil k) = None
  step_tree (TermTree.union t u) = part (step_tree t) (λ x. TermTree.union x u) (part (step_tree u) (TermTree.union t) None)
  step_tree (TermTree.for t u) = part (step_tree t) (λ x. TermTree.for x u) (part (step_tree u) (TermTree.for t) None)
  step_tree (TermTree.guard t u) = part (step_tree t) (λ x. TermTree.guard x u) (part (step_tree u) (TermTree.guard t) None)
  step_tree (TermTree.bind t u) = part (step_tree t) (λ x. TermTree.bind x u) (part (step_tree u) (TermTree.bind t) (Some (subst_tree 0 t u)))

  pub step_tree_fields : TermFields → Option TermFields
  step_tree_fields TermFields.none = None
  step_tree_fields (TermFields.with_field l t fs) =
      part (step_tree t) (λ x. TermFields.with_field l x fs) (part (step_tree_fields fs) (TermFields.with_field l t) None)

abbrev pub TreeSteps : TermTree → TermTree → Type 0
TreeSteps t u = Chain step_tree t u

abbrev pub TreeUnfolds : TermTree → TermTree → Type 0
TreeUnfolds t u = Reaches step_tree t u
