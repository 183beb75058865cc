-- Shifting and substituting variables, by de Bruijn's indexes, on terms with places and without.
--
-- After de Bruijn, "Lambda calculus notation with nameless dummies", Indagationes Mathematicae 1972.
use Rattle.std.specs.Prelude.{ℕ, nat_lt, nat_eq, cond, ◌+◌, ◌-◌, List, map}
use Rattle.nq_model.specs.declared.term.Term.{Term}
use Rattle.nq_model.specs.Terms.{placed, PlacedTerm, PlacedNode, PlacedFields, at, TermTree, TermFields}

-- the variable k under d more binders, where those below c are the term's own
abbrev pub shift_index : ℕ → ℕ → ℕ → ℕ
shift_index d c k = cond (nat_lt k c) k (k + d)

-- the term under d more binders, where those below c are its own
abbrev mutual
  pub shift : ℕ → ℕ → PlacedTerm → PlacedTerm
  shift d c (at p (PlacedNode.var k)) = at p (PlacedNode.var (shift_index d c k))
  shift d c (at p (PlacedNode.int n)) = at p (PlacedNode.int n)
  shift d c (at p (PlacedNode.bool b)) = at p (PlacedNode.bool b)
  shift d c (at p (PlacedNode.text t)) = at p (PlacedNode.text t)
  shift d c (at p (PlacedNode.table l)) = at p (PlacedNode.table l)
  shift d c (at p (PlacedNode.unary op t)) = at p (PlacedNode.unary op (shift d c t))
  shift d c (at p (PlacedNode.binary op t u)) = at p (PlacedNode.binary op (shift d c t) (shift d c u))
  shift d c (at p (PlacedNode.choose t u v)) = at p (PlacedNode.choose (shift d c t) (shift d c u) (shift d c v))
  shift d c (at p (PlacedNode.fun k t)) = at p (PlacedNode.fun k (shift d (c + 1) t))
  shift d c (at p (PlacedNode.apply t u)) = at p (PlacedNode.apply (shift d c t) (shift d c u))
  shift d c (at p (PlacedNode.rec fs)) = at p (PlacedNode.rec (shift_fields d c fs))
  shift d c (at p (PlacedNode.field t l)) = at p (PlacedNode.field (shift d c t) l)
  shift d c (at p (PlacedNode.aggregate g t)) = at p (PlacedNode.aggregate g (shift d c t))
  shift d c (at p (PlacedNode.single t)) = at p (PlacedNode.single (shift d c t))
  shift d c (at p (PlacedNode.nil k)) = at p (PlacedNode.nil k)
  shift d c (at p (PlacedNode.union t u)) = at p (PlacedNode.union (shift d c t) (shift d c u))
  shift d c (at p (PlacedNode.for t u)) = at p (PlacedNode.for (shift d c t) (shift d (c + 1) u))
  shift d c (at p (PlacedNode.guard t u)) = at p (PlacedNode.guard (shift d c t) (shift d c u))
  shift d c (at p (PlacedNode.bind t u)) = at p (PlacedNode.bind (shift d c t) (shift d (c + 1) u))

  pub shift_fields : ℕ → ℕ → PlacedFields → PlacedFields
  shift_fields d c PlacedFields.none = PlacedFields.none
  shift_fields d c (PlacedFields.with_field l t fs) = PlacedFields.with_field l (shift d c t) (shift_fields d c fs)

-- the variable k, of place p, where s stands for the variable c: s is copied under c binders and keeps its
-- places, and the variables above c come down by one
abbrev pub put : ℕ → PlacedTerm → ℕ → ℕ → PlacedTerm
put c s p k = cond (nat_lt k c) (at p (PlacedNode.var k)) (cond (nat_eq k c) (shift c 0 s) (at p (PlacedNode.var (k - 1))))

-- the term with s in place of the variable c, which is taken away
abbrev mutual
  pub subst : ℕ → PlacedTerm → PlacedTerm → PlacedTerm
  subst c s (at p (PlacedNode.var k)) = put c s p k
  subst c s (at p (PlacedNode.int n)) = at p (PlacedNode.int n)
  subst c s (at p (PlacedNode.bool b)) = at p (PlacedNode.bool b)
  subst c s (at p (PlacedNode.text t)) = at p (PlacedNode.text t)
  subst c s (at p (PlacedNode.table l)) = at p (PlacedNode.table l)
  subst c s (at p (PlacedNode.unary op t)) = at p (PlacedNode.unary op (subst c s t))
  subst c s (at p (PlacedNode.binary op t u)) = at p (PlacedNode.binary op (subst c s t) (subst c s u))
  subst c s (at p (PlacedNode.choose t u v)) = at p (PlacedNode.choose (subst c s t) (subst c s u) (subst c s v))
  subst c s (at p (PlacedNode.fun k t)) = at p (PlacedNode.fun k (subst (c + 1) s t))
  subst c s (at p (PlacedNode.apply t u)) = at p (PlacedNode.apply (subst c s t) (subst c s u))
  subst c s (at p (PlacedNode.rec fs)) = at p (PlacedNode.rec (subst_fields c s fs))
  subst c s (at p (PlacedNode.field t l)) = at p (PlacedNode.field (subst c s t) l)
  subst c s (at p (PlacedNode.aggregate g t)) = at p (PlacedNode.aggregate g (subst c s t))
  subst c s (at p (PlacedNode.single t)) = at p (PlacedNode.single (subst c s t))
  subst c s (at p (PlacedNode.nil k)) = at p (PlacedNode.nil k)
  subst c s (at p (PlacedNode.union t u)) = at p (PlacedNode.union (subst c s t) (subst c s u))
  subst c s (at p (PlacedNode.for t u)) = at p (PlacedNode.for (subst c s t) (subst (c + 1) s u))
  subst c s (at p (PlacedNode.guard t u)) = at p (PlacedNode.guard (subst c s t) (subst c s u))
  subst c s (at p (PlacedNode.bind t u)) = at p (PlacedNode.bind (subst c s t) (subst (c + 1) s u))

  pub subst_fields : ℕ → PlacedTerm → PlacedFields → PlacedFields
  subst_fields c s PlacedFields.none = PlacedFields.none
  subst_fields c s (PlacedFields.with_field l t fs) = PlacedFields.with_field l (subst c s t) (subst_fields c s fs)

-- the same on terms without places
abbrev mutual
  pub shift_tree : ℕ → ℕ → TermTree → TermTree
  shift_tree d c (TermTree.var k) = TermTree.var (shift_index d c k)
  shift_tree d c (TermTree.int n) = TermTree.int n
  shift_tree d c (TermTree.bool b) = TermTree.bool b
  shift_tree d c (TermTree.text t) = TermTree.text t
  shift_tree d c (TermTree.table l) = TermTree.table l
  shift_tree d c (TermTree.unary op t) = TermTree.unary op (shift_tree d c t)
  shift_tree d c (TermTree.binary op t u) = TermTree.binary op (shift_tree d c t) (shift_tree d c u)
  shift_tree d c (TermTree.choose t u v) = TermTree.choose (shift_tree d c t) (shift_tree d c u) (shift_tree d c v)
  shift_tree d c (TermTree.fun k t) = TermTree.fun k (shift_tree d (c + 1) t)
  shift_tree d c (TermTree.apply t u) = TermTree.apply (shift_tree d c t) (shift_tree d c u)
  shift_tree d c (TermTree.rec fs) = TermTree.rec (shift_tree_fields d c fs)
  shift_tree d c (TermTree.field t l) = TermTree.field (shift_tree d c t) l
  shift_tree d c (TermTree.aggregate g t) = TermTree.aggregate g (shift_tree d c t)
  shift_tree d c (TermTree.single t) = TermTree.single (shift_tree d c t)
  shift_tree d c (TermTree.nil k) = TermTree.nil k
  shift_tree d c (TermTree.union t u) = TermTree.union (shift_tree d c t) (shift_tree d c u)
  shift_tree d c (TermTree.for t u) = TermTree.for (shift_tree d c t) (shift_tree d (c + 1) u)
  shift_tree d c (TermTree.guard t u) = TermTree.guard (shift_tree d c t) (shift_tree d c u)
  shift_tree d c (TermTree.bind t u) = TermTree.bind (shift_tree d c t) (shift_tree d (c + 1) u)

  pub shift_tree_fields : ℕ → ℕ → TermFields → TermFields
  shift_tree_fields d c TermFields.none = TermFields.none
  shift_tree_fields d c (TermFields.with_field l t fs) = TermFields.with_field l (shift_tree d c t) (shift_tree_fields d c fs)

abbrev pub put_tree : ℕ → TermTree → ℕ → TermTree
put_tree c s k = cond (nat_lt k c) (TermTree.var k) (cond (nat_eq k c) (shift_tree c 0 s) (TermTree.var (k - 1)))

abbrev mutual
  pub subst_tree : ℕ → TermTree → TermTree → TermTree
  subst_tree c s (TermTree.var k) = put_tree c s k
  subst_tree c s (TermTree.int n) = TermTree.int n
  subst_tree c s (TermTree.bool b) = TermTree.bool b
  subst_tree c s (TermTree.text t) = TermTree.text t
  subst_tree c s (TermTree.table l) = TermTree.table l
  subst_tree c s (TermTree.unary op t) = TermTree.unary op (subst_tree c s t)
  subst_tree c s (TermTree.binary op t u) = TermTree.binary op (subst_tree c s t) (subst_tree c s u)
  subst_tree c s (TermTree.choose t u v) = TermTree.choose (subst_tree c s t) (subst_tree c s u) (subst_tree c s v)
  subst_tree c s (TermTree.fun k t) = TermTree.fun k (subst_tree (c + 1) s t)
  subst_tree c s (TermTree.apply t u) = TermTree.apply (subst_tree c s t) (subst_tree c s u)
  subst_tree c s (TermTree.rec fs) = TermTree.rec (subst_tree_fields c s fs)
  subst_tree c s (TermTree.field t l) = TermTree.field (subst_tree c s t) l
  subst_tree c s (TermTree.aggregate g t) = TermTree.aggregate g (subst_tree c s t)
  subst_tree c s (TermTree.single t) = TermTree.single (subst_tree c s t)
  subst_tree c s (TermTree.nil k) = TermTree.nil k
  subst_tree c s (TermTree.union t u) = TermTree.union (subst_tree c s t) (subst_tree c s u)
  subst_tree c s (TermTree.for t u) = TermTree.for (subst_tree c s t) (subst_tree (c + 1) s u)
  subst_tree c s (TermTree.guard t u) = TermTree.guard (subst_tree c s t) (subst_tree c s u)
  subst_tree c s (TermTree.bind t u) = TermTree.bind (subst_tree c s t) (subst_tree (c + 1) s u)

  pub subst_tree_fields : ℕ → TermTree → TermFields → TermFields
  subst_tree_fields c s TermFields.none = TermFields.none
  subst_tree_fields c s (TermFields.with_field l t fs) = TermFields.with_field l (subst_tree c s t) (subst_tree_fields c s fs)

-- each field's label and term with its places
abbrev pub fields_with_places : List (List ℕ × Term) → List (List ℕ × PlacedTerm)
fields_with_places fs = map (λ f. (f.0, placed f.1)) fs
