-- Substitution that contracts what it makes contractible, with the rank of types as its bound.
--
-- Hereditary substitution is after Watkins, Cervesato, Pfenning and Walker, "A Concurrent Logical Framework",
-- CMU-CS-02-101, 2002.
use Rattle.std.specs.Prelude.{ℕ, zero, suc, ◌+◌, max, List, Option, Some, None}
use Rattle.nq_model.specs.Types.{TypeTree, FieldTypes}
use Rattle.nq_model.specs.Terms.{PlacedTerm, PlacedNode, PlacedFields, at, TermTree, TermFields, bare}
use Rattle.nq_model.specs.Substitution.{put}
use Rattle.nq_model.specs.Unfolding.{picked}

-- how deep arrows nest in a type; bags hold none
abbrev mutual
  pub rank : TypeTree → ℕ
  rank TypeTree.int = 0
  rank TypeTree.bool = 0
  rank TypeTree.text = 0
  rank (TypeTree.rec fields) = ranks fields
  rank (TypeTree.bag a) = 0
  rank (TypeTree.fun a b) = suc (max (rank a) (rank b))

  pub ranks : FieldTypes → ℕ
  ranks FieldTypes.none = 0
  ranks (FieldTypes.field l a fields) = max (rank a) (ranks fields)

-- the term, or else the other
abbrev pub or_else : Option PlacedTerm → PlacedTerm → PlacedTerm
or_else None t = t
or_else (Some u) t = u

-- what a field of place p of a done part becomes
abbrev pub field_by : ℕ → List ℕ → PlacedTerm → PlacedTerm
field_by p l (at q (PlacedNode.rec fs)) = or_else (picked l fs) (at p (PlacedNode.field (at q (PlacedNode.rec fs)) l))
field_by p l (at q (PlacedNode.choose x t u)) = at p (PlacedNode.choose x (field_by p l t) (field_by p l u))
field_by p l t = at p (PlacedNode.field t l)

-- s in place of the variable c of a done term; app is what an application of done parts becomes, at a place
abbrev mutual
  pub substitute : (ℕ → PlacedTerm → PlacedTerm → PlacedTerm) → ℕ → PlacedTerm → PlacedTerm → PlacedTerm
  substitute app c s (at p (PlacedNode.var k)) = put c s p k
  substitute app c s (at p (PlacedNode.int n)) = at p (PlacedNode.int n)
  substitute app c s (at p (PlacedNode.bool b)) = at p (PlacedNode.bool b)
  substitute app c s (at p (PlacedNode.text t)) = at p (PlacedNode.text t)
  substitute app c s (at p (PlacedNode.table l)) = at p (PlacedNode.table l)
  substitute app c s (at p (PlacedNode.unary op t)) = at p (PlacedNode.unary op (substitute app c s t))
  substitute app c s (at p (PlacedNode.binary op t u)) = at p (PlacedNode.binary op (substitute app c s t) (substitute app c s u))
  substitute app c s (at p (PlacedNode.choose t u v)) = at p (PlacedNode.choose (substitute app c s t) (substitute app c s u) (substitute app c s v))
  substitute app c s (at p (PlacedNode.fun k t)) = at p (PlacedNode.fun k (substitute app (c + 1) s t))
  substitute app c s (at p (PlacedNode.apply t u)) = app p (substitute app c s t) (substitute app c s u)
  substitute app c s (at p (PlacedNode.rec fs)) = at p (PlacedNode.rec (substitute_fields app c s fs))
  substitute app c s (at p (PlacedNode.field t l)) = field_by p l (substitute app c s t)
  substitute app c s (at p (PlacedNode.aggregate g t)) = at p (PlacedNode.aggregate g (substitute app c s t))
  substitute app c s (at p (PlacedNode.single t)) = at p (PlacedNode.single (substitute app c s t))
  substitute app c s (at p (PlacedNode.nil k)) = at p (PlacedNode.nil k)
  substitute app c s (at p (PlacedNode.union t u)) = at p (PlacedNode.union (substitute app c s t) (substitute app c s u))
  substitute app c s (at p (PlacedNode.for t u)) = at p (PlacedNode.for (substitute app c s t) (substitute app (c + 1) s u))
  substitute app c s (at p (PlacedNode.guard t u)) = at p (PlacedNode.guard (substitute app c s t) (substitute app c s u))
  substitute app c s (at p (PlacedNode.bind t u)) = at p (PlacedNode.bind (substitute app c s t) (substitute app (c + 1) s u))

  pub substitute_fields : (ℕ → PlacedTerm → PlacedTerm → PlacedTerm) → ℕ → PlacedTerm → PlacedFields → PlacedFields
  substitute_fields app c s PlacedFields.none = PlacedFields.none
  substitute_fields app c s (PlacedFields.with_field l t fs) =
      PlacedFields.with_field l (substitute app c s t) (substitute_fields app c s fs)

-- an application of done parts, where sub puts the argument into a function's body
abbrev pub apply_by : (PlacedTerm → PlacedTerm → PlacedTerm) → ℕ → PlacedTerm → PlacedTerm → PlacedTerm
apply_by sub p (at q (PlacedNode.fun k t)) a = sub a t
apply_by sub p (at q (PlacedNode.choose x f g)) a = at p (PlacedNode.choose x (apply_by sub p f a) (apply_by sub p g a))
apply_by sub p f a = at p (PlacedNode.apply f a)

-- an application of done parts, where functions may be applied at n ranks, one below the other
abbrev pub apply_at : ℕ → ℕ → PlacedTerm → PlacedTerm → PlacedTerm
apply_at zero p f a = at p (PlacedNode.apply f a)
apply_at (suc n) p f a = apply_by (substitute (apply_at n) 0) p f a

-- a bound of the rank of each type in a closed term
abbrev mutual
  pub fuel : TermTree → ℕ
  fuel (TermTree.var k) = 0
  fuel (TermTree.int n) = 0
  fuel (TermTree.bool b) = 0
  fuel (TermTree.text t) = 0
  fuel (TermTree.table l) = 0
  fuel (TermTree.unary op t) = fuel t
  fuel (TermTree.binary op t u) = fuel t + fuel u
  fuel (TermTree.choose t u v) = fuel t + fuel u + fuel v
  fuel (TermTree.fun k t) = rank k + 1 + fuel t
  fuel (TermTree.apply t u) = fuel t + fuel u
  fuel (TermTree.rec fs) = fuel_fields fs
  fuel (TermTree.field t l) = fuel t
  fuel (TermTree.aggregate g t) = fuel t
  fuel (TermTree.single t) = fuel t
  fuel (TermTree.nil k) = 0
  fuel (TermTree.union t u) = fuel t + fuel u
  fuel (TermTree.for t u) = fuel t + fuel u
  fuel (TermTree.guard t u) = fuel t + fuel u
  fuel (TermTree.bind t u) = fuel t + fuel u

  pub fuel_fields : TermFields → ℕ
  fuel_fields TermFields.none = 0
  fuel_fields (TermFields.with_field l t fs) = fuel t + fuel_fields fs

-- the walk over a whole term
abbrev mutual
  pub walk : ℕ → PlacedTerm → PlacedTerm
  walk n (at p (PlacedNode.var k)) = at p (PlacedNode.var k)
  walk n (at p (PlacedNode.int i)) = at p (PlacedNode.int i)
  walk n (at p (PlacedNode.bool b)) = at p (PlacedNode.bool b)
  walk n (at p (PlacedNode.text t)) = at p (PlacedNode.text t)
  walk n (at p (PlacedNode.table l)) = at p (PlacedNode.table l)
  walk n (at p (PlacedNode.unary op t)) = at p (PlacedNode.unary op (walk n t))
  walk n (at p (PlacedNode.binary op t u)) = at p (PlacedNode.binary op (walk n t) (walk n u))
  walk n (at p (PlacedNode.choose t u v)) = at p (PlacedNode.choose (walk n t) (walk n u) (walk n v))
  walk n (at p (PlacedNode.fun k t)) = at p (PlacedNode.fun k (walk n t))
  walk n (at p (PlacedNode.apply t u)) = apply_at n p (walk n t) (walk n u)
  walk n (at p (PlacedNode.rec fs)) = at p (PlacedNode.rec (walk_fields n fs))
  walk n (at p (PlacedNode.field t l)) = field_by p l (walk n t)
  walk n (at p (PlacedNode.aggregate g t)) = at p (PlacedNode.aggregate g (walk n t))
  walk n (at p (PlacedNode.single t)) = at p (PlacedNode.single (walk n t))
  walk n (at p (PlacedNode.nil k)) = at p (PlacedNode.nil k)
  walk n (at p (PlacedNode.union t u)) = at p (PlacedNode.union (walk n t) (walk n u))
  walk n (at p (PlacedNode.for t u)) = at p (PlacedNode.for (walk n t) (walk n u))
  walk n (at p (PlacedNode.guard t u)) = at p (PlacedNode.guard (walk n t) (walk n u))
  walk n (at p (PlacedNode.bind t u)) = substitute (apply_at n) 0 (walk n t) (walk n u)

  pub walk_fields : ℕ → PlacedFields → PlacedFields
  walk_fields n PlacedFields.none = PlacedFields.none
  walk_fields n (PlacedFields.with_field l t fs) = PlacedFields.with_field l (walk n t) (walk_fields n fs)

abbrev pub unfolded : PlacedTerm → PlacedTerm
unfolded t = walk (fuel (bare t)) t
