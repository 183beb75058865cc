-- The walk over a query in one pass, over what the binders around each part stand for.
use Rattle.std.specs.Prelude.{ℕ, zero, suc, ◌+◌, ◌-◌, List, [], ◌∷◌}
use Rattle.nq_model.specs.Terms.{PlacedTerm, PlacedNode, PlacedFields, at, bare}
use Rattle.nq_model.specs.Substitution.{shift}
use Rattle.unfold.specs.Hereditary.{field_by, apply_at, fuel}

-- a binder that stays, or one whose variable is replaced by a done term, and how many binders that stay are
-- around it
pub data Entry : Type 0 where
  stays : ℕ → Entry
  given : ℕ → PlacedTerm → Entry

-- what a variable of place p becomes whose binder the entry stands for, under n binders that stay
abbrev pub stands_for : ℕ → ℕ → Entry → PlacedTerm
stands_for n p (stays m) = at p (PlacedNode.var (n - m - 1))
stands_for n p (given m s) = shift (n - m) 0 s

-- what the variable k, of place p, becomes there; one without an entry is a variable of the whole term
abbrev pub looked_up : ℕ → ℕ → List Entry → ℕ → PlacedTerm
looked_up n p [] k = at p (PlacedNode.var (k + n))
looked_up n p (e ∷ es) zero = stands_for n p e
looked_up n p (e ∷ es) (suc k) = looked_up n p es k

-- the done term that a part becomes under n binders that stay, where the binders around it stand for the
-- entries, the innermost first, and functions may be applied at r ranks
abbrev mutual
  pub walk_in : ℕ → ℕ → List Entry → PlacedTerm → PlacedTerm
  walk_in r n es (at p (PlacedNode.var k)) = looked_up n p es k
  walk_in r n es (at p (PlacedNode.int i)) = at p (PlacedNode.int i)
  walk_in r n es (at p (PlacedNode.bool b)) = at p (PlacedNode.bool b)
  walk_in r n es (at p (PlacedNode.text t)) = at p (PlacedNode.text t)
  walk_in r n es (at p (PlacedNode.table l)) = at p (PlacedNode.table l)
  walk_in r n es (at p (PlacedNode.unary op t)) = at p (PlacedNode.unary op (walk_in r n es t))
  walk_in r n es (at p (PlacedNode.binary op t u)) = at p (PlacedNode.binary op (walk_in r n es t) (walk_in r n es u))
  walk_in r n es (at p (PlacedNode.choose t u v)) = at p (PlacedNode.choose (walk_in r n es t) (walk_in r n es u) (walk_in r n es v))
  walk_in r n es (at p (PlacedNode.fun k t)) = at p (PlacedNode.fun k (walk_in r (n + 1) (stays n ∷ es) t))
  walk_in r n es (at p (PlacedNode.apply (at q (PlacedNode.fun k t)) u)) = walk_in r n (given n (walk_in r n es u) ∷ es) t
  walk_in r n es (at p (PlacedNode.apply t u)) = apply_at r p (walk_in r n es t) (walk_in r n es u)
  walk_in r n es (at p (PlacedNode.rec fs)) = at p (PlacedNode.rec (walk_each r n es fs))
  walk_in r n es (at p (PlacedNode.field t l)) = field_by p l (walk_in r n es t)
  walk_in r n es (at p (PlacedNode.aggregate g t)) = at p (PlacedNode.aggregate g (walk_in r n es t))
  walk_in r n es (at p (PlacedNode.single t)) = at p (PlacedNode.single (walk_in r n es t))
  walk_in r n es (at p (PlacedNode.nil k)) = at p (PlacedNode.nil k)
  walk_in r n es (at p (PlacedNode.union t u)) = at p (PlacedNode.union (walk_in r n es t) (walk_in r n es u))
  walk_in r n es (at p (PlacedNode.for t u)) = at p (PlacedNode.for (walk_in r n es t) (walk_in r (n + 1) (stays n ∷ es) u))
  walk_in r n es (at p (PlacedNode.guard t u)) = at p (PlacedNode.guard (walk_in r n es t) (walk_in r n es u))
  walk_in r n es (at p (PlacedNode.bind t u)) = walk_in r n (given n (walk_in r n es t) ∷ es) u

  pub walk_each : ℕ → ℕ → List Entry → PlacedFields → PlacedFields
  walk_each r n es PlacedFields.none = PlacedFields.none
  walk_each r n es (PlacedFields.with_field l t fs) = PlacedFields.with_field l (walk_in r n es t) (walk_each r n es fs)

-- an application, where under says what the body of a function that is written out becomes, and rest what any
-- other application does
abbrev pub taken_by : (PlacedTerm → PlacedTerm) → PlacedTerm → PlacedTerm → PlacedTerm
taken_by under rest (at q (PlacedNode.fun k t)) = under t
taken_by under rest t = rest

-- the walk over a whole query
abbrev pub walked : PlacedTerm → PlacedTerm
walked t = walk_in (fuel (bare t)) 0 [] t
