-- Dropping places commutes with shifting and substituting, and what is done to each field of a record.
use Rattle.std.proofs.Common.{◌≡◌, ℕ, nat_lt, nat_eq, cond, Bool, true, false, ◌+◌, ◌-◌, List, [], ◌∷◌, map, refl, ap, sym, ◌∙◌}
use Rattle.nq_model.specs.Terms.{PlacedTerm, PlacedNode, PlacedFields, at, TermTree, bare, bare_fields, placed, placed_node, placed_fields, placed_fields_of}
use Rattle.nq_model.specs.declared.term.Term.{Term}
use Rattle.nq_model.specs.declared.term.Node.TheVariants.{Rec}
use Rattle.nq_model.specs.Substitution.{shift, shift_fields, put, subst, subst_fields, shift_tree, shift_tree_fields, put_tree, subst_tree, subst_tree_fields, fields_with_places}
use Rattle.nq_model.proofs.Terms.{node_record, placed_term}

mutual
  pub bare_shift : (d c : ℕ) (t : PlacedTerm) → bare (shift d c t) ≡ shift_tree d c (bare t)
  bare_shift d c (at p (PlacedNode.var k)) = refl
  bare_shift d c (at p (PlacedNode.int n)) = refl
  bare_shift d c (at p (PlacedNode.bool b)) = refl
  bare_shift d c (at p (PlacedNode.text t)) = refl
  bare_shift d c (at p (PlacedNode.table l)) = refl
  bare_shift d c (at p (PlacedNode.unary op t)) = ap (TermTree.unary op) (bare_shift d c t)
  bare_shift d c (at p (PlacedNode.binary op t u)) = rw (bare_shift d c t, bare_shift d c u) refl
  bare_shift d c (at p (PlacedNode.choose t u v)) = rw (bare_shift d c t, bare_shift d c u, bare_shift d c v) refl
  bare_shift d c (at p (PlacedNode.fun k t)) = ap (TermTree.fun k) (bare_shift d (c + 1) t)
  bare_shift d c (at p (PlacedNode.apply t u)) = rw (bare_shift d c t, bare_shift d c u) refl
  bare_shift d c (at p (PlacedNode.rec fs)) = ap TermTree.rec (bare_shift_fields d c fs)
  bare_shift d c (at p (PlacedNode.field t l)) = ap (λ x. TermTree.field x l) (bare_shift d c t)
  bare_shift d c (at p (PlacedNode.aggregate g t)) = ap (λ x. TermTree.aggregate g x) (bare_shift d c t)
  bare_shift d c (at p (PlacedNode.single t)) = ap TermTree.single (bare_shift d c t)
  bare_shift d c (at p (PlacedNode.nil k)) = refl
  bare_shift d c (at p (PlacedNode.union t u)) = rw (bare_shift d c t, bare_shift d c u) refl
  bare_shift d c (at p (PlacedNode.for t u)) = rw (bare_shift d c t, bare_shift d (c + 1) u) refl
  bare_shift d c (at p (PlacedNode.guard t u)) = rw (bare_shift d c t, bare_shift d c u) refl
  bare_shift d c (at p (PlacedNode.bind t u)) = rw (bare_shift d c t, bare_shift d (c + 1) u) refl

  pub bare_shift_fields : (d c : ℕ) (fs : PlacedFields) → bare_fields (shift_fields d c fs) ≡ shift_tree_fields d c (bare_fields fs)
  bare_shift_fields d c PlacedFields.none = refl
  bare_shift_fields d c (PlacedFields.with_field l t fs) = rw (bare_shift d c t, bare_shift_fields d c fs) refl

bare_put_by : (c : ℕ) (s : PlacedTerm) (p k : ℕ) (a b : Bool) → bare (cond a (at p (PlacedNode.var k)) (cond b (shift c 0 s) (at p (PlacedNode.var (k - 1))))) ≡ cond a (TermTree.var k) (cond b (shift_tree c 0 (bare s)) (TermTree.var (k - 1)))
bare_put_by c s p k true b = refl
bare_put_by c s p k false true = bare_shift c 0 s
bare_put_by c s p k false false = refl

pub bare_put : (c : ℕ) (s : PlacedTerm) (p k : ℕ) → bare (put c s p k) ≡ put_tree c (bare s) k
bare_put c s p k = bare_put_by c s p k (nat_lt k c) (nat_eq k c)

mutual
  pub bare_subst : (c : ℕ) (s t : PlacedTerm) → bare (subst c s t) ≡ subst_tree c (bare s) (bare t)
  bare_subst c s (at p (PlacedNode.var k)) = bare_put c s p k
  bare_subst c s (at p (PlacedNode.int n)) = refl
  bare_subst c s (at p (PlacedNode.bool b)) = refl
  bare_subst c s (at p (PlacedNode.text t)) = refl
  bare_subst c s (at p (PlacedNode.table l)) = refl
  bare_subst c s (at p (PlacedNode.unary op t)) = ap (TermTree.unary op) (bare_subst c s t)
  bare_subst c s (at p (PlacedNode.binary op t u)) = rw (bare_subst c s t, bare_subst c s u) refl
  bare_subst c s (at p (PlacedNode.choose t u v)) = rw (bare_subst c s t, bare_subst c s u, bare_subst c s v) refl
  bare_subst c s (at p (PlacedNode.fun k t)) = ap (TermTree.fun k) (bare_subst (c + 1) s t)
  bare_subst c s (at p (PlacedNode.apply t u)) = rw (bare_subst c s t, bare_subst c s u) refl
  bare_subst c s (at p (PlacedNode.rec fs)) = ap TermTree.rec (bare_subst_fields c s fs)
  bare_subst c s (at p (PlacedNode.field t l)) = ap (λ x. TermTree.field x l) (bare_subst c s t)
  bare_subst c s (at p (PlacedNode.aggregate g t)) = ap (λ x. TermTree.aggregate g x) (bare_subst c s t)
  bare_subst c s (at p (PlacedNode.single t)) = ap TermTree.single (bare_subst c s t)
  bare_subst c s (at p (PlacedNode.nil k)) = refl
  bare_subst c s (at p (PlacedNode.union t u)) = rw (bare_subst c s t, bare_subst c s u) refl
  bare_subst c s (at p (PlacedNode.for t u)) = rw (bare_subst c s t, bare_subst (c + 1) s u) refl
  bare_subst c s (at p (PlacedNode.guard t u)) = rw (bare_subst c s t, bare_subst c s u) refl
  bare_subst c s (at p (PlacedNode.bind t u)) = rw (bare_subst c s t, bare_subst (c + 1) s u) refl

  pub bare_subst_fields : (c : ℕ) (s : PlacedTerm) (fs : PlacedFields) → bare_fields (subst_fields c s fs) ≡ subst_tree_fields c (bare s) (bare_fields fs)
  bare_subst_fields c s PlacedFields.none = refl
  bare_subst_fields c s (PlacedFields.with_field l t fs) = rw (bare_subst c s t, bare_subst_fields c s fs) refl

-- what is done to each field
pub shift_fields-of : (d c : ℕ) (fs : List (List ℕ × PlacedTerm)) → shift_fields d c (placed_fields_of fs) ≡ placed_fields_of (map (λ f. (f.0, shift d c f.1)) fs)
shift_fields-of d c [] = refl
shift_fields-of d c (f ∷ fs) = ap (PlacedFields.with_field f.0 (shift d c f.1)) (shift_fields-of d c fs)

pub subst_fields-of : (c : ℕ) (s : PlacedTerm) (fs : List (List ℕ × PlacedTerm)) → subst_fields c s (placed_fields_of fs) ≡ placed_fields_of (map (λ f. (f.0, subst c s f.1)) fs)
subst_fields-of c s [] = refl
subst_fields-of c s (f ∷ fs) = ap (PlacedFields.with_field f.0 (subst c s f.1)) (subst_fields-of c s fs)

-- a record in which something was done to each field
pub record_done : (f : PlacedTerm → PlacedTerm) (each : PlacedFields → PlacedFields) → ((p : ℕ) (fs : PlacedFields) → f (at p (PlacedNode.rec fs)) ≡ at p (PlacedNode.rec (each fs))) → ((fs : List (List ℕ × PlacedTerm)) → each (placed_fields_of fs) ≡ placed_fields_of (map (λ x. (x.0, f x.1)) fs)) → (t u : Term) (fs gs : List (List ℕ × Term)) → t.node ≡ Rec fs → u.place ≡ t.place → u.node ≡ Rec gs → fields_with_places gs ≡ map (λ x. (x.0, f x.1)) (fields_with_places fs) → placed u ≡ f (placed t)
record_done f each is of t u fs gs old same new h =
    let a : placed t ≡ at t.place (PlacedNode.rec (placed_fields fs)) = placed_term t ∙ ap (at t.place) (ap placed_node old ∙ node_record fs) in
    let b : placed u ≡ at u.place (PlacedNode.rec (placed_fields gs)) = placed_term u ∙ ap (at u.place) (ap placed_node new ∙ node_record gs) in
    b ∙ ap (λ p. at p (PlacedNode.rec (placed_fields gs))) same ∙ ap (λ x. at t.place (PlacedNode.rec (placed_fields_of x))) h ∙ ap (λ x. at t.place (PlacedNode.rec x)) (sym (of (fields_with_places fs))) ∙ sym (is t.place (placed_fields fs)) ∙ ap f (sym a)

pub map_same : (fs : List (List ℕ × PlacedTerm)) → map (λ f. (f.0, f.1)) fs ≡ fs
map_same [] = refl
map_same (f ∷ fs) = ap (λ x. f ∷ x) (map_same fs)

pub kept : (fs : List (List ℕ × PlacedTerm)) → placed_fields_of fs ≡ placed_fields_of (map (λ f. (f.0, f.1)) fs)
kept fs = ap placed_fields_of (sym (map_same fs))
