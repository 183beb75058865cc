-- A nested value built from flat rows that name their inner bags.
--
-- Paths go by their numbers in pre-order, from 0; base parts and inner bags of an element by theirs, in
-- label order.
use Rattle.std.specs.Prelude.{◌≡◌, ℕ, ◌+◌, suc, List, map, ⊤}
use Rattle.nq_model.specs.Bags.{Matched}
use Rattle.nq_model.specs.Types.{TypeTree, int, bool, text, rec, bag, fun, FieldTypes, none, field}
use Rattle.nq_model.specs.Values.{Nested, base, Fields, bag_of}
use Rattle.nq_model.specs.declared.table.Cell.{Cell}
use Rattle.nq_ir.specs.Parts.{leaves, slots, bags}

-- where rows come from: the rows at a path under an index, the cell of a base part of a row, and the index that a row gives for an inner bag
pub record Source (I E : Type 0) : Type 0 where
  pub rows : ℕ → I → List E
  pub leaf : ℕ → ℕ → E → Cell
  pub inner : ℕ → ℕ → E → I

-- the value of a row e at the path q: l base parts and s inner bags of it stand before, and n is the number of the next inner path
abbrev mutual
  pub element : {I E : Type 0} → Source I E → TypeTree → (q l s n : ℕ) → E → Nested
  element S int q l s n e = base (S.leaf q l e)
  element S bool q l s n e = base (S.leaf q l e)
  element S text q l s n e = base (S.leaf q l e)
  element S (rec fs) q l s n e = Nested.rec (element_fields S fs q l s n e)
  element S (bag a) q l s n e = bag_of (map (λ r. element S a n 0 0 (suc n) r) (S.rows n (S.inner q s e)))
  element S (fun a b) q l s n e = Nested.rec Fields.none

  pub element_fields : {I E : Type 0} → Source I E → FieldTypes → (q l s n : ℕ) → E → Fields
  element_fields S none q l s n e = Fields.none
  element_fields S (field k a fs) q l s n e =
      Fields.field k (element S a q l s n e) (element_fields S fs q (l + leaves a) (s + slots a) (n + bags a) e)

-- the elements at the path q under the index i
abbrev pub built : {I E : Type 0} → Source I E → TypeTree → ℕ → I → List Nested
built S a q i = map (λ r. element S a q 0 0 (suc q) r) (S.rows q i)

-- two rows alike: equal base parts, and inner bags under indexes that R relates
abbrev mutual
  pub Alike : {I E J F : Type 0} → (ℕ → I → J → Type 0) → Source I E → Source J F → TypeTree → (q l s n : ℕ) → E → F → Type 0
  Alike R S T int q l s n e f = S.leaf q l e ≡ T.leaf q l f
  Alike R S T bool q l s n e f = S.leaf q l e ≡ T.leaf q l f
  Alike R S T text q l s n e f = S.leaf q l e ≡ T.leaf q l f
  Alike R S T (rec fs) q l s n e f = AlikeFields R S T fs q l s n e f
  Alike R S T (bag a) q l s n e f = R n (S.inner q s e) (T.inner q s f)
  Alike R S T (fun a b) q l s n e f = ⊤

  pub AlikeFields : {I E J F : Type 0} → (ℕ → I → J → Type 0) → Source I E → Source J F → FieldTypes → (q l s n : ℕ) → E → F → Type 0
  AlikeFields R S T none q l s n e f = ⊤
  AlikeFields R S T (field k a fs) q l s n e f =
      Alike R S T a q l s n e f × AlikeFields R S T fs q (l + leaves a) (s + slots a) (n + bags a) e f

-- at the path q, with elements of this type: under related indexes the rows pair off alike, in any order
abbrev pub FollowsAt : {I E J F : Type 0} → (ℕ → I → J → Type 0) → Source I E → Source J F → TypeTree → ℕ → Type 0
FollowsAt {I} {E} {J} {F} R S T a q =
    (i : I) (j : J) → R q i j → Matched (λ e f. Alike R S T a q 0 0 (suc q) e f) (S.rows q i) (T.rows q j)

-- the same at each path inside a type, of which n is the first
abbrev mutual
  pub FollowsIn : {I E J F : Type 0} → (ℕ → I → J → Type 0) → Source I E → Source J F → TypeTree → ℕ → Type 0
  FollowsIn R S T int n = ⊤
  FollowsIn R S T bool n = ⊤
  FollowsIn R S T text n = ⊤
  FollowsIn R S T (rec fs) n = FollowsFields R S T fs n
  FollowsIn R S T (bag a) n = FollowsAt R S T a n × FollowsIn R S T a (suc n)
  FollowsIn R S T (fun a b) n = ⊤

  pub FollowsFields : {I E J F : Type 0} → (ℕ → I → J → Type 0) → Source I E → Source J F → FieldTypes → ℕ → Type 0
  FollowsFields R S T none n = ⊤
  FollowsFields R S T (field k a fs) n = FollowsIn R S T a n × FollowsFields R S T fs (n + bags a)
