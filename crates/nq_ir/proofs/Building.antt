-- Rows that follow one another build the same nested multiset.
use Rattle.std.proofs.Common.{ℕ, ◌+◌, suc, refl}
use Rattle.nq_ir.specs.Building.{Alike, AlikeFields, FollowsFields, FollowsIn, Source, built, element, element_fields}
use Rattle.nq_ir.specs.Parts.{bags, leaves, slots}
use Rattle.nq_model.proofs.Bags.{matched_map}
use Rattle.nq_model.proofs.Sameness.{same_bag}
use Rattle.nq_model.specs.Types.{FieldTypes, TypeTree, bag, bool, field, fun, int, none, rec, text}
use Rattle.nq_model.specs.Values.{Same, SameFields, bag_of}

mutual
  pub alike_same : {I E J F : Type 0} (R : ℕ → I → J → Type 0) (S : Source I E) (T : Source J F) (A : TypeTree) (q l s n : ℕ) (e : E) (f : F) → FollowsIn R S T A n → Alike R S T A q l s n e f → Same (element S A q l s n e) (element T A q l s n f)
  alike_same R S T int q l s n e f h a = a
  alike_same R S T bool q l s n e f h a = a
  alike_same R S T text q l s n e f h a = a
  alike_same R S T (rec fs) q l s n e f h a = alike_fields R S T fs q l s n e f h a
  alike_same R S T (bag A) q l s n e f h a =
      same_bag (built S A n (S.inner q s e)) (built T A n (T.inner q s f)) (matched_map (λ x y. Alike R S T A n 0 0 (suc n) x y) Same (λ r. element S A n 0 0 (suc n) r) (λ r. element T A n 0 0 (suc n) r) (λ x y b. alike_same R S T A n 0 0 (suc n) x y h.1 b) (S.rows n (S.inner q s e)) (T.rows n (T.inner q s f)) (h.0 (S.inner q s e) (T.inner q s f) a))
  alike_same R S T (fun A B) q l s n e f h a = tt

  alike_fields : {I E J F : Type 0} (R : ℕ → I → J → Type 0) (S : Source I E) (T : Source J F) (fs : FieldTypes) (q l s n : ℕ) (e : E) (f : F) → FollowsFields R S T fs n → AlikeFields R S T fs q l s n e f → SameFields (element_fields S fs q l s n e) (element_fields T fs q l s n f)
  alike_fields R S T none q l s n e f h a = tt
  alike_fields R S T (field k A fs) q l s n e f h a =
      (refl, alike_same R S T A q l s n e f h.0 a.0, alike_fields R S T fs q (l + leaves A) (s + slots A) (n + bags A) e f h.1 a.1)

-- the whole: related top indexes give the same bag_of
pub follows_same : {I E J F : Type 0} (R : ℕ → I → J → Type 0) (S : Source I E) (T : Source J F) (A : TypeTree) (q : ℕ) (i : I) (j : J) → FollowsIn R S T (bag A) q → R q i j → Same (bag_of (built S A q i)) (bag_of (built T A q j))
follows_same R S T A q i j h r =
    same_bag (built S A q i) (built T A q j) (matched_map (λ x y. Alike R S T A q 0 0 (suc q) x y) Same (λ x. element S A q 0 0 (suc q) x) (λ x. element T A q 0 0 (suc q) x) (λ x y b. alike_same R S T A q 0 0 (suc q) x y h.1 b) (S.rows q i) (T.rows q j) (h.0 i j r))
