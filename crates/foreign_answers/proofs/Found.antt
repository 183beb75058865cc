-- What is found by an order of indexes, where they are equal as they tie.
use Rattle.std.proofs.Common.{◌≡◌, ℕ, Bool, cond, Some, nat_eq, sym, ◌∙◌}
use Rattle.std.specs.BTreeMap.{BTreeMap, get}
use Rattle.std.specs.Cmp.{both_tied, unsigned_ties}
use Rattle.std.specs.Map.{lookup}
use Rattle.std.specs.Ordering.{is_eq, nat_cmp, ordering_then}
use Rattle.std.specs.declared.cmp.Ordering.{Ordering}
use Rattle.foreign_answers.specs.Given.{first_given, same_key}

module _ {I : Type 0} (eq : I → I → Bool) (cmp : I → I → Ordering)
    (agree : (i j : I) → eq i j ≡ is_eq (cmp i j)) where
  abbrev key_cmp : (ℕ × I) → (ℕ × I) → Ordering
  key_cmp a b = ordering_then (nat_cmp a.0 b.0) (cmp a.1 b.1)

  keys_agree : (a b : ℕ × I) → same_key eq a b ≡ is_eq (key_cmp a b)
  keys_agree a b =
      both_tied (nat_eq a.0 b.0) (eq a.1 b.1) (nat_cmp a.0 b.0) (cmp a.1 b.1)
      (unsigned_ties a.0 b.0) (agree a.1 b.1)

  pub first_found : (firsts : BTreeMap (ℕ × I) ℕ) (s : ℕ) (i : I)
      → get key_cmp firsts (s, i) ≡ first_given eq firsts s i
  first_found firsts s i = λ t. lookup (λ k. sym (keys_agree (s, i) k) t) firsts.entries

  pub first_entered : (firsts more : BTreeMap (ℕ × I) ℕ) (t : ℕ) (own : I) (row : ℕ)
      → ((k : ℕ × I) → get key_cmp more k
      ≡ cond (is_eq (key_cmp (t, own) k)) (Some row) (get key_cmp firsts k))
      → (s : ℕ) (i : I) → first_given eq more s i
      ≡ cond (same_key eq (t, own) (s, i)) (Some row) (first_given eq firsts s i)
  first_entered firsts more t own row updates s i =
      sym (first_found more s i) ∙ updates (s, i)
      ∙ (λ u. cond (sym (keys_agree (t, own) (s, i)) u) (Some row) (first_found firsts s i u))
