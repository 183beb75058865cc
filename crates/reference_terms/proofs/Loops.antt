-- Loops that put what each element gives behind what is there.
use Rattle.std.proofs.Common.{◌≡◌, ℕ, ◌≤◌, List, ◌++◌, drop, length, map, flat_map, ap, sym, ◌∙◌, append-nil}
use Rattle.reference_terms.proofs.Fields.{none_behind}

module _ {A B C : Type 0} (view : A → B) (gives : B → List C) (items : List A) (whole : List C) where
  pub loop_ends : (all : List C) (i : ℕ) → all ++ flat_map gives (map view (drop i items)) ≡ whole → length items ≤ i → all ≡ whole
  loop_ends all i h k = sym (append-nil all) ∙ ap (λ l. all ++ flat_map gives (map view l)) (sym (none_behind items i k)) ∙ h
