-- The places of names, and what stands there.
use Rattle.std.proofs.Common.{◌≡◌, ℕ, zero, suc, ◌<◌, Bool, true, false, cond, List, [], ◌∷◌, ◌++◌, map, length, get_or, Option, Some, None, is_some, refl, sym, ap, ◌∙◌, arith, Bor}
use Rattle.std.specs.Cmp.Lexicographic.{nat_list_eq_equiv}
use Rattle.std.specs.Map.{update}
use Rattle.std.specs.Option.{option_map}
use Rattle.std.specs.Str.{bytes_eq}
use Rattle.std.proofs.lemmas.List.{length-map, map-append}
use Rattle.std.proofs.lemmas.Slice.Eq.{bytes_eq-Decides}
use Rattle.nq_model.specs.Tables.{Columns, types_of}
use Rattle.nq_model.specs.declared.table.ColumnType.{ColumnType}
use Rattle.sql_profile.specs.Scope.{found}
use Rattle.sql_scope.specs.Names.{named, place_of}

module _ {A : Type 0} where
  -- the first under the name stands at its place
  pub found_at : (name : List ℕ) (xs : List (Bor (List ℕ) × A)) (place : ℕ) → place_of name (named xs) ≡ Some place
      → (place < length xs) × ((d : Bor (List ℕ) × A) → found name (named xs) ≡ Some (get_or xs place d).1)
  found_at name [] place e = absurd (cc)
  found_at name (x ∷ xs) place e = go (bytes_eq name x.0.now) (place_of name (named xs)) place (found_at name xs) e
    where
      go : (b : Bool) (o : Option ℕ) (place : ℕ)
          → ((p : ℕ) → o ≡ Some p → (p < length xs) × ((d : Bor (List ℕ) × A) → found name (named xs) ≡ Some (get_or xs p d).1))
          → cond b (Some 0) (option_map (λ p. suc p) o) ≡ Some place
          → (place < suc (length xs)) × ((d : Bor (List ℕ) × A) → cond b (Some x.1) (found name (named xs)) ≡ Some (get_or (x ∷ xs) place d).1)
      go true o zero r e = (omega arith, λ d. refl)
      go true o (suc p) r e = absurd (cc)
      go false None p r e = absurd (cc)
      go false (Some q) zero r e = absurd (cc)
      go false (Some q) (suc p) r e =
          let same : ◌≡◌ {A = Option ℕ} (Some q) (Some p) = cc in
          let rest = r p same in
          (omega (arith, rest.0), rest.1)

  -- under a name that has no place stands nothing
  pub found_nowhere : (name : List ℕ) (xs : List (List ℕ × A)) → place_of name xs ≡ None → found name xs ≡ None
  found_nowhere name [] e = refl
  found_nowhere name (x ∷ xs) e = go (bytes_eq name x.0) (place_of name xs) (found_nowhere name xs) e
    where
      go : (b : Bool) (o : Option ℕ) → (o ≡ None → found name xs ≡ None) → cond b (Some 0) (option_map (λ p. suc p) o) ≡ None → cond b (Some x.1) (found name xs) ≡ None
      go true o r e = absurd (cc)
      go false None r e = r refl
      go false (Some q) r e = absurd (cc)

  -- one more stands behind those that are there
  place_kept : (name : List ℕ) (xs ys : List (List ℕ × A)) (place : ℕ) → place_of name xs ≡ Some place → place_of name (xs ++ ys) ≡ Some place
  place_kept name [] ys place e = absurd (cc)
  place_kept name (x ∷ xs) ys place e = go (bytes_eq name x.0) (place_of name xs) (place_kept name xs ys) e
    where
      go : (b : Bool) (o : Option ℕ) → ((p : ℕ) → o ≡ Some p → place_of name (xs ++ ys) ≡ Some p) → cond b (Some 0) (option_map (λ p. suc p) o) ≡ Some place
          → cond b (Some 0) (option_map (λ p. suc p) (place_of name (xs ++ ys))) ≡ Some place
      go true o r e = e
      go false None r e = absurd (cc)
      go false (Some q) r e = ap (option_map (λ p. suc p)) (r q refl) ∙ e

  place_last : (name : List ℕ) (xs : List (List ℕ × A)) (x : List ℕ × A) → place_of name xs ≡ None → place_of name (xs ++ x ∷ []) ≡ cond (bytes_eq name x.0) (Some (length xs)) None
  place_last name [] x e = refl
  place_last name (y ∷ ys) x e = go (bytes_eq name y.0) (place_of name ys) (place_last name ys x) e
    where
      further : (b : Bool) (n : ℕ) → option_map (λ p. suc p) (cond b (Some n) None) ≡ cond b (Some (suc n)) None
      further true n = refl
      further false n = refl

      go : (b : Bool) (o : Option ℕ) → (o ≡ None → place_of name (ys ++ x ∷ []) ≡ cond (bytes_eq name x.0) (Some (length ys)) None) → cond b (Some 0) (option_map (λ p. suc p) o) ≡ None
          → cond b (Some 0) (option_map (λ p. suc p) (place_of name (ys ++ x ∷ []))) ≡ cond (bytes_eq name x.0) (Some (suc (length ys))) None
      go true o r e = absurd (cc)
      go false None r e = ap (option_map (λ p. suc p)) (r refl) ∙ further (bytes_eq name x.0) (length ys)
      go false (Some q) r e = absurd (cc)

  -- a name that is there already gets no other place
  pub place_of-again : (n : List ℕ) (xs : List (List ℕ × A)) (x : List ℕ × A) → is_some (place_of x.0 xs) ≡ true → place_of n (xs ++ x ∷ []) ≡ place_of n xs
  place_of-again n xs x some = go (place_of n xs) refl
    where
      other : (b : Bool) → bytes_eq n x.0 ≡ b → place_of n xs ≡ None → cond b (Some (length xs)) None ≡ None
      other true e none = let same = (bytes_eq-Decides n x.0).0 e in let there : is_some (place_of n xs) ≡ true = ap (λ m. is_some (place_of m xs)) same ∙ some in absurd (cc)
      other false e none = refl

      go : (o : Option ℕ) → place_of n xs ≡ o → place_of n (xs ++ x ∷ []) ≡ o
      go None e = place_last n xs x e ∙ other (bytes_eq n x.0) refl e
      go (Some p) e = place_kept n xs (x ∷ []) p e

  -- a new name stands last
  pub place_of-new : (n : List ℕ) (xs : List (List ℕ × A)) (x : List ℕ × A) → is_some (place_of x.0 xs) ≡ false → place_of n (xs ++ x ∷ []) ≡ update bytes_eq (λ m. place_of m xs) x.0 (Some (length xs)) n
  place_of-new n xs x none = go (place_of n xs) refl ∙ ap (λ b. cond b (Some (length xs)) (place_of n xs)) (nat_list_eq_equiv.symm n x.0)
    where
      other : (b : Bool) → bytes_eq n x.0 ≡ b → (p : ℕ) → place_of n xs ≡ Some p → Some p ≡ cond b (Some (length xs)) (Some p)
      other true e p some = let same = (bytes_eq-Decides n x.0).0 e in let there : is_some (place_of n xs) ≡ false = ap (λ m. is_some (place_of m xs)) same ∙ none in absurd (cc)
      other false e p some = refl

      go : (o : Option ℕ) → place_of n xs ≡ o → place_of n (xs ++ x ∷ []) ≡ cond (bytes_eq n x.0) (Some (length xs)) (place_of n xs)
      go None e = place_last n xs x e ∙ ap (λ o. cond (bytes_eq n x.0) (Some (length xs)) o) (sym e)
      go (Some p) e = place_kept n xs (x ∷ []) p e ∙ other (bytes_eq n x.0) refl p e ∙ ap (λ o. cond (bytes_eq n x.0) (Some (length xs)) o) (sym e)

  pub named-more : (xs : List (Bor (List ℕ) × A)) (name : Bor (List ℕ)) (x : A) → named (xs ++ (name, x) ∷ []) ≡ named xs ++ (name.now, x) ∷ []
  named-more xs name x = map-append (λ (y : Bor (List ℕ) × A). (y.0.now, y.1)) xs ((name, x) ∷ [])

  pub length-named : (xs : List (Bor (List ℕ) × A)) → length (named xs) ≡ length xs
  length-named xs = length-map xs (λ (y : Bor (List ℕ) × A). (y.0.now, y.1))

-- the types of the columns
types_named : (xs : List (Bor (List ℕ) × ColumnType)) → map (λ x. x.1) xs ≡ types_of (named xs)
types_named [] = refl
types_named (x ∷ xs) = ap (λ (l : List ColumnType). x.1 ∷ l) (types_named xs)

pub types_read : (slice xs : List (Bor (List ℕ) × ColumnType)) (columns : Columns) → slice ≡ xs → named xs ≡ columns → map (λ x. x.1) slice ≡ types_of columns
types_read slice xs columns lent seen = ap (λ (l : List (Bor (List ℕ) × ColumnType)). map (λ x. x.1) l) lent ∙ types_named xs ∙ ap types_of seen
