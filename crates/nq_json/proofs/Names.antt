-- An object has the names of columns exactly where its keys are those names.
use Rattle.std.proofs.Common.{◌≡◌, ◌≢◌, ◌≤◌, ◌==◌, ◌||◌, ◌↔◌, ℕ, suc, Bool, true, false, Some, is_some, List, [], ◌∷◌, length, Contains, refl, sym, ap, ◌∙◌, inl, inr, ◌⊎◌, arith, Ordering, Less, Equal, Greater}
use Rattle.std.specs.Cmp.Lexicographic.{slice_cmp, bytes_decides, nat_list_eq_equiv}
use Rattle.std.specs.List.{list_any, IsDistinct, AllByRecursion as Each}
use Rattle.std.specs.Ordering.{match_ordering, nat_cmp}
use Rattle.std.specs.Str.{bytes_eq}
use Rattle.std.proofs.lemmas.Bool.{and_parts, or_cases}
use Rattle.std.proofs.lemmas.Bool.Decides.{Decides-eqb}
use Rattle.std.proofs.lemmas.List.{length-map}
use Rattle.std.proofs.lemmas.Map.Made.{length-le_from_is_member, length-from_same_keys}
use Rattle.std.proofs.lemmas.Map.Text.{is_eq-slice_cmp}
use Rattle.std.proofs.lemmas.Map.Views.{Contains-from_any, list_any-from_Contains}
use Rattle.nq_model.specs.Orders.{AreDistinct}
use Rattle.nq_model.specs.Tables.{Columns, names_of}
use Rattle.serde_json.specs.Data.{Members, no_members, member}
use Rattle.serde_json.specs.Find.{get_member}
use Rattle.nq_json.specs.Shapes.{keys_of}
use Rattle.nq_json.specs.Tables.{has_columns, has_names}

-- whether a text is among others
abbrev among : List (List ℕ) → List ℕ → Bool
among texts q = list_any (bytes_eq q) texts

bytes_same : (x y : List ℕ) → bytes_eq x y ≡ true → x ≡ y
bytes_same x y e = (bytes_decides x y).0 e

other_bytes : (x y : List ℕ) → x ≢ y → bytes_eq x y ≡ false
other_bytes x y apart = by (bytes_eq x y) refl
  where
    by : (b : Bool) → bytes_eq x y ≡ b → b ≡ false
    by true e = absurd (apart (bytes_same x y e))
    by false e = refl

each_other : (x : List ℕ) (ys : List (List ℕ)) → Each (λ y. x ≢ y) ys → Each (λ y. bytes_eq x y ≡ false) ys
each_other x [] each = tt
each_other x (y ∷ ys) (one, each) = (other_bytes x y one, each_other x ys each)

distinct : (xs : List (List ℕ)) → AreDistinct xs → IsDistinct bytes_eq xs
unfolding IsDistinct
distinct [] apart = tt
distinct (x ∷ xs) (each, apart) = (each_other x xs each, distinct xs apart)

none_among : (q : List ℕ) (ys : List (List ℕ)) → among ys q ≡ false → Each (λ y. bytes_eq q y ≡ false) ys
none_among q [] e = tt
none_among q (y ∷ ys) e = by (bytes_eq q y) refl e (none_among q ys)
  where
    by : (b : Bool) → bytes_eq q y ≡ b → (b || among ys q) ≡ false → (among ys q ≡ false → Each (λ z. bytes_eq q z ≡ false) ys)
        → (bytes_eq q y ≡ false) × Each (λ z. bytes_eq q z ≡ false) ys
    by true same e later = cc
    by false other e later = (other, later e)

-- a member is found under the keys
found_is : (q : List ℕ) (ms : Members) → is_some (get_member q ms) ≡ among (keys_of ms) q
found_is q no_members = refl
found_is q (member l e ms) = by (slice_cmp nat_cmp q l) refl (found_is q ms)
  where
    by : (o : Ordering) → slice_cmp nat_cmp q l ≡ o → is_some (get_member q ms) ≡ among (keys_of ms) q
        → is_some (match_ordering o (get_member q ms) (Some e) (get_member q ms)) ≡ (bytes_eq q l || among (keys_of ms) q)
    by Less is later = rw (sym (is_eq-slice_cmp q l), is) later
    by Equal is later = rw (sym (is_eq-slice_cmp q l), is) refl
    by Greater is later = rw (sym (is_eq-slice_cmp q l), is) later

all_found : (cs : Columns) (ms : Members) → has_columns cs ms ≡ true → (q : List ℕ) → among (names_of cs) q ≡ true → among (keys_of ms) q ≡ true
all_found [] ms has q e = cc
all_found (c ∷ cs) ms has q e =
    let (one, rest) = and_parts _ _ has in
    by one (or_cases _ _ e) (all_found cs ms rest q)
  where
    by : is_some (get_member c.0 ms) ≡ true → (bytes_eq q c.0 ≡ true) ⊎ (among (names_of cs) q ≡ true)
        → (among (names_of cs) q ≡ true → among (keys_of ms) q ≡ true) → among (keys_of ms) q ≡ true
    by one (inl same) later = ap (among (keys_of ms)) (bytes_same q c.0 same) ∙ sym (found_is c.0 ms) ∙ one
    by one (inr named) later = later named

or_true : (a b : Bool) → b ≡ true → (a || b) ≡ true
or_true true b e = refl
or_true false b e = e

found_all : (cs : Columns) (ms : Members) → ((q : List ℕ) → among (names_of cs) q ≡ true → among (keys_of ms) q ≡ true) → has_columns cs ms ≡ true
found_all [] ms each = refl
found_all (c ∷ cs) ms each =
    let itself : bytes_eq c.0 c.0 ≡ true = (bytes_decides c.0 c.0).1 refl in
    let one : is_some (get_member c.0 ms) ≡ true = found_is c.0 ms ∙ each c.0 (rw itself refl) in
    rw one (found_all cs ms (λ q e. each q (or_true (bytes_eq q c.0) _ e)))

one_more : (q : List ℕ) (xs : List (List ℕ)) → among xs q ≡ false → AreDistinct xs → IsDistinct bytes_eq (q ∷ xs)
unfolding IsDistinct
one_more q xs none apart = (none_among q xs none, distinct xs apart)

module _ (columns : Columns) (ms : Members) (names_apart : AreDistinct (names_of columns)) (keys_apart : AreDistinct (keys_of ms)) where
  -- no key is left over
  no_other : has_names columns ms ≡ true → (q : List ℕ) → among (keys_of ms) q ≡ true → among (names_of columns) q ≡ true
  no_other has q key = by (among (names_of columns) q) refl
    where
      parts : ((length (keys_of ms) == length columns) ≡ true) × (has_columns columns ms ≡ true)
      parts = and_parts _ _ has

      long : length (keys_of ms) ≡ length columns
      long = (Decides-eqb (length (keys_of ms)) (length columns)).0 parts.0

      each : (p : List ℕ) → among (q ∷ names_of columns) p ≡ true → among (keys_of ms) p ≡ true
      each p e = which (or_cases _ _ e)
        where
          which : (bytes_eq p q ≡ true) ⊎ (among (names_of columns) p ≡ true) → among (keys_of ms) p ≡ true
          which (inl same) = ap (among (keys_of ms)) (bytes_same p q same) ∙ key
          which (inr later) = all_found columns ms parts.1 p later

      by : (b : Bool) → among (names_of columns) q ≡ b → b ≡ true
      by true e = refl
      by false e =
          let short : suc (length (names_of columns)) ≤ length (keys_of ms) = length-le_from_is_member nat_list_eq_equiv (q ∷ names_of columns) (keys_of ms) (one_more q (names_of columns) e names_apart) each in
          let mapped : length (names_of columns) ≡ length columns = length-map columns _ in
          let whole = long in
          absurd (omega arith)

  same_among : ((key : List ℕ) → Contains (keys_of ms) key ↔ Contains (names_of columns) key) → (q : List ℕ) → among (keys_of ms) q ≡ among (names_of columns) q
  same_among same q = by (among (keys_of ms) q) (among (names_of columns) q) refl refl
    where
      to_names : among (keys_of ms) q ≡ true → among (names_of columns) q ≡ true
      to_names e = list_any-from_Contains nat_list_eq_equiv q (names_of columns) ((same q).0 (Contains-from_any bytes_same q (keys_of ms) e))

      to_keys : among (names_of columns) q ≡ true → among (keys_of ms) q ≡ true
      to_keys e = list_any-from_Contains nat_list_eq_equiv q (keys_of ms) ((same q).1 (Contains-from_any bytes_same q (names_of columns) e))

      by : (a b : Bool) → among (keys_of ms) q ≡ a → among (names_of columns) q ≡ b → a ≡ b
      by true b e f = sym (to_names e) ∙ f
      by false true e f = sym e ∙ to_keys f
      by false false e f = refl

  pub names_are : (has_names columns ms ≡ true) ↔ ((key : List ℕ) → Contains (keys_of ms) key ↔ Contains (names_of columns) key)
  names_are = (to, from)
    where
      to : has_names columns ms ≡ true → (key : List ℕ) → Contains (keys_of ms) key ↔ Contains (names_of columns) key
      to has key = (
        λ held. Contains-from_any bytes_same key (names_of columns) (no_other has key (list_any-from_Contains nat_list_eq_equiv key (keys_of ms) held)),
        λ named. Contains-from_any bytes_same key (keys_of ms) (all_found columns ms (and_parts (length (keys_of ms) == length columns) (has_columns columns ms) has).1 key (list_any-from_Contains nat_list_eq_equiv key (names_of columns) named)),
      )

      from : ((key : List ℕ) → Contains (keys_of ms) key ↔ Contains (names_of columns) key) → has_names columns ms ≡ true
      from same =
          let long : length (keys_of ms) ≡ length (names_of columns) =
          length-from_same_keys nat_list_eq_equiv (keys_of ms) (names_of columns) (distinct (keys_of ms) keys_apart) (distinct (names_of columns) names_apart) (same_among same) in
          let counted : (length (keys_of ms) == length columns) ≡ true = (Decides-eqb (length (keys_of ms)) (length columns)).1 (long ∙ length-map columns _) in
          rw counted (found_all columns ms (λ q named. same_among same q ∙ named))
