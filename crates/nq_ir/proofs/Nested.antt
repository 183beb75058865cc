-- A let evaluates all conditions on whole combinations; the spots are the same as by nested choice.
use Rattle.nq_model.specs.Totals.{total_of}
use Rattle.std.proofs.Common.{◌≡◌, ℕ, List, [], ◌∷◌, ◌++◌, map, refl, sym, ap, ap₂, ◌∙◌, subst, Bool, true, false, cond, filter, flat_map, nat_eq, append_assoc, append-nil, ◌&&◌}
use Rattle.std.proofs.lemmas.List.Elements.{filter-append}
use Rattle.std.proofs.lemmas.List.{map-append}
use Rattle.std.proofs.lemmas.Grind.{flat_map-append}
use Rattle.nq_model.specs.declared.table.Cell.TheVariants as cell
use Rattle.nq_model.specs.Meaning.{is_none}
use Rattle.nq_model.specs.NamedRows.{cell_under}
use Rattle.nq_ir.specs.Meanings.{Env, Tables, all_true, choices, kept, no_kept, row_of, value}
use Rattle.nq_ir.specs.Spots.{both}
use Rattle.nq_ir.specs.Trees.{BaseTree, Conds, Tests, and_cond, binary, choose, column, empty, literal, no_cond, no_test, test, unary, total}
use Rattle.nq_ir.specs.declared.base.Gen.{Gen}
use Rattle.nq_model.specs.Operators.{binary_value, is_true, unary_value}
use Rattle.std.specs.List.{AllByRecursion as Each}

-- g is Fields.none of these numbers
abbrev pub Absent : ℕ → List ℕ → Type 0
Absent g ns = Each (λ n. nat_eq g n ≡ false) ns

-- no cell_under names one of these generators
abbrev mutual
  pub Avoids : List ℕ → BaseTree → Type 0
  Avoids ns (literal c) = Unit {0}
  Avoids ns (column g l) = Absent g ns
  Avoids ns (unary f b) = Avoids ns b
  Avoids ns (binary f a b) = Avoids ns a × Avoids ns b
  Avoids ns (choose t a b) = Avoids ns t × Avoids ns a × Avoids ns b
  Avoids ns (empty xs) = AvoidsTests ns xs
  Avoids ns (total g gens conds b) = AvoidsAll ns conds × Avoids ns b

  pub AvoidsAll : List ℕ → Conds → Type 0
  AvoidsAll ns no_cond = Unit {0}
  AvoidsAll ns (and_cond b bs) = Avoids ns b × AvoidsAll ns bs

  pub AvoidsTests : List ℕ → Tests → Type 0
  AvoidsTests ns no_test = Unit {0}
  AvoidsTests ns (test gens conds xs) = AvoidsAll ns conds × AvoidsTests ns xs

row_skips : (g : ℕ) (e f r : Env) → Absent g (map (λ b. b.0) f) → row_of g (e ++ (f ++ r)) ≡ row_of g (e ++ r)
row_skips g [] [] r h = refl
row_skips g [] (b ∷ f) r h = ap (λ c. cond c b.1 (row_of g (f ++ r))) h.0 ∙ row_skips g [] f r h.1
row_skips g (b ∷ e) f r h = ap (λ z. cond (nat_eq g b.0) b.1 z) (row_skips g e f r h)

pub filter_same : {A : Type 0} (p q : A → Bool) → ((x : A) → p x ≡ q x) → (xs : List A) → filter p xs ≡ filter q xs
filter_same p q h [] = refl
filter_same p q h (x ∷ xs) = ap₂ (λ b (l : List _). cond b (x ∷ l) l) (h x) (filter_same p q h xs)

pub map_same : {A B : Type 0} (f g : A → B) → ((x : A) → f x ≡ g x) → (xs : List A) → map f xs ≡ map g xs
map_same f g h [] = refl
map_same f g h (x ∷ xs) = ap₂ (λ y (l : List _). y ∷ l) (h x) (map_same f g h xs)

-- what is kept, with its values, where conditions and values are alike
pub kept_same : {A B : Type 0} (p q : A → Bool) (f g : A → B) → ((x : A) → p x ≡ q x) → ((x : A) → f x ≡ g x) → (xs : List A) → map f (filter p xs) ≡ map g (filter q xs)
kept_same p q f g h k xs = ap (map f) (filter_same p q h xs) ∙ map_same f g k (filter q xs)

module _ (ts : Tables) (f : Env) where
  mutual
    value_skips : (b : BaseTree) (e r : Env) → Avoids (map (λ b. b.0) f) b → value ts b (e ++ (f ++ r)) ≡ value ts b (e ++ r)
    value_skips (literal c) e r h = refl
    value_skips (column g l) e r h = ap (cell_under l) (row_skips g e f r h)
    value_skips (unary o b) e r h = ap (unary_value o) (value_skips b e r h)
    value_skips (binary o a b) e r h = ap₂ (binary_value o) (value_skips a e r h.0) (value_skips b e r h.1)
    value_skips (choose t a b) e r h =
        ap (λ z. cond (is_true z) (value ts a (e ++ (f ++ r))) (value ts b (e ++ (f ++ r)))) (value_skips t e r h.0) ∙ ap₂ (λ x y. cond (is_true (value ts t (e ++ r))) x y) (value_skips a e r h.1) (value_skips b e r h.2)
    value_skips (empty xs) e r h = ap cell.Bool (tests_skip xs e r h)
    value_skips (total g gens conds b) e r h =
        ap (total_of g) (kept_same (λ s. all_true ts conds (s ++ (e ++ (f ++ r)))) (λ s. all_true ts conds (s ++ (e ++ r))) (λ s. value ts b (s ++ (e ++ (f ++ r)))) (λ s. value ts b (s ++ (e ++ r))) (λ s. ap (all_true ts conds) (sym (append_assoc s e (f ++ r))) ∙ all_skip conds (s ++ e) r h.0 ∙ ap (all_true ts conds) (append_assoc s e r)) (λ s. ap (value ts b) (sym (append_assoc s e (f ++ r))) ∙ value_skips b (s ++ e) r h.1 ∙ ap (value ts b) (append_assoc s e r)) (choices ts gens))

    all_skip : (bs : Conds) (e r : Env) → AvoidsAll (map (λ b. b.0) f) bs → all_true ts bs (e ++ (f ++ r)) ≡ all_true ts bs (e ++ r)
    all_skip no_cond e r h = refl
    all_skip (and_cond b bs) e r h = ap₂ (λ x y. is_true x && y) (value_skips b e r h.0) (all_skip bs e r h.1)

    tests_skip : (xs : Tests) (e r : Env) → AvoidsTests (map (λ b. b.0) f) xs → no_kept ts xs (e ++ (f ++ r)) ≡ no_kept ts xs (e ++ r)
    tests_skip no_test e r h = refl
    tests_skip (test gens conds xs) e r h =
        ap₂ (λ (l : List Env) z. is_none l && z) (filter_same (λ s. all_true ts conds (s ++ (e ++ (f ++ r)))) (λ s. all_true ts conds (s ++ (e ++ r))) (λ s. ap (all_true ts conds) (sym (append_assoc s e (f ++ r))) ∙ all_skip conds (s ++ e) r h.0 ∙ ap (all_true ts conds) (append_assoc s e r)) (choices ts gens)) (tests_skip xs e r h.1)

-- conditions of the outer part, at a whole combination
outer_true : (ts : Tables) (bs : Conds) (e f : Env) → AvoidsAll (map (λ b. b.0) f) bs → all_true ts bs (e ++ f) ≡ all_true ts bs e
outer_true ts bs e f h =
    ap (λ (z : Env). all_true ts bs (e ++ z)) (sym (append-nil f)) ∙ all_skip ts f bs e [] h ∙ ap (all_true ts bs) (append-nil e)

both_true : (ts : Tables) (xs ys : Conds) (e : Env) → all_true ts (both xs ys) e ≡ (all_true ts xs e && all_true ts ys e)
both_true ts no_cond ys e = refl
both_true ts (and_cond x xs) ys e = ap (λ z. is_true (value ts x e) && z) (both_true ts xs ys e) ∙ go (is_true (value ts x e)) (all_true ts xs e) (all_true ts ys e)
  where
    go : (a b c : Bool) → (a && (b && c)) ≡ ((a && b) && c)
    go true b c = refl
    go false b c = refl

-- the choices have the generators' numbers
each_append : {A : Type 0} (P : A → Type 0) (xs ys : List A) → Each P xs → Each P ys → Each P (xs ++ ys)
each_append P [] ys g h = h
each_append P (x ∷ xs) ys g h = (g.0, each_append P xs ys g.1 h)

pub each_flat : {A B : Type 0} (P : B → Type 0) (g : A → List B) → ((x : A) → Each P (g x)) → (xs : List A) → Each P (flat_map g xs)
each_flat P g h [] = tt
each_flat P g h (x ∷ xs) = each_append P (g x) (flat_map g xs) (h x) (each_flat P g h xs)

pub each_mapped : {A B : Type 0} (f : A → B) (P : A → Type 0) (Q : B → Type 0) → ((x : A) → P x → Q (f x)) → (xs : List A) → Each P xs → Each Q (map f xs)
each_mapped f P Q t [] e = tt
each_mapped f P Q t (x ∷ xs) e = (t x e.0, each_mapped f P Q t xs e.1)

pub choice_numbers : (ts : Tables) (gs : List Gen) → Each (λ e. map (λ b. b.0) e ≡ map (λ g. g.number) gs) (choices ts gs)
choice_numbers ts [] = (refl, tt)
choice_numbers ts (g ∷ gs) =
    each_flat (λ e. map (λ b. b.0) e ≡ g.number ∷ map (λ g. g.number) gs) (λ r. map (λ rs. (g.number, r) ∷ rs) (choices ts gs)) (λ r. each_mapped (λ rs. (g.number, r) ∷ rs) (λ e. map (λ b. b.0) e ≡ map (λ g. g.number) gs) (λ e. map (λ b. b.0) e ≡ g.number ∷ map (λ g. g.number) gs) (λ e h. ap (λ (l : List ℕ). g.number ∷ l) h) (choices ts gs) (choice_numbers ts gs)) (ts g.table)

pub map_id : {A : Type 0} (xs : List A) → map (λ x. x) xs ≡ xs
map_id [] = refl
map_id (x ∷ xs) = ap (λ (l : List _). x ∷ l) (map_id xs)

pub map_flat : {A B C : Type 0} (h : B → C) (g : A → List B) (xs : List A) → map h (flat_map g xs) ≡ flat_map (λ x. map h (g x)) xs
map_flat h g [] = refl
map_flat h g (x ∷ xs) = map-append h (g x) (flat_map g xs) ∙ ap (λ (l : List _). map h (g x) ++ l) (map_flat h g xs)

pub flat_flat : {A B C : Type 0} (h : B → List C) (g : A → List B) (xs : List A) → flat_map h (flat_map g xs) ≡ flat_map (λ x. flat_map h (g x)) xs
flat_flat h g [] = refl
flat_flat h g (x ∷ xs) = flat_map-append h (g x) (flat_map g xs) ∙ ap (λ (l : List _). flat_map h (g x) ++ l) (flat_flat h g xs)

pub flat_same : {A B : Type 0} (g h : A → List B) → ((x : A) → g x ≡ h x) → (xs : List A) → flat_map g xs ≡ flat_map h xs
flat_same g h e [] = refl
flat_same g h e (x ∷ xs) = ap₂ (λ (a b : List _). a ++ b) (e x) (flat_same g h e xs)

pub flat_of_map : {A B C : Type 0} (h : B → List C) (g : A → B) (xs : List A) → flat_map h (map g xs) ≡ flat_map (λ x. h (g x)) xs
flat_of_map h g [] = refl
flat_of_map h g (x ∷ xs) = ap (λ (l : List _). h (g x) ++ l) (flat_of_map h g xs)

pub map_of_map : {A B C : Type 0} (h : B → C) (g : A → B) (xs : List A) → map h (map g xs) ≡ map (λ x. h (g x)) xs
map_of_map h g [] = refl
map_of_map h g (x ∷ xs) = ap (λ (l : List _). h (g x) ∷ l) (map_of_map h g xs)

choices_append : (ts : Tables) (gs hs : List Gen) → choices ts (gs ++ hs) ≡ flat_map (λ e. map (λ f. e ++ f) (choices ts hs)) (choices ts gs)
choices_append ts [] hs = sym (append-nil (map (λ f. f) (choices ts hs)) ∙ map_id (choices ts hs))
choices_append ts (g ∷ gs) hs =
    flat_same (λ r. map (λ rs. (g.number, r) ∷ rs) (choices ts (gs ++ hs))) (λ r. flat_map (λ e. map (λ f. e ++ f) (choices ts hs)) (map (λ rs. (g.number, r) ∷ rs) (choices ts gs))) (λ r. ap (map (λ rs. (g.number, r) ∷ rs)) (choices_append ts gs hs) ∙ map_flat (λ rs. (g.number, r) ∷ rs) (λ e. map (λ f. e ++ f) (choices ts hs)) (choices ts gs) ∙ flat_same (λ e. map (λ rs. (g.number, r) ∷ rs) (map (λ f. e ++ f) (choices ts hs))) (λ e. map (λ f. (g.number, r) ∷ (e ++ f)) (choices ts hs)) (λ e. map_of_map (λ rs. (g.number, r) ∷ rs) (λ f. e ++ f) (choices ts hs)) (choices ts gs) ∙ sym (flat_of_map (λ e. map (λ f. e ++ f) (choices ts hs)) (λ rs. (g.number, r) ∷ rs) (choices ts gs))) (ts g.table)
    ∙ sym (flat_flat (λ e. map (λ f. e ++ f) (choices ts hs)) (λ r. map (λ rs. (g.number, r) ∷ rs) (choices ts gs)) (ts g.table))

-- one outer choice: its own conditions decide, and then those of the inner part
one_outer : (ts : Tables) (oc conds : Conds) (ns : List ℕ) → AvoidsAll ns oc → (e : Env) (fs : List Env) → Each (λ f. map (λ b. b.0) f ≡ ns) fs → filter (λ z. all_true ts (both oc conds) z) (map (λ f. e ++ f) fs) ≡ cond (all_true ts oc e) (filter (λ z. all_true ts conds z) (map (λ f. e ++ f) fs)) []
one_outer ts oc conds ns av e [] h = go (all_true ts oc e)
  where
    go : (b : Bool) → ◌≡◌ {A = List Env} [] (cond b [] [])
    go true = refl
    go false = refl
one_outer ts oc conds ns av e (f ∷ fs) h =
    ap (λ b. cond b ((e ++ f) ∷ filter (λ z. all_true ts (both oc conds) z) (map (λ f. e ++ f) fs)) (filter (λ z. all_true ts (both oc conds) z) (map (λ f. e ++ f) fs))) (both_true ts oc conds (e ++ f) ∙ ap (λ b. b && all_true ts conds (e ++ f)) (outer_true ts oc e f (subst (λ (l : List ℕ). AvoidsAll l oc) (sym h.0) av)))
    ∙ go (all_true ts oc e) (all_true ts conds (e ++ f)) (one_outer ts oc conds ns av e fs h.1)
  where
    go : (a b : Bool) → filter (λ z. all_true ts (both oc conds) z) (map (λ f. e ++ f) fs) ≡ cond a (filter (λ z. all_true ts conds z) (map (λ f. e ++ f) fs)) [] → cond (a && b) ((e ++ f) ∷ filter (λ z. all_true ts (both oc conds) z) (map (λ f. e ++ f) fs)) (filter (λ z. all_true ts (both oc conds) z) (map (λ f. e ++ f) fs)) ≡ cond a (cond b ((e ++ f) ∷ filter (λ z. all_true ts conds z) (map (λ f. e ++ f) fs)) (filter (λ z. all_true ts conds z) (map (λ f. e ++ f) fs))) []
    go true true i = ap (λ (l : List Env). (e ++ f) ∷ l) i
    go true false i = i
    go false b i = i

-- the kept combinations of all generators in scope are the outer ones, each with its kept inner choices
pub nested_kept : (ts : Tables) (og gens : List Gen) (oc conds : Conds) → AvoidsAll (map (λ g. g.number) gens) oc → kept ts (og ++ gens) (both oc conds) [] ≡ flat_map (λ e. kept ts gens conds e) (kept ts og oc [])
nested_kept ts og gens oc conds av =
    ap (filter (λ z. all_true ts (both oc conds) z)) (map_id (choices ts (og ++ gens)) ∙ choices_append ts og gens)
    ∙ outers (choices ts og)
    ∙ ap (λ (l : List Env). flat_map (λ e. kept ts gens conds e) (filter (λ z. all_true ts oc z) l)) (sym (map_id (choices ts og)))
  where
    step_over : (e : Env) (es : List Env) (b : Bool) → filter (λ z. all_true ts (both oc conds) z) (flat_map (λ e. map (λ f. e ++ f) (choices ts gens)) es) ≡ flat_map (λ e. kept ts gens conds e) (filter (λ z. all_true ts oc z) es) → cond b (kept ts gens conds e) [] ++ filter (λ z. all_true ts (both oc conds) z) (flat_map (λ e. map (λ f. e ++ f) (choices ts gens)) es) ≡ flat_map (λ e. kept ts gens conds e) (cond b (e ∷ filter (λ z. all_true ts oc z) es) (filter (λ z. all_true ts oc z) es))
    step_over e es true i = ap (λ (l : List Env). kept ts gens conds e ++ l) i
    step_over e es false i = i

    outers : (es : List Env) → filter (λ z. all_true ts (both oc conds) z) (flat_map (λ e. map (λ f. e ++ f) (choices ts gens)) es) ≡ flat_map (λ e. kept ts gens conds e) (filter (λ z. all_true ts oc z) es)
    outers [] = refl
    outers (e ∷ es) =
        filter-append (λ z. all_true ts (both oc conds) z) (map (λ f. e ++ f) (choices ts gens)) (flat_map (λ e. map (λ f. e ++ f) (choices ts gens)) es)
        ∙ ap (λ (l : List Env). l ++ filter (λ z. all_true ts (both oc conds) z) (flat_map (λ e. map (λ f. e ++ f) (choices ts gens)) es)) (one_outer ts oc conds (map (λ g. g.number) gens) av e (choices ts gens) (choice_numbers ts gens))
        ∙ step_over e es (all_true ts oc e) (outers es)
