-- An emitted expression has the value of its base term.
use Rattle.std.specs.Int.{int_wrap, w64}
use Rattle.nq_model.proofs.Numberings.{length_map}
use Rattle.nq_ir.proofs.RawMeanings.{kept_each}
use Rattle.nq_model.specs.Totals.{HowMany, SumOf, total_of}
use Rattle.std.proofs.Common.{◌≡◌, ℕ, List, [], ◌∷◌, ◌++◌, map, refl, sym, ap, ap₂, ◌∙◌, Bool, true, false, cond, filter, nat_eq, ◌&&◌, pos}
use Rattle.std.proofs.lemmas.Bool.Decides.{Decides-eqb}
use Rattle.std.specs.List.{AllByRecursion as Each}
use Rattle.nq_model.specs.NamedRows.{Label, NamedTables, cell_under, rows_named}
use Rattle.nq_model.specs.Meaning.{is_none}
use Rattle.nq_model.specs.Operators.{is_true, unary_value, binary_value}
use Rattle.nq_model.specs.declared.table.Cell.{Cell}
use Rattle.nq_model.specs.declared.table.Cell.TheVariants as cell
use Rattle.nq_model.specs.declared.term.Binary.TheVariants.{And}
use Rattle.nq_ir.specs.declared.base.Gen.{Gen}
use Rattle.nq_ir.specs.Trees.{BaseTree, literal, column, unary, binary, choose, empty, Conds, no_cond, and_cond, Tests, no_test, test, total}
use Rattle.nq_ir.specs.Meanings.{Tables, Env, row_of, choices, value, all_true, no_kept}
use Rattle.nq_ir.proofs.Nested.{map_flat, map_of_map, choice_numbers, flat_same}
use Rattle.sql_profile.specs.Trees.{ExprTree}
use Rattle.sql_profile.specs.AllowedAnswers.{Scope, row_at, combinations, expr_value, keeps, keeps_none}
use Rattle.flatten.specs.Names.{alias, let_alias, outer_column}
use Rattle.flatten.specs.Exprs.{literal_expr, column_expr, source_of, base_expr, conds_keep, joined, tests_query}
use Rattle.flatten.proofs.Apart.{aliases_apart, not_let}

-- the rows of named tables
abbrev pub by_name : NamedTables → Tables
by_name ts name = rows_named name ts

-- no generator inside a test is an outer one
abbrev mutual
  pub Inner : (ℕ → Bool) → BaseTree → Type 0
  Inner outer (literal c) = Unit {0}
  Inner outer (column g l) = Unit {0}
  Inner outer (unary f b) = Inner outer b
  Inner outer (binary f a b) = Inner outer a × Inner outer b
  Inner outer (choose t a b) = Inner outer t × Inner outer a × Inner outer b
  Inner outer (empty xs) = InnerTests outer xs
  Inner outer (total g gens conds b) = Each (λ g. outer g.number ≡ false) gens × InnerAll outer conds × Inner outer b

  pub InnerAll : (ℕ → Bool) → Conds → Type 0
  InnerAll outer no_cond = Unit {0}
  InnerAll outer (and_cond b bs) = Inner outer b × InnerAll outer bs

  pub InnerTests : (ℕ → Bool) → Tests → Type 0
  InnerTests outer no_test = Unit {0}
  InnerTests outer (test gens conds xs) = Each (λ g. outer g.number ≡ false) gens × InnerAll outer conds × InnerTests outer xs

filter_each : {A : Type 0} (P : A → Type 0) (p q : A → Bool) → ((x : A) → P x → p x ≡ q x) → (xs : List A) → Each P xs → filter p xs ≡ filter q xs
filter_each P p q h [] e = refl
filter_each P p q h (x ∷ xs) e = ap₂ (λ b (l : List _). cond b (x ∷ l) l) (h x e.0) (filter_each P p q h xs e.1)

none_mapped : {A B : Type 0} (f : A → B) (p : B → Bool) (xs : List A) → is_none (filter p (map f xs)) ≡ is_none (filter (λ x. p (f x)) xs)
none_mapped f p [] = refl
none_mapped f p (x ∷ xs) = go (p (f x)) (none_mapped f p xs)
  where
    go : (b : Bool) → is_none (filter p (map f xs)) ≡ is_none (filter (λ x. p (f x)) xs) → is_none (cond b (f x ∷ filter p (map f xs)) (filter p (map f xs))) ≡ is_none (cond b (x ∷ filter (λ x. p (f x)) xs) (filter (λ x. p (f x)) xs))
    go true h = refl
    go false h = h

-- none of these rows stands for an outer generator
own_rows : (outer : ℕ → Bool) (gens : List Gen) (f : Env) → map (λ b. b.0) f ≡ map (λ g. g.number) gens → Each (λ g. outer g.number ≡ false) gens → Each (λ b. outer b.0 ≡ false) f
own_rows outer gens [] e h = tt
own_rows outer [] (b ∷ f) e h = absurd (cc)
own_rows outer (g ∷ gens) (b ∷ f) e h =
    let k : b.0 ≡ g.number = cc in
    let t : map (λ b. b.0) f ≡ map (λ g. g.number) gens = cc in
    (ap outer k ∙ h.0, own_rows outer gens f t h.1)

apart_from : (outer : ℕ → Bool) (g b : ℕ) → outer g ≡ true → outer b ≡ false → nat_eq g b ≡ false
apart_from outer g b h k = go (nat_eq g b) refl
  where
    go : (c : Bool) → nat_eq g b ≡ c → c ≡ false
    go true e = let w : g ≡ b = (Decides-eqb g b).0 e in absurd (let u : true ≡ false = sym h ∙ ap outer w ∙ k in cc)
    go false e = refl

-- rows of generators as rows of their sources
abbrev pub scoped : Env → Scope
scoped e = map (λ b. (alias b.0, b.1)) e

pub row_shown : (g : ℕ) (e : Env) → row_at (alias g) (scoped e) ≡ row_of g e
row_shown g [] = refl
row_shown g (b ∷ e) = ap₂ (λ c r. cond c b.1 r) (aliases_apart g b.0) (row_shown g e)

pub literal_is : (ts : NamedTables) (c : Cell) (sc : Scope) → expr_value ts (literal_expr c) sc ≡ c
literal_is ts (cell.Int n) sc = refl
literal_is ts (cell.Bool b) sc = refl
literal_is ts (cell.Text t) sc = refl

module _ (ts : NamedTables) (outer : ℕ → Bool) where
  -- the scope shows, of each column, what the rows have
  abbrev pub Shows : Scope → Env → Type 0
  Shows sc e = (g : ℕ) (l : Label) → expr_value ts (column_expr outer g l) sc ≡ cell_under l (row_of g e)

  pub combinations_are : (gens : List Gen) → combinations ts (map source_of gens) ≡ map scoped (choices (by_name ts) gens)
  combinations_are [] = refl
  combinations_are (g ∷ gens) =
      flat_same (λ r. map (λ rs. (alias g.number, r) ∷ rs) (combinations ts (map source_of gens))) (λ r. map scoped (map (λ rs. (g.number, r) ∷ rs) (choices (by_name ts) gens))) (λ r. ap (map (λ rs. (alias g.number, r) ∷ rs)) (combinations_are gens) ∙ map_of_map (λ rs. (alias g.number, r) ∷ rs) scoped (choices (by_name ts) gens) ∙ sym (map_of_map scoped (λ rs. (g.number, r) ∷ rs) (choices (by_name ts) gens))) (rows_named g.table ts)
      ∙ sym (map_flat scoped (λ r. map (λ rs. (g.number, r) ∷ rs) (choices (by_name ts) gens)) (rows_named g.table ts))

  pub shows_more : (f : Env) (sc : Scope) (e : Env) → Each (λ b. outer b.0 ≡ false) f → Shows sc e → Shows (scoped f ++ sc) (f ++ e)
  shows_more [] sc e h s g l = s g l
  shows_more (b ∷ f) sc e h s g l = go (outer g) refl (shows_more f sc e h.1 s g l)
    where
      go : (o : Bool) → outer g ≡ o → expr_value ts (cond o (ExprTree.column let_alias (outer_column g l)) (ExprTree.column (alias g) l)) (scoped f ++ sc) ≡ cell_under l (row_of g (f ++ e)) → expr_value ts (cond o (ExprTree.column let_alias (outer_column g l)) (ExprTree.column (alias g) l)) ((alias b.0, b.1) ∷ (scoped f ++ sc)) ≡ cell_under l (cond (nat_eq g b.0) b.1 (row_of g (f ++ e)))
      go true o i = ap (λ z. cell_under (outer_column g l) (cond z b.1 (row_at let_alias (scoped f ++ sc)))) (not_let b.0) ∙ i ∙ ap (λ z. cell_under l (cond z b.1 (row_of g (f ++ e)))) (sym (apart_from outer g b.0 o h.0))
      go false o i = ap (λ z. cell_under l (cond z b.1 (row_at (alias g) (scoped f ++ sc)))) (aliases_apart g b.0) ∙ pick (nat_eq g b.0)
        where
          pick : (z : Bool) → cell_under l (cond z b.1 (row_at (alias g) (scoped f ++ sc))) ≡ cell_under l (cond z b.1 (row_of g (f ++ e)))
          pick true = refl
          pick false = i

  and_true : (a : Bool) → (a && true) ≡ a
  and_true true = refl
  and_true false = refl

  and_assoc : (a b c : Bool) → ((a && b) && c) ≡ (a && (b && c))
  and_assoc true b c = refl
  and_assoc false b c = refl

  -- one comprehension of a test before others
  test_is : (gens : List Gen) (conds : Conds) (xs : Tests) (sc : Scope) (e : Env) → Each (λ g. outer g.number ≡ false) gens → ((f : Env) → map (λ b. b.0) f ≡ map (λ g. g.number) gens → keeps ts (conds_keep outer conds) (scoped f ++ sc) ≡ all_true (by_name ts) conds (f ++ e)) → keeps_none ts (tests_query outer xs) sc ≡ no_kept (by_name ts) xs e → keeps_none ts (tests_query outer (test gens conds xs)) sc ≡ no_kept (by_name ts) (test gens conds xs) e
  test_is gens conds xs sc e h t r =
      ap₂ (λ x y. x && y)
      (ap (λ (l : List Scope). is_none (filter (λ c. keeps ts (conds_keep outer conds) c) (map (λ c. c ++ sc) l))) (combinations_are gens)
      ∙ none_mapped (λ c. c ++ sc) (λ c. keeps ts (conds_keep outer conds) c) (map scoped (choices (by_name ts) gens))
      ∙ none_mapped scoped (λ c. keeps ts (conds_keep outer conds) (c ++ sc)) (choices (by_name ts) gens)
      ∙ ap is_none (filter_each (λ f. map (λ b. b.0) f ≡ map (λ g. g.number) gens) (λ f. keeps ts (conds_keep outer conds) (scoped f ++ sc)) (λ f. all_true (by_name ts) conds (f ++ e)) t (choices (by_name ts) gens) (choice_numbers (by_name ts) gens)))
      r

  kept_mapped : {A B C : Type 0} (f : A → B) (p : B → Bool) (g : B → C) (xs : List A) → map g (filter p (map f xs)) ≡ map (λ x. g (f x)) (filter (λ x. p (f x)) xs)
  kept_mapped f p g [] = refl
  kept_mapped f p g (x ∷ xs) = go (p (f x)) (kept_mapped f p g xs)
    where
      go : (b : Bool) → map g (filter p (map f xs)) ≡ map (λ x. g (f x)) (filter (λ x. p (f x)) xs) → map g (cond b (f x ∷ filter p (map f xs)) (filter p (map f xs))) ≡ map (λ x. g (f x)) (cond b (x ∷ filter (λ x. p (f x)) xs) (filter (λ x. p (f x)) xs))
      go true i = ap (λ (l : List _). g (f x) ∷ l) i
      go false i = i

  -- the values at the combinations that a scalar query keeps
  values_are : (gens : List Gen) (conds : Conds) (sc : Scope) (e : Env) (v : Scope → Cell) (w : Env → Cell) → ((f : Env) → map (λ b. b.0) f ≡ map (λ g. g.number) gens → keeps ts (conds_keep outer conds) (scoped f ++ sc) ≡ all_true (by_name ts) conds (f ++ e)) → ((f : Env) → map (λ b. b.0) f ≡ map (λ g. g.number) gens → v (scoped f ++ sc) ≡ w (f ++ e))
      → map v (filter (λ c. keeps ts (conds_keep outer conds) c) (map (λ c. c ++ sc) (combinations ts (map source_of gens)))) ≡ map (λ f. w (f ++ e)) (filter (λ f. all_true (by_name ts) conds (f ++ e)) (choices (by_name ts) gens))
  values_are gens conds sc e v w t u =
      ap (λ (l : List Scope). map v (filter (λ c. keeps ts (conds_keep outer conds) c) (map (λ c. c ++ sc) l))) (combinations_are gens)
      ∙ kept_mapped (λ c. c ++ sc) (λ c. keeps ts (conds_keep outer conds) c) v (map scoped (choices (by_name ts) gens))
      ∙ kept_mapped scoped (λ c. keeps ts (conds_keep outer conds) (c ++ sc)) (λ c. v (c ++ sc)) (choices (by_name ts) gens)
      ∙ kept_each (λ f. map (λ b. b.0) f ≡ map (λ g. g.number) gens) (λ f. keeps ts (conds_keep outer conds) (scoped f ++ sc)) (λ f. all_true (by_name ts) conds (f ++ e)) (λ f. v (scoped f ++ sc)) (λ f. w (f ++ e)) t u (choices (by_name ts) gens) (choice_numbers (by_name ts) gens)

  counts_alike : {A : Type 0} (f g : A → Cell) (xs : List A) → total_of HowMany (map f xs) ≡ total_of HowMany (map g xs)
  counts_alike f g xs = ap (λ n. cell.Int (int_wrap w64 (pos n))) (length_map f xs ∙ sym (length_map g xs))

  mutual
    pub expr_is : (b : BaseTree) (sc : Scope) (e : Env) → Inner outer b → Shows sc e → expr_value ts (base_expr outer b) sc ≡ value (by_name ts) b e
    expr_is (literal c) sc e h s = literal_is ts c sc
    expr_is (column g l) sc e h s = s g l
    expr_is (unary o b) sc e h s = ap (unary_value o) (expr_is b sc e h s)
    expr_is (binary o a b) sc e h s = ap₂ (binary_value o) (expr_is a sc e h.0 s) (expr_is b sc e h.1 s)
    expr_is (choose t a b) sc e h s =
        ap (λ z. cond (is_true z) (expr_value ts (base_expr outer a) sc) (expr_value ts (base_expr outer b) sc)) (expr_is t sc e h.0 s) ∙ ap₂ (λ x y. cond (is_true (value (by_name ts) t e)) x y) (expr_is a sc e h.1 s) (expr_is b sc e h.2 s)
    expr_is (empty no_test) sc e h s = refl
    expr_is (empty (test gens conds xs)) sc e h s = ap cell.Bool (test_is gens conds xs sc e h.0 (λ f k. condition_is conds (scoped f ++ sc) (f ++ e) h.1 (shows_more f sc e (own_rows outer gens f k h.0) s)) (tests_are xs sc e h.2 s))
    expr_is (total HowMany gens conds b) sc e h s =
        ap (total_of HowMany) (values_are gens conds sc e (λ c. cell.Int (pos 1)) (λ f. cell.Int (pos 1)) (λ f k. condition_is conds (scoped f ++ sc) (f ++ e) h.1 (shows_more f sc e (own_rows outer gens f k h.0) s)) (λ f k. refl))
        ∙ counts_alike (λ f. cell.Int (pos 1)) (λ f. value (by_name ts) b (f ++ e)) (filter (λ f. all_true (by_name ts) conds (f ++ e)) (choices (by_name ts) gens))
    expr_is (total SumOf gens conds b) sc e h s =
        ap (total_of SumOf) (values_are gens conds sc e (λ c. expr_value ts (base_expr outer b) c) (λ f. value (by_name ts) b f) (λ f k. condition_is conds (scoped f ++ sc) (f ++ e) h.1 (shows_more f sc e (own_rows outer gens f k h.0) s)) (λ f k. expr_is b (scoped f ++ sc) (f ++ e) h.2 (shows_more f sc e (own_rows outer gens f k h.0) s)))

    pub condition_is : (bs : Conds) (sc : Scope) (e : Env) → InnerAll outer bs → Shows sc e → keeps ts (conds_keep outer bs) sc ≡ all_true (by_name ts) bs e
    condition_is no_cond sc e h s = refl
    condition_is (and_cond b bs) sc e h s = joined_is (base_expr outer b) bs sc e h.1 s ∙ ap (λ x. is_true x && all_true (by_name ts) bs e) (expr_is b sc e h.0 s)

    joined_is : (x : ExprTree) (bs : Conds) (sc : Scope) (e : Env) → InnerAll outer bs → Shows sc e → is_true (expr_value ts (joined outer x bs) sc) ≡ (is_true (expr_value ts x sc) && all_true (by_name ts) bs e)
    joined_is x no_cond sc e h s = sym (and_true (is_true (expr_value ts x sc)))
    joined_is x (and_cond b bs) sc e h s =
        joined_is (ExprTree.binary And x (base_expr outer b)) bs sc e h.1 s
        ∙ ap (λ z. (is_true (expr_value ts x sc) && is_true z) && all_true (by_name ts) bs e) (expr_is b sc e h.0 s)
        ∙ and_assoc (is_true (expr_value ts x sc)) (is_true (value (by_name ts) b e)) (all_true (by_name ts) bs e)

    tests_are : (xs : Tests) (sc : Scope) (e : Env) → InnerTests outer xs → Shows sc e → keeps_none ts (tests_query outer xs) sc ≡ no_kept (by_name ts) xs e
    tests_are no_test sc e h s = refl
    tests_are (test gens conds xs) sc e h s = test_is gens conds xs sc e h.0 (λ f k. condition_is conds (scoped f ++ sc) (f ++ e) h.1 (shows_more f sc e (own_rows outer gens f k h.0) s)) (tests_are xs sc e h.2 s)
