-- Emitted expressions, conditions and tests keep the scope rules and have the types of their terms.
use Rattle.nq_model.specs.Totals.{HowMany, SumOf}
use Rattle.std.proofs.Common.{◌≡◌, ℕ, List, [], ◌∷◌, ◌++◌, map, refl, sym, ap, ap₂, ◌∙◌, Bool, true, false, cond, nat_eq, ◌||◌, Some, IsSome}
use Rattle.std.specs.List.{AllByRecursion as Each}
use Rattle.std.specs.Str.{bytes_eq}
use Rattle.std.proofs.lemmas.Bool.Decides.{Decides-eqb}
use Rattle.nq_model.specs.NamedRows.{Label}
use Rattle.nq_model.specs.Tables.{Columns}
use Rattle.nq_model.specs.Typing.{shape_named}
use Rattle.nq_model.specs.declared.table.Cell.{Cell}
use Rattle.nq_model.specs.declared.table.Cell.TheVariants as cell
use Rattle.nq_model.specs.declared.table.ColumnType.{ColumnType}
use Rattle.nq_model.specs.declared.table.ColumnType.TheVariants.{Int, Bool as Truth}
use Rattle.nq_model.specs.declared.table.TableShape.{TableShape}
use Rattle.nq_model.specs.declared.term.Binary.TheVariants.{And}
use Rattle.nq_model.specs.Cells.{column_type_of}
use Rattle.nq_ir.specs.declared.base.Gen.{Gen}
use Rattle.nq_ir.specs.Trees.{BaseTree, literal, column, unary, binary, choose, empty, Conds, no_cond, and_cond, Tests, no_test, test, total}
use Rattle.nq_ir.specs.WellFormed.{BaseHas, CondsHave, TestsHave, AreTables, column_type_in, gen_columns, table_columns, numbers}
use Rattle.nq_ir.proofs.Distinct.{Distinct}
use Rattle.sql_profile.specs.Trees.{ExprTree, select}
use Rattle.sql_profile.specs.Scope.{Shapes, Aliases, found, among, SourcesHave, HasType, OthersHave, SelectHas, KeepHas}
use Rattle.flatten.specs.Names.{alias, let_alias, outer_column, one_name}
use Rattle.flatten.specs.Exprs.{literal_expr, column_expr, source_of, one_item, base_expr, conds_keep, joined, tests_query}
use Rattle.flatten.proofs.Apart.{aliases_apart, not_let, nat_flip}
use Rattle.flatten.proofs.Exprs.{Inner, InnerAll, InnerTests}
use Rattle.flatten.proofs.Facts.{TestsApart, TestsApartAll, TestsApartIn}

-- both look-ups of a column's type are one
pub found_is : (l : Label) (columns : Columns) → found l columns ≡ column_type_in l columns
found_is l [] = refl
found_is l (c ∷ columns) = ap (λ z. cond (bytes_eq l c.0) (Some c.1) z) (found_is l columns)

pub literal_typed : (ts : Shapes) (env : Aliases) (c : Cell) (T : ColumnType) → column_type_of c ≡ T → HasType ts env (literal_expr c) T
literal_typed ts env (cell.Int n) T h = sym h
literal_typed ts env (cell.Bool b) T h = sym h
literal_typed ts env (cell.Text t) T h = sym h

module _ (S : List TableShape) where
  -- the tables of the schema are found among these
  abbrev pub Extends : Shapes → Type 0
  Extends R = (t : Label) → IsSome (shape_named t S) → found t R ≡ Some (table_columns S t)

  -- sources of generators
  abbrev pub own_aliases : List Gen → Aliases
  own_aliases gens = map (λ g. (alias g.number, table_columns S g.table)) gens

  abbrev one_columns : Columns
  one_columns = (one_name, Int) ∷ []

  module _ (R : Shapes) (x : Extends R) where
    pub sources_have : (seen : List Label) (gens : List Gen) → AreTables S gens → Distinct (numbers gens) → Each (λ g. among (alias g.number) seen ≡ false) gens → SourcesHave R seen (map source_of gens) (own_aliases gens)
    sources_have seen [] t d n = refl
    sources_have seen (g ∷ gens) t d n =
        (table_columns S g.table, own_aliases gens, x g.table t.0, n.0, sources_have (alias g.number ∷ seen) gens t.1 d.1 (others gens d.0 n.1), refl)
      where
        others : (hs : List Gen) → Each (λ m. nat_eq g.number m ≡ false) (numbers hs) → Each (λ h. among (alias h.number) seen ≡ false) hs → Each (λ h. among (alias h.number) (alias g.number ∷ seen) ≡ false) hs
        others [] a e = tt
        others (h ∷ hs) a e = (ap₂ (λ y z. y || z) (aliases_apart h.number g.number ∙ nat_flip g.number h.number a.0) e.0, others hs a.1 e.1)

    pub none_seen : (gens : List Gen) → Each (λ g. among (alias g.number) [] ≡ false) gens
    none_seen [] = tt
    none_seen (g ∷ gens) = (refl, none_seen gens)

    -- each column that has a type among these generators has it in the scope
    abbrev pub ShowsTypes : (ℕ → Bool) → Aliases → List Gen → Type 0
    ShowsTypes outer env gens = (g : ℕ) (l : Label) (T : ColumnType) → column_type_in l (gen_columns S gens g) ≡ Some T → HasType R env (column_expr outer g l) T

    module _ (outer : ℕ → Bool) where
      not_outer : (g b : ℕ) → outer g ≡ true → outer b ≡ false → nat_eq g b ≡ false
      not_outer g b h k = go (nat_eq g b) refl
        where
          go : (c : Bool) → nat_eq g b ≡ c → c ≡ false
          go true e = let w : g ≡ b = (Decides-eqb g b).0 e in absurd (let u : true ≡ false = sym h ∙ ap outer w ∙ k in cc)
          go false e = refl

      pub shows_types_more : (gens : List Gen) (env : Aliases) (sc : List Gen) → Each (λ g. outer g.number ≡ false) gens → ShowsTypes outer env sc → ShowsTypes outer (own_aliases gens ++ env) (gens ++ sc)
      shows_types_more [] env sc n s g l T e = s g l T e
      shows_types_more (h ∷ gens) env sc n s g l T e = go (outer g) refl (shows_types_more gens env sc n.1 s g l T)
        where
          rest : Aliases
          rest = own_aliases gens ++ env

          C : Columns
          C = table_columns S h.table

          go : (o : Bool) → outer g ≡ o → (column_type_in l (gen_columns S (gens ++ sc) g) ≡ Some T → HasType R (own_aliases gens ++ env) (cond o (ExprTree.column let_alias (outer_column g l)) (ExprTree.column (alias g) l)) T) → HasType R ((alias h.number, table_columns S h.table) ∷ (own_aliases gens ++ env)) (cond o (ExprTree.column let_alias (outer_column g l)) (ExprTree.column (alias g) l)) T
          go true o i =
              let skip : nat_eq g h.number ≡ false = not_outer g h.number o n.0 in
              let r = i (ap (λ b. column_type_in l (cond b (table_columns S h.table) (gen_columns S (gens ++ sc) g))) (sym skip) ∙ e) in
              (r.0, ap (λ b. cond b (Some (table_columns S h.table)) (found let_alias (own_aliases gens ++ env))) (not_let h.number) ∙ r.1, r.2)
          go false o i = pick (nat_eq g h.number) refl
            where
              pick : (b : Bool) → nat_eq g h.number ≡ b → HasType R ((alias h.number, table_columns S h.table) ∷ (own_aliases gens ++ env)) (ExprTree.column (alias g) l) T
              pick true f =
                  (table_columns S h.table, ap (λ b. cond b (Some (table_columns S h.table)) (found (alias g) (own_aliases gens ++ env))) (aliases_apart g h.number ∙ f), found_is l (table_columns S h.table) ∙ ap (λ b. column_type_in l (cond b (table_columns S h.table) (gen_columns S (gens ++ sc) g))) (sym f) ∙ e)
              pick false f =
                  let r = i (ap (λ b. column_type_in l (cond b (table_columns S h.table) (gen_columns S (gens ++ sc) g))) (sym f) ∙ e) in
                  (r.0, ap (λ b. cond b (Some (table_columns S h.table)) (found (alias g) (own_aliases gens ++ env))) (aliases_apart g h.number ∙ f) ∙ r.1, r.2)

      -- one comprehension of a test
      test_typed : (gens : List Gen) (conds : Conds) (env : Aliases) → AreTables S gens → Distinct (numbers gens) → KeepHas R (own_aliases gens ++ env) (conds_keep outer conds) → SelectHas R env (select one_item (map source_of gens) (conds_keep outer conds)) one_columns
      test_typed gens conds env t d k = (own_aliases gens, sources_have [] gens t d (none_seen gens), k, (Int, [], refl, refl, refl, refl))

      mutual
        pub base_typed : (b : BaseTree) (T : ColumnType) (env : Aliases) (sc : List Gen) → BaseHas S sc b T → Inner outer b → TestsApart b → ShowsTypes outer env sc → HasType R env (base_expr outer b) T
        base_typed (literal c) T env sc h i a s = literal_typed R env c T h.0
        base_typed (column g l) T env sc h i a s = s g l T h
        base_typed (unary o b) T env sc h i a s = (h.0, base_typed b h.0 env sc h.1 i a s, h.2)
        base_typed (binary o b c) T env sc h i a s = (h.0, h.1, base_typed b h.0 env sc h.2 i.0 a.0 s, base_typed c h.1 env sc h.3 i.1 a.1 s, h.4)
        base_typed (choose t b c) T env sc h i a s = (base_typed t Truth env sc h.0 i.0 a.0 s, base_typed b T env sc h.1 i.1 a.1 s, base_typed c T env sc h.2 i.2 a.2 s)
        base_typed (empty no_test) T env sc h i a s = h.0
        base_typed (empty (test gens conds xs)) T env sc h i a s =
            (one_columns, (test_typed gens conds env h.1.0 a.0 (keep_typed conds (own_aliases gens ++ env) (gens ++ sc) h.1.1 i.1 a.1 (shows_types_more gens env sc i.0 s)), tests_typed xs env sc h.1.2 i.2 a.2 s), h.0)
        base_typed (total HowMany gens conds b) T env sc h i a s =
            (own_aliases gens, sources_have [] gens h.1 a.0 (none_seen gens), keep_typed conds (own_aliases gens ++ env) (gens ++ sc) h.2 i.1 a.1 (shows_types_more gens env sc i.0 s), refl, h.0)
        base_typed (total SumOf gens conds b) T env sc h i a s =
            let shows = shows_types_more gens env sc i.0 s in
            (own_aliases gens, sources_have [] gens h.1 a.0 (none_seen gens), keep_typed conds (own_aliases gens ++ env) (gens ++ sc) h.2 i.1 a.1 shows, base_typed b Int (own_aliases gens ++ env) (gens ++ sc) h.3 i.2 a.2 shows, h.0)

        pub keep_typed : (bs : Conds) (env : Aliases) (sc : List Gen) → CondsHave S sc bs → InnerAll outer bs → TestsApartAll bs → ShowsTypes outer env sc → KeepHas R env (conds_keep outer bs)
        keep_typed no_cond env sc h i a s = tt
        keep_typed (and_cond b bs) env sc h i a s = joined_typed (base_expr outer b) bs env sc (base_typed b Truth env sc h.0 i.0 a.0 s) h.1 i.1 a.1 s

        joined_typed : (e : ExprTree) (bs : Conds) (env : Aliases) (sc : List Gen) → HasType R env e Truth → CondsHave S sc bs → InnerAll outer bs → TestsApartAll bs → ShowsTypes outer env sc → HasType R env (joined outer e bs) Truth
        joined_typed e no_cond env sc k h i a s = k
        joined_typed e (and_cond b bs) env sc k h i a s =
            joined_typed (ExprTree.binary And e (base_expr outer b)) bs env sc (Truth, Truth, k, base_typed b Truth env sc h.0 i.0 a.0 s, refl) h.1 i.1 a.1 s

        tests_typed : (xs : Tests) (env : Aliases) (sc : List Gen) → TestsHave S sc xs → InnerTests outer xs → TestsApartIn xs → ShowsTypes outer env sc → OthersHave R env (tests_query outer xs) (Int ∷ [])
        tests_typed no_test env sc h i a s = tt
        tests_typed (test gens conds xs) env sc h i a s =
            (one_columns, test_typed gens conds env h.0 a.0 (keep_typed conds (own_aliases gens ++ env) (gens ++ sc) h.1 i.1 a.1 (shows_types_more gens env sc i.0 s)), refl, tests_typed xs env sc h.2 i.2 a.2 s)
