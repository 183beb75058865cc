-- The expressions of natural SELECTs have the types of their columns.
use Rattle.std.proofs.Common.{◌≡◌, ℕ, zero, suc, ◌-◌, ◌≤◌, List, [], ◌∷◌, ◌++◌, map, refl, sym, ap}
use Rattle.std.proofs.Common.{◌∙◌, subst, Bool, true, false, cond, nat_eq, arith, length, replicate}
use Rattle.std.proofs.Common.{Some, Contains, pos}
use Rattle.std.specs.List.{AllByRecursion as Each}
use Rattle.std.specs.Option.{unwrap_or}
use Rattle.std.specs.Str.{bytes_eq}
use Rattle.std.proofs.lemmas.List.Elements.{recursion_from_All}
use Rattle.nq_model.specs.NamedRows.{Label}
use Rattle.nq_model.specs.Tables.{Columns, IsProperShape, names_of}
use Rattle.nq_model.specs.Types.{TypeTree, int, bool, text, rec, bag, fun, FieldTypes, none, field}
use Rattle.nq_model.specs.Typing.{shape_named}
use Rattle.nq_model.specs.declared.table.ColumnType.{ColumnType}
use Rattle.nq_model.specs.declared.table.ColumnType.TheVariants.{Int, Bool as Truth, Text}
use Rattle.nq_model.specs.declared.table.TableShape.{TableShape}
use Rattle.nq_model.proofs.Numberings.{each_map}
use Rattle.nq_ir.specs.declared.base.Gen.{Gen}
use Rattle.nq_ir.specs.Meanings.{EachBoth}
use Rattle.nq_ir.specs.Spots.{shape_leaves, shape_leaves_in}
use Rattle.nq_ir.specs.Trees.{ShapeTree, plain_shape, rec_shape, index_shape, Shapes as ShapeTrees, no_shape, with_shape}
use Rattle.nq_ir.specs.WellFormed.{column_type_in, columns_or_none, gen_columns, table_columns, numbers}
use Rattle.nq_ir.proofs.Distinct.{Distinct, each_join, each_left, each_right}
use Rattle.nq_ir.proofs.Equal.{bytes_same, nat_same}
use Rattle.nq_ir.proofs.LevelTypes.{both_append}
use Rattle.sql_profile.specs.Scope.{Shapes, Aliases, HasType, same_type}
use Rattle.sql_profile.specs.Trees.{ExprTree}
use Rattle.flatten.specs.Emitted.{none_outer}
use Rattle.flatten.proofs.Apart.{nat_flip}
use Rattle.flatten.proofs.Facts.{ShapeHas, ShapesHave, TestsApart}
use Rattle.flatten.proofs.ScopeExprs.{Extends, ShowsTypes, base_typed}
use Rattle.flatten.proofs.Withs.{inner_all}
use Rattle.natural_keys.specs.declared.layout.KeyColumn.{KeyColumn}
use Rattle.natural_keys.specs.declared.layout.Layout.{Layout}
use Rattle.natural_keys.specs.Layouts.{key_or_none, table_key, type_in, gen_key, key_columns}
use Rattle.natural_keys.specs.Layouts.{of_type, count_in, filled, group}
use Rattle.natural_keys.specs.NaturalKeys.{element_columns, fields_columns, index_columns}
use Rattle.natural_index.specs.Trees.{key_expr, zero_expr, index_exprs, shape_exprs, shapes_exprs}

each_mapped : {A B : Type 0} (f : A → B) (P : B → Type 0) (xs : List A) → Each (λ x. P (f x)) xs
    → Each P (map f xs)
each_mapped f P [] e = tt
each_mapped f P (x ∷ xs) e = (e.0, each_mapped f P xs e.1)

-- a column that is there has its type
typed_by : (l : Label) (columns : Columns) → Contains (names_of columns) l
    → column_type_in l columns ≡ Some (type_in l columns)
typed_by l [] (i, within, is) = absurd (omega (arith, within))
typed_by l (c ∷ columns) (zero, within, is) = go (bytes_eq l c.0) (bytes_same l c.0 (sym is))
  where
    go : (b : Bool) → b ≡ true → cond b (Some c.1) (column_type_in l columns)
        ≡ Some (unwrap_or (cond b (Some c.1) (column_type_in l columns)) Int)
    go true e = refl
    go false e = absurd (cc)
typed_by l (c ∷ columns) (suc i, within, is) = go (bytes_eq l c.0)
    (typed_by l columns (i, omega (arith, within), is))
  where
    go : (b : Bool) → column_type_in l columns ≡ Some (type_in l columns)
        → cond b (Some c.1) (column_type_in l columns) ≡ Some
        (unwrap_or (cond b (Some c.1) (column_type_in l columns)) Int)
    go true e = refl
    go false e = e

abbrev Typed : Columns → Label → Type 0
Typed columns l = column_type_in l columns ≡ Some (type_in l columns)

-- the key of a table names columns of it
keys_typed : (S : List TableShape) → Each IsProperShape S → (t : Label)
    → Each (Typed (table_columns S t)) (table_key S t)
keys_typed [] p t = tt
keys_typed (s ∷ ss) p t = go (bytes_eq t s.name) (keys_typed ss p.1 t)
  where
    go : (b : Bool) → Each (Typed (table_columns ss t)) (table_key ss t)
        → Each (Typed (columns_or_none (cond b (Some s) (shape_named t ss))))
        (key_or_none (cond b (Some s) (shape_named t ss)))
    go true i = each_map (λ l. Contains (names_of s.columns) l) (Typed s.columns)
        (λ l h. typed_by l s.columns h) s.key (recursion_from_All
        (Contains (names_of s.columns)) s.key p.0.key_of_columns)
    go false i = i

module _ (S : List TableShape) (proper : Each IsProperShape S) where
  -- a key column has its type where these generators are in scope
  abbrev pub KeyTyped : List Gen → KeyColumn → Type 0
  KeyTyped sc k = column_type_in k.name (gen_columns S sc k.generator) ≡ Some k.of

  numbered_by : (P : ℕ → Type 0) (gens : List Gen) → Each P (numbers gens)
      → Each (λ (k : KeyColumn). P k.generator) (key_columns S gens)
  numbered_by P [] e = tt
  numbered_by P (g ∷ gens) e = each_join (λ (k : KeyColumn). P k.generator) (gen_key S g)
      (key_columns S gens) (own (table_key S g.table)) (numbered_by P gens e.1)
    where
      own : (ls : List Label) → Each (λ (k : KeyColumn). P k.generator)
          (map (λ l. record {
            generator = g.number;
            name = l;
            of = type_in l (table_columns S g.table);
          }) ls)
      own [] = tt
      own (l ∷ ls) = (e.0, own ls)

  pub keys_shown : (gens : List Gen) → Distinct (numbers gens)
      → Each (KeyTyped gens) (key_columns S gens)
  keys_shown [] d = tt
  keys_shown (g ∷ gens) d =
      each_join (KeyTyped (g ∷ gens)) (gen_key S g) (key_columns S gens)
      (own (table_key S g.table) (keys_typed S proper g.table))
      (behind (key_columns S gens) (numbered_by (λ n. nat_eq g.number n ≡ false) gens d.0)
      (keys_shown gens d.1))
    where
      own : (ls : List Label) → Each (Typed (table_columns S g.table)) ls
          → Each (KeyTyped (g ∷ gens)) (map (λ l. record {
            generator = g.number;
            name = l;
            of = type_in l (table_columns S g.table);
          }) ls)
      own [] e = tt
      own (l ∷ ls) e = (
        ap (λ b. column_type_in l (cond b (table_columns S g.table)
            (gen_columns S gens g.number))) (nat_same g.number g.number refl) ∙ e.0,
        own ls e.1,
      )

      behind : (ks : List KeyColumn) → Each (λ (k : KeyColumn). nat_eq g.number k.generator
          ≡ false) ks → Each (KeyTyped gens) ks → Each (KeyTyped (g ∷ gens)) ks
      behind [] n e = tt
      behind (k ∷ ks) n e = (
        ap (λ b. column_type_in k.name
            (cond b (table_columns S g.table) (gen_columns S gens k.generator)))
            (nat_flip g.number k.generator n.0) ∙ e.0,
        behind ks n.1 e.1,
      )

-- n things that pair off: those given, filled up
filled_both : {A B : Type 0} (P : A → B → Type 0) (z : A) (t : B) → P z t → (xs : List A) (n : ℕ)
    → length xs ≤ n → Each (λ x. P x t) xs → EachBoth P (filled n xs z) (replicate n t)
filled_both P z t pz [] n h e = let s : n ≡ n - 0 = omega arith in subst (λ m. EachBoth P (replicate m z) (replicate n t)) s (all n)
  where
    all : (m : ℕ) → EachBoth P (replicate m z) (replicate m t)
    all zero = refl
    all (suc m) = (pz, all m)
filled_both P z t pz (x ∷ xs) zero h e = absurd (omega (arith, h))
filled_both P z t pz (x ∷ xs) (suc n) h e = let s : n - length xs ≡ suc n - suc (length xs) = omega arith in subst (λ m. EachBoth P (x ∷ (xs ++ replicate m z)) (replicate (suc n) t)) s (e.0, filled_both P z t pz xs n (omega (arith, h)) e.1)

type_same : (a b : ColumnType) → same_type a b ≡ true → a ≡ b
type_same Int Int e = refl
type_same Int Truth e = absurd (cc)
type_same Int Text e = absurd (cc)
type_same Truth Int e = absurd (cc)
type_same Truth Truth e = refl
type_same Truth Text e = absurd (cc)
type_same Text Int e = absurd (cc)
type_same Text Truth e = absurd (cc)
type_same Text Text e = refl

-- the key columns of a type that keep P
typed_kept : (P : KeyColumn → ColumnType → Type 0) (t : ColumnType) (ks : List KeyColumn)
    → Each (λ k. P k k.of) ks → Each (λ k. P k t) (of_type t ks)
typed_kept P t [] e = tt
typed_kept P t (k ∷ ks) e = go (same_type k.of t) refl (typed_kept P t ks e.1)
  where
    go : (b : Bool) → same_type k.of t ≡ b → Each (λ k. P k t) (of_type t ks)
        → Each (λ k. P k t) (cond b (k ∷ of_type t ks) (of_type t ks))
    go true s h = (subst (P k) (type_same k.of t s) e.0, h)
    go false s h = h

-- there is room for key columns in a layout
pub record FitsIn (l : Layout) (ks : List KeyColumn) : Type 0 where
  pub ints : length (of_type Int ks) ≤ l.ints
  pub bools : length (of_type Truth ks) ≤ l.bools
  pub texts : length (of_type Text ks) ≤ l.texts

length_mapped : {A B : Type 0} (f : A → B) (xs : List A) → length (map f xs) ≡ length xs
length_mapped f [] = refl
length_mapped f (x ∷ xs) = ap suc (length_mapped f xs)

-- P holds of the expressions of key columns and of zeros
module _ (P : ExprTree → ColumnType → Type 0) (zeros : (t : ColumnType) → P (zero_expr t) t)
    (l : Layout) (ks : List KeyColumn) (fits : FitsIn l ks)
    (each : Each (λ k. P (key_expr k) k.of) ks) where
  group_both : (t : ColumnType) → length (of_type t ks) ≤ count_in l t
      → EachBoth P (group key_expr zero_expr l ks t) (replicate (count_in l t) t)
  group_both t h =
      filled_both P (zero_expr t) t (zeros t) (map key_expr (of_type t ks)) (count_in l t)
      (subst (λ n. n ≤ count_in l t) (sym (length_mapped key_expr (of_type t ks))) h)
      (each_mapped key_expr (λ x. P x t) (of_type t ks) (typed_kept
      (λ k u. P (key_expr k) u) t ks each))

  pub ints_both : EachBoth P (group key_expr zero_expr l ks Int) (replicate l.ints Int)
  ints_both = group_both Int fits.ints

  pub bools_both : EachBoth P (group key_expr zero_expr l ks Truth) (replicate l.bools Truth)
  bools_both = group_both Truth fits.bools

  pub texts_both : EachBoth P (group key_expr zero_expr l ks Text) (replicate l.texts Text)
  texts_both = group_both Text fits.texts

  pub index_both : (tag : ℕ) → P (ExprTree.int (pos tag)) Int
      → EachBoth P (index_exprs l tag ks) (index_columns l)
  index_both tag p = (
    p,
    both_append P (group key_expr zero_expr l ks Int) (group key_expr zero_expr l ks Truth
        ++ group key_expr zero_expr l ks Text) (replicate l.ints Int)
        (replicate l.bools Truth ++ replicate l.texts Text) ints_both
        (both_append P (group key_expr zero_expr l ks Truth) (group key_expr zero_expr l ks Text)
        (replicate l.bools Truth) (replicate l.texts Text) bools_both texts_both),
  )

pub zeros_both : (P : ExprTree → ColumnType → Type 0) → ((t : ColumnType) → P (zero_expr t) t)
    → (ts : List ColumnType) → EachBoth P (map zero_expr ts) ts
zeros_both P z [] = refl
zeros_both P z (t ∷ ts) = (z t, zeros_both P z ts)

module _ (S : List TableShape) (R : Shapes) (x : Extends S R) (env : Aliases) (sc : List Gen)
    (shows : ShowsTypes S R x none_outer env sc) where
  pub zero_typed : (t : ColumnType) → HasType R env (zero_expr t) t
  zero_typed Int = refl
  zero_typed Truth = refl
  zero_typed Text = refl

  pub key_typed : (ks : List KeyColumn) → Each (λ k. column_type_in k.name
      (gen_columns S sc k.generator) ≡ Some k.of) ks → Each
      (λ k. HasType R env (key_expr k) k.of) ks
  key_typed ks e = each_map (λ (k : KeyColumn). column_type_in k.name (gen_columns S sc k.generator)
      ≡ Some k.of) (λ k. HasType R env (key_expr k) k.of)
      (λ k h. shows k.generator k.name k.of h) ks e

  module _ (index : List ExprTree) (ix : List ColumnType)
      (own : EachBoth (HasType R env) index ix) where
    mutual
      pub shape_typed : (b : ShapeTree) (a : TypeTree) → ShapeHas S sc b a
          → Each TestsApart (shape_leaves b) → EachBoth (HasType R env) (shape_exprs index b)
          (element_columns ix a)
      shape_typed (plain_shape b) int h t = (
        base_typed S R x none_outer b Int env sc h
            (inner_all b) t.0 shows,
        refl,
      )
      shape_typed (plain_shape b) bool h t = (
        base_typed S R x none_outer b Truth env sc h
            (inner_all b) t.0 shows,
        refl,
      )
      shape_typed (plain_shape b) text h t = (
        base_typed S R x none_outer b Text env sc h
            (inner_all b) t.0 shows,
        refl,
      )
      shape_typed (plain_shape b) (rec gs) h t = absurd h
      shape_typed (plain_shape b) (bag a) h t = absurd h
      shape_typed (plain_shape b) (fun a c) h t = absurd h
      shape_typed (rec_shape fs) int h t = absurd h
      shape_typed (rec_shape fs) bool h t = absurd h
      shape_typed (rec_shape fs) text h t = absurd h
      shape_typed (rec_shape fs) (rec gs) h t = shapes_typed fs gs h t
      shape_typed (rec_shape fs) (bag a) h t = absurd h
      shape_typed (rec_shape fs) (fun a c) h t = absurd h
      shape_typed index_shape int h t = absurd h
      shape_typed index_shape bool h t = absurd h
      shape_typed index_shape text h t = absurd h
      shape_typed index_shape (rec gs) h t = absurd h
      shape_typed index_shape (bag a) h t = own
      shape_typed index_shape (fun a c) h t = absurd h

      shapes_typed : (fs : ShapeTrees) (gs : FieldTypes) → ShapesHave S sc fs gs
          → Each TestsApart (shape_leaves_in fs) → EachBoth (HasType R env) (shapes_exprs index fs)
          (fields_columns ix gs)
      shapes_typed no_shape none h t = refl
      shapes_typed no_shape (field k a gs) h t = absurd h
      shapes_typed (with_shape l s fs) none h t = absurd h
      shapes_typed (with_shape l s fs) (field k a gs) h t =
          both_append (HasType R env) (shape_exprs index s) (shapes_exprs index fs)
          (element_columns ix a) (fields_columns ix gs)
          (shape_typed s a h.1 (each_left TestsApart (shape_leaves s) (shape_leaves_in fs) t))
          (shapes_typed fs gs h.2 (each_right TestsApart (shape_leaves s) (shape_leaves_in fs) t))
