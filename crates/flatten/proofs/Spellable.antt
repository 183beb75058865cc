-- A text can spell the tree of a let form.
use Rattle.nq_model.specs.Totals.{HowMany, SumOf}
use Rattle.std.proofs.Common.{◌≡◌, ℕ, zero, suc, ◌+◌, ◌≤◌, ◌<◌, ◌^◌, List, [], ◌∷◌, ◌++◌, map, length, refl, sym, subst, Bool, true, false, cond, nat_eq, arith, append-nil, Some, IsSome}
use Rattle.std.specs.List.{AllByRecursion as Each}
use Rattle.std.specs.Str.{bytes_eq}
use Rattle.std.proofs.lemmas.Bool.Decides.{Decides-eqb}
use Rattle.std.proofs.lemmas.Slice.Eq.{bytes_eq-Decides}
use Rattle.std.proofs.lemmas.List.Elements.{recursion_from_All}
use Rattle.nq_model.specs.NamedRows.{Label}
use Rattle.nq_model.specs.Tables.{Columns, names_of, IsProperName, IsProperShape, IsProperSchema}
use Rattle.nq_model.specs.Types.{TypeTree, int, bool, text, rec, bag, fun, FieldTypes, none, field}
use Rattle.nq_model.specs.Typing.{shape_named}
use Rattle.nq_model.specs.declared.table.Cell.{Cell}
use Rattle.nq_model.specs.declared.table.Cell.TheVariants as cell
use Rattle.nq_model.specs.declared.table.ColumnType.{ColumnType}
use Rattle.nq_model.specs.declared.table.ColumnType.TheVariants.{Int, Bool as Truth, Text}
use Rattle.nq_model.specs.declared.table.Schema.{Schema}
use Rattle.nq_model.specs.declared.table.TableShape.{TableShape}
use Rattle.nq_ir.specs.declared.base.Gen.{Gen}
use Rattle.nq_ir.specs.Trees.{BaseTree, literal, column, unary, binary, choose, empty, Conds, no_cond, and_cond, Tests, no_test, test, ShapeTree, plain_shape, rec_shape, index_shape, Shapes, no_shape, with_shape, total}
use Rattle.nq_ir.specs.Meanings.{EachBoth}
use Rattle.nq_ir.specs.Spots.{StrandTree, shape_leaves, shape_leaves_in}
use Rattle.nq_ir.specs.Lets.{LetTree, PartTree, LetFormTree, strand_of, columns_in, IsLetFormOf}
use Rattle.nq_ir.specs.WellFormed.{BaseHas, CondsHave, TestsHave, AreTables, IsLiteral, IsNumber, column_type_in, columns_or_none, gen_columns, table_columns, column_names, numbers, base_numbers, conds_numbers, tests_numbers}
use Rattle.nq_ir.proofs.Distinct.{each_left, each_right, each_join}
use Rattle.nq_ir.proofs.LevelTypes.{both_append}
use Rattle.nq_ir.proofs.Scopes.{numbers_append}
use Rattle.shred_types.specs.Columns.{element_columns, fields_columns, answer_columns}
use Rattle.sql_profile.specs.Trees.{ExprTree, ExprTrees, ValueTree}
use Rattle.sql_profile.specs.Spellable.{HasWritableNames, IsSpellableExpr, IsSpellableQuery, AreSpellableSelects, IsSpellableSelect, IsSpellableKeep, HasSpellableItems, AreSpellableItems, IsSpellableValue, AreSpellableKeys, IsSpellableWith, IsSpellable}
use Rattle.flatten.specs.Names.{alias, let_alias, outer_column}
use Rattle.flatten.specs.Exprs.{literal_expr, column_expr, source_of, base_expr, conds_keep, joined, tests_query, order_keys}
use Rattle.flatten.specs.Emitted.{in_gens, none_outer, let_items, let_select, withs_from, shape_values, shapes_values, answer_items, around_number, after_let, strand_select, parts_query, zero_value, main_query, flattened}
use Rattle.flatten.proofs.Facts.{ShapeHas, ShapesHave, ScopeFacts, FitScope}
use Rattle.flatten.proofs.LetForms.{FineStrand, fine_form}
use Rattle.flatten.proofs.WrittenNames.{proper_writable, with_writable, alias_writable, outer_writable, let_writable, number_writable, one_writable, answer_writable}

-- a generator's number and the name of its column
abbrev pub Fits : ℕ × Label → Type 0
Fits p = (p.0 < 2 ^ 63) × IsProperName p.1

pub column_proper : (l : Label) (T : ColumnType) (columns : Columns) → Each IsProperName (names_of columns) → column_type_in l columns ≡ Some T → IsProperName l
column_proper l T [] p h = absurd (cc)
column_proper l T (c ∷ columns) p h = go (bytes_eq l c.0) refl h (column_proper l T columns p.1)
  where
    go : (b : Bool) → bytes_eq l c.0 ≡ b → cond b (Some c.1) (column_type_in l columns) ≡ Some T → (column_type_in l columns ≡ Some T → IsProperName l) → IsProperName l
    go true e h f = subst IsProperName (sym ((bytes_eq-Decides l c.0).0 e)) p.0
    go false e h f = f h

pub columns_proper : (S : List TableShape) → Each IsProperShape S → (t : Label) → Each IsProperName (names_of (table_columns S t))
columns_proper [] p t = tt
columns_proper (s ∷ ss) p t = go (bytes_eq t s.name) (columns_proper ss p.1 t)
  where
    go : (b : Bool) → Each IsProperName (names_of (table_columns ss t)) → Each IsProperName (names_of (columns_or_none (cond b (Some s) (shape_named t ss))))
    go true i = recursion_from_All IsProperName (names_of s.columns) p.0.columns_named
    go false i = i

name_proper : (S : List TableShape) → Each IsProperShape S → (t : Label) → IsSome (shape_named t S) → IsProperName t
name_proper [] p t h = absurd (cc)
name_proper (s ∷ ss) p t h = go (bytes_eq t s.name) refl h (name_proper ss p.1 t)
  where
    go : (b : Bool) → bytes_eq t s.name ≡ b → IsSome (cond b (Some s) (shape_named t ss)) → (IsSome (shape_named t ss) → IsProperName t) → IsProperName t
    go true e h f = subst IsProperName (sym ((bytes_eq-Decides t s.name).0 e)) p.0.named
    go false e h f = f h

literal_spelled : (c : Cell) → IsLiteral c → IsSpellableExpr (literal_expr c)
literal_spelled (cell.Int n) h = (h.digits, h.value, h.small)
literal_spelled (cell.Bool b) h = tt
literal_spelled (cell.Text t) h = tt

pub column_spelled : (outer : ℕ → Bool) (p : ℕ × Label) → Fits p → IsSpellableExpr (column_expr outer p.0 p.1)
column_spelled outer p f = go (outer p.0)
  where
    go : (o : Bool) → IsSpellableExpr (cond o (ExprTree.column let_alias (outer_column p.0 p.1)) (ExprTree.column (alias p.0) p.1))
    go true = (let_writable, outer_writable p.0 p.1 f.0 f.1)
    go false = (alias_writable p.0 f.0, proper_writable p.1 f.1)

keys_spelled : (outer : ℕ → Bool) (ps : List (ℕ × Label)) → Each Fits ps → AreSpellableKeys (order_keys outer ps)
keys_spelled outer [] e = tt
keys_spelled outer (p ∷ ps) e = (column_spelled outer p e.0, keys_spelled outer ps e.1)

-- items behind the first
items_spelled : (keys : ExprTrees) (ps : List (ℕ × Label)) → AreSpellableKeys keys → Each Fits ps → AreSpellableItems (let_items keys ps)
items_spelled keys [] k e = (number_writable, k, tt)
items_spelled keys (p ∷ ps) k e = (outer_writable p.0 p.1 e.0.0 e.0.1, column_spelled none_outer p e.0, items_spelled keys ps k e.1)

let_items_spelled : (keys : ExprTrees) (ps : List (ℕ × Label)) → AreSpellableKeys keys → Each Fits ps → HasSpellableItems (let_items keys ps)
let_items_spelled keys [] k e = (number_writable, k, tt)
let_items_spelled keys (p ∷ ps) k e = (outer_writable p.0 p.1 e.0.0 e.0.1, column_spelled none_outer p e.0, items_spelled keys ps k e.1)

abbrev Spelled : ValueTree → ColumnType → Type 0
Spelled v t = IsSpellableValue v

answer_spelled : (k : ℕ) (vs : List ValueTree) (ts : List ColumnType) → EachBoth Spelled vs ts → k + length ts ≤ 2 ^ 63 → AreSpellableItems (answer_items k vs)
answer_spelled k [] ts h few = tt
answer_spelled k (v ∷ vs) [] h few = absurd h
answer_spelled k (v ∷ vs) (t ∷ ts) h few = (answer_writable k (omega (arith, few)), h.0, answer_spelled (suc k) vs ts h.1 (omega (arith, few)))

zeros_spelled : (ts : List ColumnType) → EachBoth Spelled (map zero_value ts) ts
zeros_spelled [] = refl
zeros_spelled (Int ∷ ts) = ((0, refl, omega arith), zeros_spelled ts)
zeros_spelled (Truth ∷ ts) = (tt, zeros_spelled ts)
zeros_spelled (Text ∷ ts) = (tt, zeros_spelled ts)

module _ (S : List TableShape) (proper : Each IsProperShape S) where
  -- the columns that have a type in the scope fit
  abbrev pub ScopeFits : List Gen → Type 0
  ScopeFits sc = (g : ℕ) (l : Label) (T : ColumnType) → column_type_in l (gen_columns S sc g) ≡ Some T → Fits (g, l)

  fits_more : (gens sc : List Gen) → Each IsNumber (numbers gens) → ScopeFits sc → ScopeFits (gens ++ sc)
  fits_more [] sc n s g l T h = s g l T h
  fits_more (k ∷ gens) sc n s g l T h = go (nat_eq g k.number) refl h (fits_more gens sc n.1 s g l T)
    where
      go : (b : Bool) → nat_eq g k.number ≡ b → column_type_in l (cond b (table_columns S k.table) (gen_columns S (gens ++ sc) g)) ≡ Some T → (column_type_in l (gen_columns S (gens ++ sc) g) ≡ Some T → Fits (g, l)) → Fits (g, l)
      go true e h f = (subst (λ z. z < 2 ^ 63) (sym ((Decides-eqb g k.number).0 e)) n.0.1, column_proper l T (table_columns S k.table) (columns_proper S proper k.table) h)
      go false e h f = f h

  pub fits_all : (gens : List Gen) → Each IsNumber (numbers gens) → ScopeFits gens
  fits_all gens n = subst ScopeFits (append-nil gens) (fits_more gens [] n (λ g l T h. absurd (cc)))

  columns_fit : (gens : List Gen) → Each IsNumber (numbers gens) → Each Fits (columns_in (column_names S) gens)
  columns_fit [] n = tt
  columns_fit (g ∷ gens) n = each_join Fits (map (λ c. (g.number, c)) (column_names S g.table)) (columns_in (column_names S) gens) (own (names_of (table_columns S g.table)) (columns_proper S proper g.table)) (columns_fit gens n.1)
    where
      own : (cs : List Label) → Each IsProperName cs → Each Fits (map (λ c. (g.number, c)) cs)
      own [] p = tt
      own (c ∷ cs) p = ((n.0.1, p.0), own cs p.1)

  pub sources_spelled : (gens : List Gen) → AreTables S gens → Each IsNumber (numbers gens) → Each HasWritableNames (map source_of gens)
  sources_spelled [] t n = tt
  sources_spelled (g ∷ gens) t n = ((proper_writable g.table (name_proper S proper g.table t.0), alias_writable g.number n.0.1), sources_spelled gens t.1 n.1)

  module _ (outer : ℕ → Bool) where
    mutual
      pub base_spelled : (sc : List Gen) (b : BaseTree) (T : ColumnType) → ScopeFits sc → BaseHas S sc b T → Each IsNumber (base_numbers b) → IsSpellableExpr (base_expr outer b)
      base_spelled sc (literal c) T f h n = literal_spelled c h.1
      base_spelled sc (column g l) T f h n = column_spelled outer (g, l) (f g l T h)
      base_spelled sc (unary o b) T f h n = base_spelled sc b h.0 f h.1 n
      base_spelled sc (binary o a b) T f h n = (base_spelled sc a h.0 f h.2 (each_left IsNumber (base_numbers a) (base_numbers b) n), base_spelled sc b h.1 f h.3 (each_right IsNumber (base_numbers a) (base_numbers b) n))
      base_spelled sc (choose x a b) T f h n =
          let r = each_right IsNumber (base_numbers x) (base_numbers a ++ base_numbers b) n in
          (base_spelled sc x Truth f h.0 (each_left IsNumber (base_numbers x) (base_numbers a ++ base_numbers b) n), base_spelled sc a T f h.1 (each_left IsNumber (base_numbers a) (base_numbers b) r), base_spelled sc b T f h.2 (each_right IsNumber (base_numbers a) (base_numbers b) r))
      base_spelled sc (empty no_test) T f h n = tt
      base_spelled sc (empty (test gens conds xs)) T f h n =
          let r = each_right IsNumber (numbers gens) (conds_numbers conds ++ tests_numbers xs) n in
          let own = each_left IsNumber (numbers gens) (conds_numbers conds ++ tests_numbers xs) n in
          (((one_writable, (1, refl, omega arith), tt), sources_spelled gens h.1.0 own, keep_spelled (gens ++ sc) conds (fits_more gens sc own f) h.1.1 (each_left IsNumber (conds_numbers conds) (tests_numbers xs) r)), tests_spelled sc xs f h.1.2 (each_right IsNumber (conds_numbers conds) (tests_numbers xs) r))
      base_spelled sc (total HowMany gens conds b) T f h n =
          let r = each_right IsNumber (numbers gens) (conds_numbers conds ++ base_numbers b) n in
          let own = each_left IsNumber (numbers gens) (conds_numbers conds ++ base_numbers b) n in
          (sources_spelled gens h.1 own, keep_spelled (gens ++ sc) conds (fits_more gens sc own f) h.2 (each_left IsNumber (conds_numbers conds) (base_numbers b) r), refl)
      base_spelled sc (total SumOf gens conds b) T f h n =
          let r = each_right IsNumber (numbers gens) (conds_numbers conds ++ base_numbers b) n in
          let own = each_left IsNumber (numbers gens) (conds_numbers conds ++ base_numbers b) n in
          let inner = fits_more gens sc own f in
          (sources_spelled gens h.1 own, keep_spelled (gens ++ sc) conds inner h.2 (each_left IsNumber (conds_numbers conds) (base_numbers b) r), base_spelled (gens ++ sc) b Int inner h.3 (each_right IsNumber (conds_numbers conds) (base_numbers b) r))

      pub keep_spelled : (sc : List Gen) (bs : Conds) → ScopeFits sc → CondsHave S sc bs → Each IsNumber (conds_numbers bs) → IsSpellableKeep (conds_keep outer bs)
      keep_spelled sc no_cond f h n = tt
      keep_spelled sc (and_cond b bs) f h n = joined_spelled sc (base_expr outer b) bs f (base_spelled sc b Truth f h.0 (each_left IsNumber (base_numbers b) (conds_numbers bs) n)) h.1 (each_right IsNumber (base_numbers b) (conds_numbers bs) n)

      joined_spelled : (sc : List Gen) (e : ExprTree) (bs : Conds) → ScopeFits sc → IsSpellableExpr e → CondsHave S sc bs → Each IsNumber (conds_numbers bs) → IsSpellableExpr (joined outer e bs)
      joined_spelled sc e no_cond f k h n = k
      joined_spelled sc e (and_cond b bs) f k h n = joined_spelled sc (ExprTree.binary _ e (base_expr outer b)) bs f (k, base_spelled sc b Truth f h.0 (each_left IsNumber (base_numbers b) (conds_numbers bs) n)) h.1 (each_right IsNumber (base_numbers b) (conds_numbers bs) n)

      tests_spelled : (sc : List Gen) (xs : Tests) → ScopeFits sc → TestsHave S sc xs → Each IsNumber (tests_numbers xs) → AreSpellableSelects (tests_query outer xs)
      tests_spelled sc no_test f h n = tt
      tests_spelled sc (test gens conds xs) f h n =
          let r = each_right IsNumber (numbers gens) (conds_numbers conds ++ tests_numbers xs) n in
          let own = each_left IsNumber (numbers gens) (conds_numbers conds ++ tests_numbers xs) n in
          (((one_writable, (1, refl, omega arith), tt), sources_spelled gens h.0 own, keep_spelled (gens ++ sc) conds (fits_more gens sc own f) h.1 (each_left IsNumber (conds_numbers conds) (tests_numbers xs) r)), tests_spelled sc xs f h.2 (each_right IsNumber (conds_numbers conds) (tests_numbers xs) r))

    module _ (sc : List Gen) (f : ScopeFits sc) (tag : ℕ) (small : tag < 2 ^ 63) (keys : ExprTrees) (k : AreSpellableKeys keys) where
      abbrev LeavesFit : List BaseTree → Type 0
      LeavesFit bs = Each (λ b. Each IsNumber (base_numbers b)) bs

      mutual
        shape_spelled : (b : ShapeTree) (a : TypeTree) → ShapeHas S sc b a → LeavesFit (shape_leaves b) → EachBoth Spelled (shape_values outer tag keys b) (element_columns a)
        shape_spelled (plain_shape b) int h n = (base_spelled sc b Int f h n.0, refl)
        shape_spelled (plain_shape b) bool h n = (base_spelled sc b Truth f h n.0, refl)
        shape_spelled (plain_shape b) text h n = (base_spelled sc b Text f h n.0, refl)
        shape_spelled (plain_shape b) (rec gs) h n = absurd h
        shape_spelled (plain_shape b) (bag a) h n = absurd h
        shape_spelled (plain_shape b) (fun a c) h n = absurd h
        shape_spelled (rec_shape fs) int h n = absurd h
        shape_spelled (rec_shape fs) bool h n = absurd h
        shape_spelled (rec_shape fs) text h n = absurd h
        shape_spelled (rec_shape fs) (rec gs) h n = shapes_spelled fs gs h n
        shape_spelled (rec_shape fs) (bag a) h n = absurd h
        shape_spelled (rec_shape fs) (fun a c) h n = absurd h
        shape_spelled index_shape int h n = absurd h
        shape_spelled index_shape bool h n = absurd h
        shape_spelled index_shape text h n = absurd h
        shape_spelled index_shape (rec gs) h n = absurd h
        shape_spelled index_shape (bag a) h n = ((tag, refl, small), (k, refl))
        shape_spelled index_shape (fun a c) h n = absurd h

        shapes_spelled : (fs : Shapes) (gs : FieldTypes) → ShapesHave S sc fs gs → LeavesFit (shape_leaves_in fs) → EachBoth Spelled (shapes_values outer tag keys fs) (fields_columns gs)
        shapes_spelled no_shape none h n = refl
        shapes_spelled no_shape (field j a gs) h n = absurd h
        shapes_spelled (with_shape l s fs) none h n = absurd h
        shapes_spelled (with_shape l s fs) (field j a gs) h n =
            both_append Spelled (shape_values outer tag keys s) (shapes_values outer tag keys fs) (element_columns a) (fields_columns gs)
            (shape_spelled s a h.1 (each_left (λ b. Each IsNumber (base_numbers b)) (shape_leaves s) (shape_leaves_in fs) n))
            (shapes_spelled fs gs h.2 (each_right (λ b. Each IsNumber (base_numbers b)) (shape_leaves s) (shape_leaves_in fs) n))

  let_spelled : (l : LetTree) → ScopeFacts S l.gens l.conds → FitScope l.gens l.conds → IsSpellableSelect (let_select (column_names S) l)
  let_spelled l h n =
      let fit = columns_fit l.gens n.gens_fit in
      (let_items_spelled (order_keys none_outer (columns_in (column_names S) l.gens)) (columns_in (column_names S) l.gens) (keys_spelled none_outer (columns_in (column_names S) l.gens) fit) fit, sources_spelled l.gens h.tables n.gens_fit, keep_spelled none_outer l.gens l.conds (fits_all l.gens n.gens_fit) h.typed n.conds_fit)

  withs_spelled : (k : ℕ) (lets : List LetTree) → Each (λ l. ScopeFacts S l.gens l.conds × FitScope l.gens l.conds) lets → k + length lets ≤ 2 ^ 63 → Each IsSpellableWith (withs_from (column_names S) k lets)
  withs_spelled k [] h few = tt
  withs_spelled k (l ∷ lets) h few = ((with_writable k (omega (arith, few)), (let_spelled l h.0.0 h.0.1, tt)), withs_spelled (suc k) lets h.1 (omega (arith, few)))

  around_spelled : (from : ℕ) → IsSpellableExpr (around_number from)
  around_spelled zero = (1, refl, omega arith)
  around_spelled (suc k) = (let_writable, number_writable)

  after_spelled : (from : ℕ) (gens : List Gen) → from < 2 ^ 63 → AreTables S gens → Each IsNumber (numbers gens) → Each HasWritableNames (after_let from (map source_of gens))
  after_spelled zero gens b t n = sources_spelled gens t n
  after_spelled (suc k) gens b t n = ((with_writable (suc k) b, let_writable), sources_spelled gens t n)

  strand_spelled : (a : TypeTree) (from : ℕ) (c : StrandTree) → from < 2 ^ 63 → length (answer_columns a) ≤ 2 ^ 63 → FineStrand S a c → IsSpellableSelect (strand_select (column_names S) from c)
  strand_spelled a from c b few h =
      let sc = c.outer_gens ++ c.gens in
      let outer = in_gens c.outer_gens in
      let n = h.fit in
      let all : Each IsNumber (numbers sc) = subst (Each IsNumber) (sym (numbers_append c.outer_gens c.gens)) (each_join IsNumber (numbers c.outer_gens) (numbers c.gens) n.around.gens_fit n.own_gens) in
      let keys = keys_spelled outer (columns_in (column_names S) sc) (columns_fit sc all) in
      let fits = fits_all sc all in
      let values = shape_spelled outer sc fits c.tag n.tag (order_keys outer (columns_in (column_names S) sc)) keys c.shape a h.shape n.leaves in
      let more : 2 + length (element_columns a) ≤ 2 ^ 63 = omega (arith, few) in (
        (answer_writable 0 (omega arith), (c.parent, refl, n.parent), (answer_writable 1 (omega arith), around_spelled from, answer_spelled 2 (shape_values outer c.tag (order_keys outer (columns_in (column_names S) sc)) c.shape) (element_columns a) values more)),
        after_spelled from c.gens b h.facts.tables n.own_gens,
        keep_spelled outer sc c.conds fits h.facts.conds_typed n.own_conds,
      )

  parts_spelled : (a : TypeTree) (lets : List LetTree) → length lets < 2 ^ 63 → length (answer_columns a) ≤ 2 ^ 63 → (parts : List PartTree) → Each (λ p. (p.from ≤ length lets) × FineStrand S a (strand_of lets p)) parts → AreSpellableSelects (parts_query (column_names S) lets parts)
  parts_spelled a lets b few [] h = tt
  parts_spelled a lets b few (p ∷ parts) h = (strand_spelled a p.from (strand_of lets p) (omega (arith, b, h.0.0)) few h.0.1, parts_spelled a lets b few parts h.1)

  main_spelled : (a : TypeTree) (lets : List LetTree) → length lets < 2 ^ 63 → length (answer_columns a) ≤ 2 ^ 63 → (parts : List PartTree) → Each (λ p. (p.from ≤ length lets) × FineStrand S a (strand_of lets p)) parts → IsSpellableQuery (main_query (column_names S) (answer_columns a) lets parts)
  main_spelled a lets b few [] h =
      let zeros = zeros_spelled (element_columns a) in
      let more : 2 + length (element_columns a) ≤ 2 ^ 63 = omega (arith, few) in
      (((answer_writable 0 (omega arith), (0, refl, omega arith), (answer_writable 1 (omega arith), (0, refl, omega arith), answer_spelled 2 (map zero_value (element_columns a)) (element_columns a) zeros more)), tt, tt), tt)
  main_spelled a lets b few (p ∷ parts) h = (strand_spelled a p.from (strand_of lets p) (omega (arith, b, h.0.0)) few h.0.1, parts_spelled a lets b few parts h.1)

each_two : {A : Type 0} (P Q : A → Type 0) (xs : List A) → Each P xs → Each Q xs → Each (λ x. P x × Q x) xs
each_two P Q [] e f = tt
each_two P Q (x ∷ xs) e f = ((e.0, f.0), each_two P Q xs e.1 f.1)

-- a text can spell the tree of a let form
pub tree_spellable : (schema : Schema) (f : LetFormTree) → IsProperSchema schema → IsLetFormOf schema f → length f.lets < 2 ^ 63 → length (answer_columns f.element) < 2 ^ 63 → IsSpellable (flattened schema f)
tree_spellable schema f proper form lets columns =
    let h = fine_form schema f form in
    let shapes = recursion_from_All IsProperShape schema.tables proper.proper in
    let both = each_two (λ l. ScopeFacts schema.tables l.gens l.conds) (λ l. FitScope l.gens l.conds) f.lets h.lets h.fit in
    (withs_spelled schema.tables shapes 1 f.lets both (omega (arith, lets)), main_spelled schema.tables shapes f.element f.lets lets (omega (arith, columns)) f.parts h.parts)
