-- A WITH query keeps the scope rules and has the columns of its generators, and a number.
use Rattle.std.proofs.Common.{◌≡◌, ℕ, List, [], ◌∷◌, ◌++◌, map, refl, ap, ap₂, ◌∙◌, subst, Bool, true, false, cond, flat_map, nat_eq, ◌&&◌, ◌||◌, append_assoc, append-nil, Some, None}
use Rattle.std.specs.List.{AllByRecursion as Each}
use Rattle.std.specs.Str.{bytes_eq}
use Rattle.std.proofs.lemmas.List.{map-append}
use Rattle.nq_model.specs.NamedRows.{Label}
use Rattle.nq_model.specs.Tables.{Columns}
use Rattle.nq_model.specs.declared.table.ColumnType.{ColumnType}
use Rattle.nq_model.specs.declared.table.ColumnType.TheVariants.{Int}
use Rattle.nq_model.specs.declared.table.TableShape.{TableShape}
use Rattle.nq_model.proofs.Numberings.{each_map}
use Rattle.nq_ir.specs.declared.base.Gen.{Gen}
use Rattle.nq_ir.specs.Lets.{LetTree, columns_in}
use Rattle.nq_ir.specs.WellFormed.{column_type_in, gen_columns, table_columns, column_names, numbers}
use Rattle.nq_ir.proofs.Distinct.{Distinct, each_join}
use Rattle.nq_ir.proofs.Equal.{bytes_same, nat_same}
use Rattle.nq_ir.proofs.Paths.{LabelsDiffer}
use Rattle.sql_profile.specs.Trees.{ExprTrees, no_select, then_select}
use Rattle.sql_profile.specs.Scope.{Shapes, Aliases, found, among, HasType, QueryHas, ItemsHave, KeysHave}
use Rattle.flatten.specs.Names.{outer_column, number_name}
use Rattle.flatten.specs.Exprs.{column_expr, order_keys}
use Rattle.flatten.specs.Emitted.{none_outer, let_items, let_select}
use Rattle.flatten.proofs.Apart.{columns_apart, number_not, own_number, nat_flip}
use Rattle.flatten.proofs.Facts.{ScopeFacts}
use Rattle.flatten.proofs.ScopeExprs.{Extends, own_aliases, sources_have, none_seen, ShowsTypes, shows_types_more, keep_typed}
use Rattle.flatten.proofs.Withs.{inner_conds}

-- a column of a generator with its type
abbrev pub Typed : Type 0
Typed = (ℕ × Label) × ColumnType

abbrev pub pair_of : Typed → ℕ × Label
pair_of q = q.0

-- two such columns are not one
abbrev pub Differ : Typed → Typed → Type 0
Differ q r = (nat_eq r.0.0 q.0.0 && bytes_eq r.0.1 q.0.1) ≡ false

abbrev pub EntriesDiffer : List Typed → Type 0
EntriesDiffer [] = Unit {0}
EntriesDiffer (q ∷ qs) = Each (Differ q) qs × EntriesDiffer qs

entries_join : (xs ys : List Typed) → EntriesDiffer xs → EntriesDiffer ys → Each (λ x. Each (Differ x) ys) xs → EntriesDiffer (xs ++ ys)
entries_join [] ys d e a = e
entries_join (x ∷ xs) ys d e a = (each_join (Differ x) xs ys d.0 a.0, entries_join xs ys d.1 e a.1)

abbrev pub column_of : Typed → Label × ColumnType
column_of q = (outer_column q.0.0 q.0.1, q.1)

and_false : (a : Bool) → (a && false) ≡ false
and_false true = refl
and_false false = refl

-- the columns of one generator
abbrev pub block : ℕ → Columns → List Typed
block g columns = map {B = Typed} (λ c. ((g, c.0), c.1)) columns

each_block : (P : ℕ → Type 0) (g : ℕ) → P g → (columns : Columns) → Each (λ (q : Typed). P q.0.0) (block g columns)
each_block P g h [] = tt
each_block P g h (c ∷ columns) = (h, each_block P g h columns)

own_types : (columns : Columns) → LabelsDiffer (map (λ c. c.0) columns) → Each (λ c. column_type_in c.0 columns ≡ Some c.1) columns
own_types [] d = tt
own_types (c ∷ columns) d = (ap (λ b. cond b (Some c.1) (column_type_in c.0 columns)) (bytes_same c.0 c.0 refl), others columns d.0 (own_types columns d.1))
  where
    others : (ds : Columns) → Each (λ m. bytes_eq m c.0 ≡ false) (map (λ d. d.0) ds) → Each (λ d. column_type_in d.0 columns ≡ Some d.1) ds → Each (λ d. column_type_in d.0 (c ∷ columns) ≡ Some d.1) ds
    others [] a e = tt
    others (d ∷ ds) a e = (ap (λ b. cond b (Some c.1) (column_type_in d.0 columns)) a.0 ∙ e.0, others ds a.1 e.1)

module _ (S : List TableShape) where
  -- the columns of generators, outermost first
  abbrev pub typed_in : List Gen → List Typed
  typed_in gens = flat_map (λ g. block g.number (table_columns S g.table)) gens

  -- the columns of the WITH query of these generators
  abbrev pub let_shape : List Gen → Columns
  let_shape gens = map column_of (typed_in gens) ++ (number_name, Int) ∷ []

  pub columns_typed : (gens : List Gen) → map pair_of (typed_in gens) ≡ columns_in (column_names S) gens
  columns_typed [] = refl
  columns_typed (g ∷ gens) = map-append pair_of (block g.number (table_columns S g.table)) (typed_in gens) ∙ ap₂ (λ (x y : List (ℕ × Label)). x ++ y) (one (table_columns S g.table)) (columns_typed gens)
    where
      one : (cs : Columns) → map pair_of (block g.number cs) ≡ map (λ c. (g.number, c)) (map (λ c. c.0) cs)
      one [] = refl
      one (c ∷ cs) = ap (λ (l : List (ℕ × Label)). (g.number, c.0) ∷ l) (one cs)

  -- each entry of the generators has a number of theirs
  entries : (P : ℕ → Type 0) (gens : List Gen) → Each P (numbers gens) → Each (λ (q : Typed). P q.0.0) (typed_in gens)
  entries P [] e = tt
  entries P (g ∷ gens) e = each_join (λ (q : Typed). P q.0.0) (block g.number (table_columns S g.table)) (typed_in gens) (each_block P g.number e.0 (table_columns S g.table)) (entries P gens e.1)

  module _ (differ : (t : Label) → LabelsDiffer (column_names S t)) where
    -- each of these columns has its type in the scope
    pub entry_types : (gens : List Gen) → Distinct (numbers gens) → Each (λ (q : Typed). column_type_in q.0.1 (gen_columns S gens q.0.0) ≡ Some q.1) (typed_in gens)
    entry_types [] d = tt
    entry_types (g ∷ gens) d =
        each_join (λ (q : Typed). column_type_in q.0.1 (gen_columns S (g ∷ gens) q.0.0) ≡ Some q.1) (block g.number (table_columns S g.table)) (typed_in gens)
        (own (table_columns S g.table) (own_types (table_columns S g.table) (differ g.table)))
        (rest (typed_in gens) (entries (λ n. nat_eq g.number n ≡ false) gens d.0) (entry_types gens d.1))
      where
        own : (cs : Columns) → Each (λ c. column_type_in c.0 (table_columns S g.table) ≡ Some c.1) cs → Each (λ (q : Typed). column_type_in q.0.1 (gen_columns S (g ∷ gens) q.0.0) ≡ Some q.1) (block g.number cs)
        own [] e = tt
        own (c ∷ cs) e = (ap (λ b. column_type_in c.0 (cond b (table_columns S g.table) (gen_columns S gens g.number))) (nat_same g.number g.number refl) ∙ e.0, own cs e.1)

        rest : (qs : List Typed) → Each (λ (q : Typed). nat_eq g.number q.0.0 ≡ false) qs → Each (λ (q : Typed). column_type_in q.0.1 (gen_columns S gens q.0.0) ≡ Some q.1) qs → Each (λ (q : Typed). column_type_in q.0.1 (gen_columns S (g ∷ gens) q.0.0) ≡ Some q.1) qs
        rest [] a e = tt
        rest (q ∷ qs) a e = (ap (λ b. column_type_in q.0.1 (cond b (table_columns S g.table) (gen_columns S gens q.0.0))) (nat_flip g.number q.0.0 a.0) ∙ e.0, rest qs a.1 e.1)

    -- no two of them are one
    pub entries_differ : (gens : List Gen) → Distinct (numbers gens) → EntriesDiffer (typed_in gens)
    entries_differ [] d = tt
    entries_differ (g ∷ gens) d =
        entries_join (block g.number (table_columns S g.table)) (typed_in gens) (own (table_columns S g.table) (differ g.table)) (entries_differ gens d.1) (cross (table_columns S g.table))
      where
        one : (c : Label × ColumnType) (cs : Columns) → Each (λ m. bytes_eq m c.0 ≡ false) (map (λ d. d.0) cs) → Each (Differ ((g.number, c.0), c.1)) (block g.number cs)
        one c [] e = tt
        one c (d ∷ cs) e = (ap (λ b. nat_eq g.number g.number && b) e.0 ∙ and_false (nat_eq g.number g.number), one c cs e.1)

        own : (cs : Columns) → LabelsDiffer (map (λ c. c.0) cs) → EntriesDiffer (block g.number cs)
        own [] e = tt
        own (c ∷ cs) e = (one c cs e.0, own cs e.1)

        away : (l : Label) (k : ColumnType) → Each (Differ ((g.number, l), k)) (typed_in gens)
        away l k = each_map (λ (q : Typed). nat_eq g.number q.0.0 ≡ false) (Differ ((g.number, l), k)) (λ q a. ap (λ b. b && bytes_eq q.0.1 l) (nat_flip g.number q.0.0 a)) (typed_in gens) (entries (λ n. nat_eq g.number n ≡ false) gens d.0)

        cross : (cs : Columns) → Each (λ x. Each (Differ x) (typed_in gens)) (block g.number cs)
        cross [] = tt
        cross (c ∷ cs) = (away c.0 c.1, cross cs)

  module _ (R : Shapes) (x : Extends S R) where
    -- items of columns whose names differ
    items_have : (env : Aliases) (seen : List Label) (keys : ExprTrees) (qs : List Typed) → KeysHave R env keys → Each (λ (q : Typed). HasType R env (column_expr none_outer q.0.0 q.0.1) q.1) qs → EntriesDiffer qs → Each (λ (q : Typed). among (outer_column q.0.0 q.0.1) seen ≡ false) qs → among number_name seen ≡ false → ItemsHave R env seen (let_items keys (map pair_of qs)) (map column_of qs ++ (number_name, Int) ∷ [])
    items_have env seen keys [] k t d n m = (Int, [], (k, refl), m, refl, refl)
    items_have env seen keys (q ∷ qs) k t d n m =
        let name = outer_column q.0.0 q.0.1 in
        (q.1, map column_of qs ++ (number_name, Int) ∷ [], t.0, n.0, items_have env (name ∷ seen) keys qs k t.1 d.1 (others qs d.0 n.1) (ap₂ (λ y z. y || z) (number_not q.0.0 q.0.1) m), refl)
      where
        others : (rs : List Typed) → Each (Differ q) rs → Each (λ (r : Typed). among (outer_column r.0.0 r.0.1) seen ≡ false) rs → Each (λ (r : Typed). among (outer_column r.0.0 r.0.1) (outer_column q.0.0 q.0.1 ∷ seen) ≡ false) rs
        others [] a e = tt
        others (r ∷ rs) a e = (ap₂ (λ y z. y || z) (columns_apart r.0.0 q.0.0 r.0.1 q.0.1 ∙ a.0) e.0, others rs a.1 e.1)

    pub keys_have : (outer : ℕ → Bool) (env : Aliases) (qs : List Typed) → Each (λ (q : Typed). HasType R env (column_expr outer q.0.0 q.0.1) q.1) qs → KeysHave R env (order_keys outer (map pair_of qs))
    keys_have outer env [] t = tt
    keys_have outer env (q ∷ qs) t = (q.1, t.0, keys_have outer env qs t.1)

    none_named : (qs : List Typed) → Each (λ (q : Typed). among (outer_column q.0.0 q.0.1) [] ≡ false) qs
    none_named [] = tt
    none_named (q ∷ qs) = (refl, none_named qs)

    no_outer : (gens : List Gen) → Each (λ (h : Gen). false ≡ false) gens
    no_outer [] = tt
    no_outer (g ∷ gens) = (refl, no_outer gens)

    -- own sources show their columns
    pub own_shows : (outer : ℕ → Bool) (gens : List Gen) → Each (λ (g : Gen). outer g.number ≡ false) gens → ShowsTypes S R x outer (own_aliases S gens ++ []) gens
    own_shows outer gens n = subst (λ (z : List Gen). ShowsTypes S R x outer (own_aliases S gens ++ []) z) (append-nil gens) (shows_types_more S R x outer gens [] [] n (λ g l T e. absurd (cc)))

    module _ (differ : (t : Label) → LabelsDiffer (column_names S t)) where
      -- columns of generators in scope have their types
      pub shown_entries : (outer : ℕ → Bool) (env : Aliases) (gens : List Gen) → ShowsTypes S R x outer env gens → Distinct (numbers gens) → Each (λ (q : Typed). HasType R env (column_expr outer q.0.0 q.0.1) q.1) (typed_in gens)
      shown_entries outer env gens s d = each_map (λ (q : Typed). column_type_in q.0.1 (gen_columns S gens q.0.0) ≡ Some q.1) (λ (q : Typed). HasType R env (column_expr outer q.0.0 q.0.1) q.1) (λ q e. s q.0.0 q.0.1 q.1 e) (typed_in gens) (entry_types differ gens d)

      -- all of them as order keys
      pub all_keys_have : (outer : ℕ → Bool) (env : Aliases) (gens : List Gen) → ShowsTypes S R x outer env gens → Distinct (numbers gens) → KeysHave R env (order_keys outer (columns_in (column_names S) gens))
      all_keys_have outer env gens s d = subst (λ (z : List (ℕ × Label)). KeysHave R env (order_keys outer z)) (columns_typed gens) (keys_have outer env (typed_in gens) (shown_entries outer env gens s d))

      pub let_typed : (l : LetTree) → ScopeFacts S l.gens l.conds → QueryHas R [] (then_select (let_select (column_names S) l) no_select) (let_shape l.gens)
      let_typed l f =
          let gens = l.gens in
          let env = own_aliases S gens ++ [] in
          let shows = own_shows none_outer gens (no_outer gens) in
          let columns = shown_entries none_outer env gens shows f.differ in
          let keys = keys_have none_outer env (typed_in gens) columns in
          let items = items_have env [] (order_keys none_outer (map pair_of (typed_in gens))) (typed_in gens) keys columns (entries_differ differ gens f.differ) (none_named (typed_in gens)) refl in
          let all : ItemsHave R env [] (let_items (order_keys none_outer (columns_in (column_names S) gens)) (columns_in (column_names S) gens)) (let_shape gens) = subst (λ (z : List (ℕ × Label)). ItemsHave R env [] (let_items (order_keys none_outer z) z) (let_shape gens)) (columns_typed gens) items in
          ((own_aliases S gens, sources_have S R x [] gens f.tables f.differ (none_seen S R x gens), keep_typed S R x none_outer l.conds env gens f.typed (inner_conds l.conds) f.tests shows, all), tt)

  -- the number of a let's row
  pub number_found : (gens : List Gen) → found number_name (let_shape gens) ≡ Some Int
  number_found gens = go (typed_in gens)
    where
      go : (qs : List Typed) → found number_name (map column_of qs ++ (number_name, Int) ∷ []) ≡ Some Int
      go [] = ap (λ b. cond b (Some Int) None) own_number
      go (q ∷ qs) = ap (λ b. cond b (Some q.1) (found number_name (map column_of qs ++ (number_name, Int) ∷ []))) (number_not q.0.0 q.0.1) ∙ go qs

  -- a column of an outer generator
  pub outer_found : (gens : List Gen) (g : ℕ) (l : Label) (T : ColumnType) → column_type_in l (gen_columns S gens g) ≡ Some T → found (outer_column g l) (let_shape gens) ≡ Some T
  outer_found gens g l T h = go gens ((number_name, Int) ∷ []) h
    where
      skip : (h : ℕ) (cs : Columns) (rest : Columns) → nat_eq g h ≡ false → found (outer_column g l) (map column_of (block h cs) ++ rest) ≡ found (outer_column g l) rest
      skip h [] rest e = refl
      skip h (c ∷ cs) rest e = ap (λ b. cond b (Some c.1) (found (outer_column g l) (map column_of (block h cs) ++ rest))) (columns_apart g h l c.0 ∙ ap (λ b. b && bytes_eq l c.0) e) ∙ skip h cs rest e

      hit : (h : ℕ) (cs : Columns) (rest : Columns) → nat_eq g h ≡ true → column_type_in l cs ≡ Some T → found (outer_column g l) (map column_of (block h cs) ++ rest) ≡ Some T
      hit h [] rest e f = absurd (cc)
      hit h (c ∷ cs) rest e f = ap (λ b. cond b (Some c.1) (found (outer_column g l) (map column_of (block h cs) ++ rest))) (columns_apart g h l c.0 ∙ ap (λ b. b && bytes_eq l c.0) e) ∙ pick (bytes_eq l c.0) f (hit h cs rest e)
        where
          pick : (b : Bool) → cond b (Some c.1) (column_type_in l cs) ≡ Some T → (column_type_in l cs ≡ Some T → found (outer_column g l) (map column_of (block h cs) ++ rest) ≡ Some T) → cond b (Some c.1) (found (outer_column g l) (map column_of (block h cs) ++ rest)) ≡ Some T
          pick true f i = f
          pick false f i = i f

      split : (h : Gen) (hs : List Gen) (rest : Columns) → map column_of (typed_in (h ∷ hs)) ++ rest ≡ map column_of (block h.number (table_columns S h.table)) ++ (map column_of (typed_in hs) ++ rest)
      split h hs rest = ap (λ (z : Columns). z ++ rest) (map-append column_of (block h.number (table_columns S h.table)) (typed_in hs)) ∙ append_assoc (map column_of (block h.number (table_columns S h.table))) (map column_of (typed_in hs)) rest

      go : (hs : List Gen) (rest : Columns) → column_type_in l (gen_columns S hs g) ≡ Some T → found (outer_column g l) (map column_of (typed_in hs) ++ rest) ≡ Some T
      go [] rest f = absurd (cc)
      go (h ∷ hs) rest f = ap (found (outer_column g l)) (split h hs rest) ∙ pick (nat_eq g h.number) refl f (go hs rest)
        where
          pick : (b : Bool) → nat_eq g h.number ≡ b → column_type_in l (cond b (table_columns S h.table) (gen_columns S hs g)) ≡ Some T → (column_type_in l (gen_columns S hs g) ≡ Some T → found (outer_column g l) (map column_of (typed_in hs) ++ rest) ≡ Some T) → found (outer_column g l) (map column_of (block h.number (table_columns S h.table)) ++ (map column_of (typed_in hs) ++ rest)) ≡ Some T
          pick true e f i = hit h.number (table_columns S h.table) (map column_of (typed_in hs) ++ rest) e f
          pick false e f i = skip h.number (table_columns S h.table) (map column_of (typed_in hs) ++ rest) e ∙ i f
