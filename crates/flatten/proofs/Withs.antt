-- The answers that SQL allows to the tree of a let form are rows that the let form allows, laid out in columns.
use Rattle.std.proofs.Common.{◌≡◌, ℕ, zero, suc, ◌+◌, ◌<◌, ◌≤◌, List, [], ◌∷◌, ◌++◌, map, refl, sym, ap, ap₂, ◌∙◌, subst, false, cond, length, zip, get_or, arith}
use Rattle.std.specs.List.{AllByRecursion as Each}
use Rattle.std.proofs.lemmas.List.{map-append}
use Rattle.nq_model.specs.Bags.{Reordered}
use Rattle.nq_model.specs.NamedRows.{Label, Row, NamedTables, rows_named, named}
use Rattle.nq_model.specs.Types.{TypeTree}
use Rattle.nq_model.specs.declared.table.Cell.{Cell}
use Rattle.nq_model.specs.declared.table.ColumnType.{ColumnType}
use Rattle.nq_model.proofs.Bags.{reordered_sym}
use Rattle.nq_model.proofs.Numberings.{each_map, each_reordered}
use Rattle.nq_ir.specs.declared.base.Gen.{Gen}
use Rattle.nq_ir.specs.Trees.{BaseTree, literal, column, unary, binary, choose, empty, Conds, no_cond, and_cond, Tests, no_test, test, total}
use Rattle.nq_ir.specs.Meanings.{Tables, Env, kept, EachBoth}
use Rattle.nq_ir.specs.Spots.{shape_leaves}
use Rattle.nq_ir.specs.Lets.{FlatRow, LetTree, PartTree, LetFormTree, LetRow, LetGives, Deals, Side, PartGives, PartsGive, FormGives, let_of, let_rows, strand_of, no_let, combos, part_rows, columns_in, key_of}
use Rattle.nq_ir.proofs.Equal.{nat_same, nat_differ}
use Rattle.nq_ir.proofs.Nested.{map_of_map}
use Rattle.nq_ir.proofs.Rows.{Uniform, RowsOf, kept_rows}
use Rattle.shred_types.specs.Columns.{row_cells}
use Rattle.sql_profile.specs.AllowedAnswers.{ItemsGive, SelectsGive, QueryGives, WithsAllow, beside, kept_combinations, item_names}
use Rattle.sql_profile.specs.Trees.{ExprTrees, QueryTree, ItemTrees, no_item, then_item}
use Rattle.flatten.specs.Names.{with_name, outer_column}
use Rattle.flatten.specs.Exprs.{source_of, conds_keep, order_keys}
use Rattle.flatten.specs.Emitted.{in_gens, none_outer, let_items, withs_from, answer_items, strand_values, around_number, after_let, parts_query, zero_value, main_query, emitted}
use Rattle.flatten.proofs.Apart.{withs_apart, not_with}
use Rattle.flatten.proofs.Exprs.{by_name, Inner, InnerAll, InnerTests}
use Rattle.flatten.proofs.LetQuery.{let_cells, let_query_gives, reordered_from_map}
use Rattle.flatten.proofs.PartItems.{FitsShape}
use Rattle.flatten.proofs.PartScope.{let_names, let_row, ShowsSpot}
use Rattle.flatten.proofs.Part.{part_gives, top_gives}
use Rattle.flatten.proofs.Agree.{Agree, TablesDotless, Dotless, DotlessAll, rows_have, rows_cover, kept_agrees, combos_agree, rows_agree}

-- what flattening asks of a let, and of a part
pub record LetGood (l : LetTree) : Type 0 where
  pub tables : TablesDotless l.gens
  pub conds : DotlessAll l.conds

pub record PartGood (a : TypeTree) (lets : List LetTree) (p : PartTree) : Type 0 where
  pub known : p.from ≤ length lets
  pub fits : FitsShape p.shape a
  pub inner_conds : InnerAll (in_gens (let_of lets p.from).gens) p.conds
  pub inner_leaves : Each (Inner (in_gens (let_of lets p.from).gens)) (shape_leaves p.shape)
  pub tables : TablesDotless p.gens
  pub dotless_conds : DotlessAll p.conds
  pub dotless_leaves : Each Dotless (shape_leaves p.shape)

pub record FormGood (f : LetFormTree) : Type 0 where
  pub lets : Each LetGood f.lets
  pub parts : Each (PartGood f.element f.lets) f.parts

inner_gens : (gens : List Gen) → Each (λ g. false ≡ false) gens
inner_gens [] = tt
inner_gens (g ∷ gens) = (refl, inner_gens gens)

mutual
  pub inner_all : (b : BaseTree) → Inner none_outer b
  inner_all (literal c) = tt
  inner_all (column g l) = tt
  inner_all (unary f b) = inner_all b
  inner_all (binary f a b) = (inner_all a, inner_all b)
  inner_all (choose t a b) = (inner_all t, inner_all a, inner_all b)
  inner_all (empty xs) = inner_tests xs
  inner_all (total g gens conds b) = (inner_gens gens, inner_conds conds, inner_all b)

  pub inner_conds : (bs : Conds) → InnerAll none_outer bs
  inner_conds no_cond = tt
  inner_conds (and_cond b bs) = (inner_all b, inner_conds bs)

  inner_tests : (xs : Tests) → InnerTests none_outer xs
  inner_tests no_test = tt
  inner_tests (test gens conds xs) = (inner_gens gens, inner_conds conds, inner_tests xs)

names_are : (keys : ExprTrees) (qs : List (ℕ × Label)) → item_names (let_items keys qs) ≡ let_names qs
names_are keys [] = refl
names_are keys (q ∷ qs) = ap (λ (l : List Label). outer_column q.0 q.1 ∷ l) (names_are keys qs)

beside_none : (cs : List Cell) → beside cs [] ≡ []
beside_none [] = refl
beside_none (c ∷ cs) = refl

-- over no combination there is no row
none_give : (us : NamedTables) (is : ItemTrees) (rows : List (List Cell)) → ItemsGive us [] is rows → rows ≡ []
none_give us no_item rows g = g
none_give us (then_item n v is) rows g = g.4 ∙ ap (beside g.0) (none_give us is g.1 g.3) ∙ beside_none g.0

module _ (cols : Label → List Label) (ts : Tables) where
  abbrev pub LetsGive : List LetTree → List (List LetRow) → Type 0
  LetsGive lets lists = EachBoth (LetGives cols ts) lets lists

  -- the tables hold the lists of these lets, from the number k on
  abbrev pub Held : NamedTables → ℕ → List LetTree → List (List LetRow) → Type 0
  Held us k [] lists = Unit {0}
  Held us k (l ∷ lets) [] = ⊥
  Held us k (l ∷ lets) (list ∷ lists) = (rows_named (with_name k) us ≡ map (let_row (columns_in cols l.gens)) list) × Held us (suc k) lets lists

  pub record Beside (us : NamedTables) (lets : List LetTree) (k : ℕ) (main : QueryTree) (ans : List (List Cell)) : Type 0 where
    pub lists : List (List LetRow)
    pub give : LetsGive lets lists
    pub tables : NamedTables
    pub agree : Agree ts (by_name tables)
    pub held : Held tables k lets lists
    pub before : (m : ℕ) → m < k → rows_named (with_name m) tables ≡ rows_named (with_name m) us
    pub gives : QueryGives tables main ans

  withs_give : (lets : List LetTree) (k : ℕ) (us : NamedTables) (main : QueryTree) (ans : List (List Cell)) → Agree ts (by_name us) → Each LetGood lets → WithsAllow us (withs_from cols k lets) main ans → Beside us lets k main ans
  withs_give [] k us main ans a h g = record { lists = []; give = refl; tables = us; agree = a; held = tt; before = λ m q. refl; gives = g }
  withs_give (l ∷ lets) k us main ans a h g =
      let ps = columns_in cols l.gens in
      let keys = order_keys none_outer ps in
      let q = let_query_gives us cols l g.0 (inner_conds l.conds) g.1 in
      let same : kept (by_name us) l.gens l.conds [] ≡ kept ts l.gens l.conds [] = kept_agrees ts (by_name us) a l.gens l.conds [] h.0.tables h.0.conds in
      let numbered : LetGives cols ts l q.0 = subst (λ (z : List Env). (ns : List ℕ) × Deals (map (key_of cols l.gens) z) ns × Reordered (zip ns z) q.0) same q.1 in
      let list : List Row = named (item_names (let_items keys ps)) g.0 in
      let listed : list ≡ map (let_row ps) q.0 = ap (λ (z : List Label). named z g.0) (names_are keys ps) ∙ ap (named (let_names ps)) q.2 ∙ map_of_map (λ r. zip (let_names ps) r) (let_cells ps) q.0 in
      let more : NamedTables = (with_name k, list) ∷ us in
      let r = withs_give lets (suc k) more main ans (λ t n. ap (λ c. cond c list (rows_named t us)) (not_with k t n) ∙ a t n) h.1 g.2 in
      let own : rows_named (with_name k) more ≡ map (let_row ps) q.0 = ap (λ c. cond c list (rows_named (with_name k) us)) (withs_apart k k ∙ nat_same k k refl) ∙ listed in
      record {
        lists = q.0 ∷ r.lists;
        give = (numbered, r.give);
        tables = r.tables;
        agree = r.agree;
        held = (r.before k (omega arith) ∙ own, r.held);
        before = λ m u. r.before m (omega (arith, u)) ∙ ap (λ c. cond c list (rows_named (with_name m) us)) (withs_apart m k ∙ nat_differ m k (λ e. let f : m ≡ k = e in omega (arith, f, u)));
        gives = r.gives;
      }

  held_at : (us : NamedTables) (k : ℕ) (lets : List LetTree) (lists : List (List LetRow)) (j i : ℕ) → Held us k lets lists → j < length lets → k + j ≡ i → rows_named (with_name i) us ≡ map (let_row (columns_in cols (get_or lets j no_let).gens)) (get_or lists j [])
  held_at us k [] lists j i h b e = absurd (omega arith)
  held_at us k (l ∷ lets) [] j i h b e = absurd h
  held_at us k (l ∷ lets) (list ∷ lists) zero i h b e = ap (λ z. rows_named (with_name z) us) (let f : i ≡ k = omega (arith, e) in f) ∙ h.0
  held_at us k (l ∷ lets) (list ∷ lists) (suc j) i h b e = held_at us (suc k) lets lists j i h.1 (omega arith) (omega (arith, e))

  give_at : (lets : List LetTree) (lists : List (List LetRow)) (j : ℕ) → LetsGive lets lists → j < length lets → LetGives cols ts (get_or lets j no_let) (get_or lists j [])
  give_at [] lists j h b = absurd (omega arith)
  give_at (l ∷ lets) [] j h b = absurd h
  give_at (l ∷ lets) (list ∷ lists) zero h b = h.0
  give_at (l ∷ lets) (list ∷ lists) (suc j) h b = give_at lets lists j h.1 (omega arith)

  each_zip : {B : Type 0} (P : B → Type 0) (ms : List ℕ) (xs : List B) → Each P xs → Each (λ (p : ℕ × B). P p.1) (zip ms xs)
  each_zip P [] xs e = tt
  each_zip P (n ∷ ms) [] e = tt
  each_zip P (n ∷ ms) (x ∷ xs) e = (e.0, each_zip P ms xs e.1)

  module _ (uniform : Uniform cols ts) where
    -- the rows of a let show their spots
    list_good : (l : LetTree) (list : List LetRow) → LetGives cols ts l list → Each (ShowsSpot (columns_in cols l.gens) (in_gens l.gens)) list
    list_good l list h =
        let es = kept ts l.gens l.conds [] in
        let rows : Each (λ (x : LetRow). RowsOf cols l.gens x.1) list = each_reordered (λ (x : LetRow). RowsOf cols l.gens x.1) (zip h.0 es) list h.2 (each_zip (RowsOf cols l.gens) h.0 es (kept_rows cols ts uniform l.gens l.conds)) in
        each_map (λ (x : LetRow). RowsOf cols l.gens x.1) (ShowsSpot (columns_in cols l.gens) (in_gens l.gens)) (λ x r. record { outer_is = λ g. rows_have cols l.gens x.1 r g; covered = λ g c o k. rows_cover cols l.gens x.1 r g c k }) list rows

    module _ (us : NamedTables) (agree : Agree ts (by_name us)) where
      -- what holds over the tables with the lists beside them holds over the tables
      part_agrees : (d : Side) (flats : List FlatRow) → TablesDotless d.0.gens → DotlessAll d.0.conds → Each Dotless (shape_leaves d.0.shape) → PartGives cols (by_name us) d flats → PartGives cols ts d flats
      part_agrees d flats t c l g =
          let same = combos_agree ts (by_name us) agree d.0 d.1 t c in
          (g.0, g.1, subst (λ (z : List LetRow). Each (λ n. Deals (map (λ p. key_of cols (d.0.outer_gens ++ d.0.gens) p.1) z) n) g.0) same g.2, g.3 ∙ ap (λ (z : List LetRow). part_rows (by_name us) d.0 z g.0) same ∙ rows_agree ts (by_name us) agree d.0 (combos ts d.1 d.0) g.0 l)

      module _ (a : TypeTree) (lets : List LetTree) (lists : List (List LetRow)) (give : LetsGive lets lists) (held : Held us 1 lets lists) where
        one_gives : (p : PartTree) (from : ℕ) → p.from ≡ from → PartGood a lets p → (rows : List (List Cell)) → ItemsGive us (kept_combinations us (after_let from (map source_of p.gens)) (conds_keep (in_gens (let_of lets p.from).gens) p.conds)) (answer_items 0 (strand_values cols (around_number from) (strand_of lets p))) rows → (flats : List FlatRow) × PartGives cols (by_name us) (strand_of lets p, let_rows lists from) flats × (rows ≡ map (row_cells a) flats)
        one_gives p zero e good rows g =
            top_gives cols us (strand_of lets p) a rows (ap (λ k. (let_of lets k).gens) e) good.inner_conds good.inner_leaves good.fits g
        one_gives p (suc k) e good rows g =
            let inside : k < length lets = omega (arith, e, good.known) in
            let is_let : let_of lets p.from ≡ get_or lets k no_let = ap (let_of lets) e in
            let at : rows_named (with_name (suc k)) us ≡ map (let_row (columns_in cols (let_of lets p.from).gens)) (get_or lists k []) = held_at us 1 lets lists k (suc k) held inside (omega arith) ∙ ap (λ (z : LetTree). map (let_row (columns_in cols z.gens)) (get_or lists k [])) (sym is_let) in
            let shows : Each (ShowsSpot (columns_in cols (let_of lets p.from).gens) (in_gens (let_of lets p.from).gens)) (get_or lists k []) = subst (λ (z : LetTree). Each (ShowsSpot (columns_in cols z.gens) (in_gens z.gens)) (get_or lists k [])) (sym is_let) (list_good (get_or lets k no_let) (get_or lists k []) (give_at lets lists k give inside)) in
            part_gives cols us (strand_of lets p) a k (get_or lists k []) rows at good.inner_conds good.inner_leaves shows good.fits g

        -- the SELECTs of the parts
        parts_give : (parts : List PartTree) → Each (PartGood a lets) parts → (rows : List (List Cell)) → SelectsGive us (parts_query cols lets parts) rows → (flats : List FlatRow) × PartsGive cols ts (map (λ p. (strand_of lets p, let_rows lists p.from)) parts) flats × (rows ≡ map (row_cells a) flats)
        parts_give [] good rows g = ([], refl, g)
        parts_give (p ∷ parts) good rows g =
            let one = one_gives p p.from refl good.0 g.0 g.2 in
            let rest = parts_give parts good.1 g.1 g.3 in
            let here = part_agrees (strand_of lets p, let_rows lists p.from) one.0 good.0.tables good.0.dotless_conds good.0.dotless_leaves one.1 in
            (one.0 ++ rest.0, (one.0, rest.0, here, rest.1, refl), g.4 ∙ ap₂ (λ (x y : List (List Cell)). x ++ y) one.2 rest.2 ∙ sym (map-append (row_cells a) one.0 rest.0))

        main_gives : (columns : List ColumnType) (parts : List PartTree) → Each (PartGood a lets) parts → (rows : List (List Cell)) → SelectsGive us (main_query cols columns lets parts) rows → (flats : List FlatRow) × PartsGive cols ts (map (λ p. (strand_of lets p, let_rows lists p.from)) parts) flats × (rows ≡ map (row_cells a) flats)
        main_gives columns [] good rows g =
            ([], refl, g.4 ∙ ap₂ (λ (x y : List (List Cell)). x ++ y) (none_give us (answer_items 0 (map zero_value columns)) g.0 g.2) g.3)
        main_gives columns (p ∷ parts) good rows g = parts_give (p ∷ parts) good rows g

    -- what SQL allows to the tree over named tables that agree
    pub form_gives : (columns : List ColumnType) (f : LetFormTree) → FormGood f → (us : NamedTables) → Agree ts (by_name us) → (ans : List (List Cell)) → WithsAllow us (emitted cols columns f).withs (emitted cols columns f).main ans → (rows : List FlatRow) × FormGives cols ts f rows × (ans ≡ map (row_cells f.element) rows)
    form_gives columns f good us agree ans g =
        let w = withs_give f.lets 1 us (main_query cols columns f.lets f.parts) ans agree good.lets g in
        let all = w.gives in
        let m = main_gives w.tables w.agree f.element f.lets w.lists w.give w.held columns f.parts good.parts all.0 all.1 in
        let z = reordered_from_map (row_cells f.element) ans m.0 (subst (λ (l : List (List Cell)). Reordered ans l) m.2 all.2) in
        (z.0, record { lists = w.lists; numbered_once = w.give; all = m.0; parts = m.1; any_order = reordered_sym m.0 z.0 z.1 }, z.2)
