-- The SELECT of a part gives the rows that the let form allows.
use Rattle.std.proofs.Common.{◌≡◌, ℕ, zero, suc, List, [], ◌∷◌, ◌++◌, map, refl, sym, ap, ap₂, ◌∙◌, subst, Bool, length, pos, append-nil, arith, filter, cond}
use Rattle.std.specs.List.{AllByRecursion as Each}
use Rattle.nq_model.specs.NamedRows.{Label, NamedTables, cell_under, rows_named}
use Rattle.nq_model.specs.Types.{TypeTree}
use Rattle.nq_model.specs.declared.table.Cell.{Cell}
use Rattle.nq_model.proofs.Numberings.{length_map, each_map}
use Rattle.nq_ir.specs.Trees.{BaseTree}
use Rattle.nq_ir.specs.Meanings.{Env, choices, all_true, kept, value}
use Rattle.nq_ir.specs.Spots.{StrandTree, shape_leaves, shape_slots}
use Rattle.nq_ir.specs.Lets.{FlatRow, LetRow, Deals, PartGives, combos, part_rows, tail_of, head_of, columns_in, key_of as keys_in}
use Rattle.nq_ir.proofs.Nested.{map_of_map}
use Rattle.nq_ir.proofs.TellsApart.{cells_of}
use Rattle.shred_types.specs.Columns.{laid, row_cells, number_cell}
use Rattle.sql_profile.specs.AllowedAnswers.{Scope, row_at, expr_value, key_of, ItemsGive, beside, kept_combinations}
use Rattle.sql_profile.specs.Trees.{ExprTree, ValueTree}
use Rattle.flatten.specs.Names.{let_alias, number_name, with_name}
use Rattle.flatten.specs.Exprs.{column_expr, source_of, base_expr, conds_keep, order_keys}
use Rattle.flatten.specs.Emitted.{in_gens, none_outer, shape_values, strand_values, answer_items, around_number, after_let}
use Rattle.flatten.proofs.Apart.{own_let}
use Rattle.flatten.proofs.Exprs.{by_name, scoped, row_shown, expr_is, Inner, InnerAll}
use Rattle.flatten.proofs.LetQuery.{kept_scoped}
use Rattle.flatten.proofs.PartItems.{FitsShape, ValuesGive, nameless, in_front, element_gives, zip_rows, front_laid}
use Rattle.flatten.proofs.PartScope.{let_row, number_named, ShowsSpot, Pair, part_scope, shows_part, pairs, pairs_combos, kept_part}

module _ (cols : Label → List Label) (ts : NamedTables) (d : StrandTree) (a : TypeTree) where
  abbrev outer : ℕ → Bool
  outer = in_gens d.outer_gens

  abbrev all_columns : List (ℕ × Label)
  all_columns = columns_in cols (d.outer_gens ++ d.gens)

  -- the SELECT's combinations, each a scope that shows the rows of a combination of the part
  module _ {X : Type 0} (scope_of : X → Scope) (combo_of : X → LetRow) where
    -- the scope shows each base term's value
    abbrev ShowsValues : X → Type 0
    ShowsValues y = (b : BaseTree) → Inner outer b → expr_value ts (base_expr outer b) (scope_of y) ≡ value (by_name ts) b (combo_of y).1

    keys_are : (qs : List (ℕ × Label)) (y : X) → ShowsValues y → key_of ts (order_keys outer qs) (scope_of y) ≡ cells_of qs (combo_of y).1
    keys_are [] y s = refl
    keys_are (q ∷ qs) y s = ap₂ (λ c (l : List Cell). c ∷ l) (s (BaseTree.column q.0 q.1) tt) (keys_are qs y s)

    all_keys : (qs : List (ℕ × Label)) (l : List X) → Each ShowsValues l → map (λ c. key_of ts (order_keys outer qs) c) (map scope_of l) ≡ map (λ p. cells_of qs p.1) (map combo_of l)
    all_keys qs [] s = refl
    all_keys qs (y ∷ l) s = ap₂ (λ c (z : List (List Cell)). c ∷ z) (keys_are qs y s.0) (all_keys qs l s.1)

    -- tag and number of the spot around before the laid out elements
    whole_rows : (l : List X) (ms : List (List ℕ)) → beside (map (λ c. number_cell d.parent) (map scope_of l)) (beside (map (λ y. number_cell (combo_of y).0) l) (zip_rows (map (laid a 0 0) (part_rows (by_name ts) d (map combo_of l) ms)) (map (λ c. []) (map scope_of l)))) ≡ map (row_cells a) (part_rows (by_name ts) d (map combo_of l) ms)
    whole_rows [] ms = refl
    whole_rows (y ∷ l) ms = ap₂ (λ (x : List Cell) (z : List (List Cell)). (number_cell d.parent ∷ number_cell (combo_of y).0 ∷ x) ∷ z) (append-nil (laid a 0 0 (record { outer = (d.parent, (combo_of y).0); leaf_cells = map (λ b. value (by_name ts) b (combo_of y).1) (shape_leaves d.shape); inners = map (λ m. (d.tag, head_of m)) ms }))) (whole_rows l (map tail_of ms))

    shown_all : (l : List X) → Each ShowsValues l → (b : BaseTree) → Inner outer b → map (λ z. expr_value ts (base_expr outer b) z) (map scope_of l) ≡ map (λ p. value (by_name ts) b p.1) (map combo_of l)
    shown_all [] s b i = refl
    shown_all (y ∷ l) s b i = ap₂ (λ (x : Cell) (z : List Cell). x ∷ z) (s.0 b i) (shown_all l s.1 b i)

    over : (n : ExprTree) (l : List X) (rows : List (List Cell)) → Each ShowsValues l → map (λ c. expr_value ts n c) (map scope_of l) ≡ map (λ y. number_cell (combo_of y).0) l → Each (Inner outer) (shape_leaves d.shape) → FitsShape d.shape a → ItemsGive ts (map scope_of l) (answer_items 0 (strand_values cols n d)) rows → (ms : List (List ℕ)) × (length ms ≡ shape_slots d.shape) × Each (λ m. Deals (map (λ p. keys_in cols (d.outer_gens ++ d.gens) p.1) (map combo_of l)) m) ms × (rows ≡ map (row_cells a) (part_rows (by_name ts) d (map combo_of l) ms))
    over n l rows good numbers il fit g =
        let sc = map scope_of l in
        let keys = order_keys outer all_columns in
        let k : List (List ℕ) → List (List Cell) = λ z. map (λ c. []) sc in
        let one = nameless ts sc 0 (strand_values cols n d) rows g in
        let two = one.3 in
        let own : ValuesGive ts sc (shape_values outer d.tag keys d.shape ++ []) two.1 = subst (λ (z : List ValueTree). ValuesGive ts sc z two.1) (sym (append-nil (shape_values outer d.tag keys d.shape))) two.3 in
        let r = element_gives outer d.tag keys ts sc d.shape [] 0 k (λ rows' e. ([], tt, refl, e)) two.1 own in
        let ms = r.0 in
        let many : length ms ≡ shape_slots d.shape = omega (arith, r.2) in
        let cs = map combo_of l in
        let count : length sc ≡ length cs = length_map scope_of l ∙ sym (length_map combo_of l) in
        let long : Each (λ m. length m ≡ length cs) ms = each_map (λ m. Deals (map (λ c. key_of ts keys c) sc) m) (λ m. length m ≡ length cs) (λ m q. q.numbers.as_many ∙ length_map (λ c. key_of ts keys c) sc ∙ count) ms r.1 in
        let values = each_map (Inner outer) (λ b. map (λ z. expr_value ts (base_expr outer b) z) sc ≡ map (λ p. value (by_name ts) b p.1) cs) (shown_all l good) (shape_leaves d.shape) il in
        let laid_out : in_front outer d.tag keys ts sc d.shape (ms ++ []) k ≡ zip_rows (map (laid a 0 0) (part_rows (by_name ts) d cs ms)) (k []) = front_laid outer ts (by_name ts) d keys sc cs ms (record { as_many = count; values = values; long = long }) d.shape a fit 0 0 [] [] [] ms [] k (sym (append-nil (shape_leaves d.shape))) refl (sym (append-nil ms)) refl many (length_map (λ c. []) sc ∙ count) in
        let elements : two.1 ≡ zip_rows (map (laid a 0 0) (part_rows (by_name ts) d cs ms)) (map (λ c. []) sc) = r.3 ∙ ap (λ (z : List (List ℕ)). in_front outer d.tag keys ts sc d.shape z k) (sym (append-nil ms)) ∙ laid_out in
        (ms, many, subst (λ (z : List (List Cell)). Each (λ m. Deals z m) ms) (all_keys all_columns l good) r.1, one.4 ∙ ap₂ (λ (x : List Cell) (y : List (List Cell)). beside x y) one.2 (two.4 ∙ ap₂ (λ (x : List Cell) (y : List (List Cell)). beside x y) (two.2 ∙ numbers) elements) ∙ whole_rows l ms)

  each_join : {B : Type 0} (P : B → Type 0) (xs ys : List B) → Each P xs → Each P ys → Each P (xs ++ ys)
  each_join P [] ys g h = h
  each_join P (x ∷ xs) ys g h = (g.0, each_join P xs ys g.1 h)

  each_all : {B : Type 0} (P : B → Type 0) → ((x : B) → P x) → (xs : List B) → Each P xs
  each_all P h [] = tt
  each_all P h (x ∷ xs) = (h x, each_all P h xs)

  abbrev let_columns : List (ℕ × Label)
  let_columns = columns_in cols d.outer_gens

  pairs_good : (l : List LetRow) → Each (ShowsSpot let_columns outer) l → Each (λ (y : Pair). ShowsSpot let_columns outer y.0) (pairs let_columns ts outer l d.gens d.conds)
  pairs_good [] h = tt
  pairs_good (x ∷ l) h = each_join (λ (y : Pair). ShowsSpot let_columns outer y.0) (map (λ f. (x, f)) (filter (λ f. all_true (by_name ts) d.conds (x.1 ++ f)) (choices (by_name ts) d.gens))) (pairs let_columns ts outer l d.gens d.conds) (own (filter (λ f. all_true (by_name ts) d.conds (x.1 ++ f)) (choices (by_name ts) d.gens))) (pairs_good l h.1)
    where
      own : (fs : List Env) → Each (λ (y : Pair). ShowsSpot let_columns outer y.0) (map (λ f. (x, f)) fs)
      own [] = tt
      own (f ∷ fs) = (h.0, own fs)

  numbers_shown : (l : List Pair) → map (λ c. expr_value ts (ExprTree.column let_alias number_name) c) (map (part_scope let_columns ts outer) l) ≡ map (λ (y : Pair). number_cell y.0.0) l
  numbers_shown [] = refl
  numbers_shown (y ∷ l) = ap₂ (λ (x : Cell) (z : List Cell). x ∷ z) (ap (λ k. cell_under number_name (cond k (let_row let_columns y.0) (row_at let_alias (scoped y.1)))) own_let ∙ number_named let_columns y.0) (numbers_shown l)

  -- below a parent whose WITH query has this list
  pub part_gives : (k : ℕ) (list : List LetRow) (rows : List (List Cell)) → rows_named (with_name (suc k)) ts ≡ map (let_row let_columns) list → InnerAll outer d.conds → Each (Inner outer) (shape_leaves d.shape) → Each (ShowsSpot let_columns outer) list → FitsShape d.shape a → ItemsGive ts (kept_combinations ts (after_let (suc k) (map source_of d.gens)) (conds_keep outer d.conds)) (answer_items 0 (strand_values cols (around_number (suc k)) d)) rows → (flats : List FlatRow) × PartGives cols (by_name ts) (d, list) flats × (rows ≡ map (row_cells a) flats)
  part_gives k list rows at ic il good fit g =
      let prs = pairs let_columns ts outer list d.gens d.conds in
      let combo : Pair → LetRow = λ y. (y.0.0, y.0.1 ++ y.1) in
      let n = ExprTree.column let_alias number_name in
      let kept_is = kept_part let_columns ts outer (with_name (suc k)) d.gens d.conds list at ic good in
      let combos_are = pairs_combos let_columns ts outer d list in
      let shown = each_map (λ (y : Pair). ShowsSpot let_columns outer y.0) (ShowsValues (part_scope let_columns ts outer) combo) (λ y h b i. expr_is ts outer b (part_scope let_columns ts outer y) (y.0.1 ++ y.1) i (λ h2 m. shows_part let_columns ts outer y.0 y.1 h h2 m)) prs (pairs_good list good) in
      let r = over (part_scope let_columns ts outer) combo n prs rows shown (numbers_shown prs) il fit (subst (λ (z : List Scope). ItemsGive ts z (answer_items 0 (strand_values cols n d)) rows) kept_is g) in
      (part_rows (by_name ts) d (combos (by_name ts) list d) r.0, (r.0, r.1, subst (λ (z : List LetRow). Each (λ m. Deals (map (λ p. keys_in cols (d.outer_gens ++ d.gens) p.1) z) m) r.0) (sym combos_are) r.2, refl), r.3 ∙ ap (λ (z : List LetRow). map (row_cells a) (part_rows (by_name ts) d z r.0)) (sym combos_are))

  -- at the empty path
  pub top_gives : (rows : List (List Cell)) → d.outer_gens ≡ [] → InnerAll outer d.conds → Each (Inner outer) (shape_leaves d.shape) → FitsShape d.shape a → ItemsGive ts (kept_combinations ts (after_let zero (map source_of d.gens)) (conds_keep outer d.conds)) (answer_items 0 (strand_values cols (around_number zero) d)) rows → (flats : List FlatRow) × PartGives cols (by_name ts) (d, (1, []) ∷ []) flats × (rows ≡ map (row_cells a) flats)
  top_gives rows none ic il fit g =
      let es = kept (by_name ts) d.gens d.conds [] in
      let n = ExprTree.int (pos 1) in
      let no_outer : outer ≡ none_outer = ap in_gens none in
      let kept_is = ap (λ o. kept_combinations ts (map source_of d.gens) (conds_keep o d.conds)) no_outer ∙ kept_scoped ts d.gens d.conds (subst (λ o. InnerAll o d.conds) no_outer ic) in
      let combo : Env → LetRow = λ e. (1, e) in
      let shows : (e : Env) → ShowsValues scoped combo e = λ e b i. expr_is ts outer b (scoped e) e i (λ h m. ap (λ o. expr_value ts (column_expr o h m) (scoped e)) no_outer ∙ ap (cell_under m) (row_shown h e)) in
      let ones : (l : List Env) → map (λ c. expr_value ts n c) (map scoped l) ≡ map (λ (e : Env). number_cell 1) l = λ l. map_of_map (λ c. number_cell 1) scoped l in
      let r = over scoped combo n es rows (each_all (ShowsValues scoped combo) shows es) (ones es) il fit (subst (λ (z : List Scope). ItemsGive ts z (answer_items 0 (strand_values cols n d)) rows) kept_is g) in
      let combos_are : combos (by_name ts) ((1, []) ∷ []) d ≡ map combo es = append-nil (map combo es) in
      (part_rows (by_name ts) d (combos (by_name ts) ((1, []) ∷ []) d) r.0, (r.0, r.1, subst (λ (z : List LetRow). Each (λ m. Deals (map (λ p. keys_in cols (d.outer_gens ++ d.gens) p.1) z) m) r.0) (sym combos_are) r.2, refl), r.3 ∙ ap (λ (z : List LetRow). map (row_cells a) (part_rows (by_name ts) d z r.0)) (sym combos_are))
