-- A WITH query gives the kept choices of its let with their numbers, in any order.
use Rattle.std.proofs.Common.{◌≡◌, ℕ, ◌<◌, ◌^◌, List, [], ◌∷◌, ◌++◌, map, refl, sym, ap, ap₂, ◌∙◌, subst, Bool, true, false, cond, filter, zip, pos, append-nil, length}
use Rattle.nq_model.specs.Bags.{Pick, here, there, Reordered}
use Rattle.nq_model.specs.NamedRows.{Label, NamedTables, cell_under}
use Rattle.nq_model.specs.Numberings.{Numbers, key_lt}
use Rattle.nq_model.specs.declared.table.Cell.{Cell}
use Rattle.nq_model.specs.declared.table.Cell.TheVariants as cell
use Rattle.nq_model.proofs.Bags.{reordered_sym}
use Rattle.nq_model.proofs.Numberings.{length_map}
use Rattle.nq_ir.specs.declared.base.Gen.{Gen}
use Rattle.nq_ir.specs.Trees.{Conds}
use Rattle.nq_ir.specs.Meanings.{Env, row_of, choices, all_true, kept}
use Rattle.nq_ir.specs.Lets.{LetTree, LetRow, LetGives, Deals, columns_in}
use Rattle.nq_ir.proofs.Nested.{map_id}
use Rattle.nq_ir.proofs.TellsApart.{cells_of}
use Rattle.sql_profile.specs.AllowedAnswers.{Scope, expr_value, key_of, kept_combinations, keeps, ItemsGive, QueryGives, beside}
use Rattle.sql_profile.specs.Trees.{no_select, then_select}
use Rattle.flatten.specs.Exprs.{column_expr, source_of, conds_keep, order_keys}
use Rattle.flatten.specs.Emitted.{none_outer, let_items, let_select}
use Rattle.flatten.proofs.Exprs.{by_name, scoped, row_shown, combinations_are, condition_is, InnerAll}

pub unpick_map : {A B : Type 0} (g : A → B) {z : B} {rest : List B} (ys : List A) → Pick z (map g ys) rest → (y : A) × (left : List A) × Pick y ys left × (z ≡ g y) × (rest ≡ map g left)
unpick_map g ys p = go g ys p refl
  where
    go : {A B : Type 0} (g : A → B) {z : B} {zs rest : List B} (ys : List A) → Pick z zs rest → zs ≡ map g ys → (y : A) × (left : List A) × Pick y ys left × (z ≡ g y) × (rest ≡ map g left)
    go g [] here e = absurd (cc)
    go {A = A} {B = B} g {z = z} {rest = rest} (y ∷ ys) here e =
        let a : z ≡ g y = cc in
        let b : rest ≡ map g ys = cc in
        (y, ys, here, a, b)
    go g [] (there p) e = absurd (cc)
    go g (y ∷ ys) (there {z = w} {ys = zs} {rest = left} p) e =
        let a : w ≡ g y = cc in
        let b : zs ≡ map g ys = cc in
        let r = go g ys p b in
        (r.0, y ∷ r.1, there r.2, r.3, ap₂ (λ x (l : List _). x ∷ l) a r.4)

-- an arrangement of mapped elements is the map of an arrangement
pub reordered_from_map : {A B : Type 0} (f : A → B) (xs : List B) (ys : List A) → Reordered xs (map f ys) → (zs : List A) × Reordered ys zs × (xs ≡ map f zs)
reordered_from_map f [] [] m = ([], refl, refl)
reordered_from_map f [] (y ∷ ys) m = absurd (cc)
reordered_from_map f (x ∷ xs) ys m =
    let u = unpick_map f ys m.2 in
    let r = reordered_from_map f xs u.1 (subst (λ (l : List _). Reordered xs l) u.4 m.4) in
    let back : Reordered (u.0 ∷ r.0) ys = (u.0, u.1, u.2, refl, reordered_sym u.1 r.0 r.1) in
    (u.0 ∷ r.0, reordered_sym (u.0 ∷ r.0) ys back, ap₂ (λ z (l : List _). z ∷ l) (m.3 ∙ u.3) r.2)

-- a row of a WITH query
abbrev pub let_cells : List (ℕ × Label) → LetRow → List Cell
let_cells ps x = cells_of ps x.1 ++ cell.Int (pos x.0) ∷ []

filter_scoped : (p : Scope → Bool) (q : Env → Bool) → ((e : Env) → p (scoped e) ≡ q e) → (es : List Env) → filter p (map scoped es) ≡ map scoped (filter q es)
filter_scoped p q h [] = refl
filter_scoped p q h (e ∷ es) = ap (λ b. cond b (scoped e ∷ filter p (map scoped es)) (filter p (map scoped es))) (h e) ∙ go (q e) (filter_scoped p q h es)
  where
    go : (b : Bool) → filter p (map scoped es) ≡ map scoped (filter q es) → cond b (scoped e ∷ filter p (map scoped es)) (filter p (map scoped es)) ≡ map scoped (cond b (e ∷ filter q es) (filter q es))
    go true i = ap (λ (l : List Scope). scoped e ∷ l) i
    go false i = i

module _ (ts : NamedTables) where
  keys_shown : (ps : List (ℕ × Label)) (e : Env) → key_of ts (order_keys none_outer ps) (scoped e) ≡ cells_of ps e
  keys_shown [] e = refl
  keys_shown (p ∷ ps) e = ap₂ (λ c (l : List Cell). c ∷ l) (ap (cell_under p.1) (row_shown p.0 e)) (keys_shown ps e)

  all_keys : (ps : List (ℕ × Label)) (es : List Env) → map (λ c. key_of ts (order_keys none_outer ps) c) (map scoped es) ≡ map (cells_of ps) es
  all_keys ps [] = refl
  all_keys ps (e ∷ es) = ap₂ (λ c (l : List (List Cell)). c ∷ l) (keys_shown ps e) (all_keys ps es)

  column_shown : (p : ℕ × Label) (es : List Env) → map (λ c. expr_value ts (column_expr none_outer p.0 p.1) c) (map scoped es) ≡ map (λ e. cell_under p.1 (row_of p.0 e)) es
  column_shown p [] = refl
  column_shown p (e ∷ es) = ap₂ (λ c (l : List Cell). c ∷ l) (ap (cell_under p.1) (row_shown p.0 e)) (column_shown p es)

  last_beside : (m : List ℕ) (es : List Env) → beside (map (λ n. cell.Int (pos n)) m) (map (λ c. []) (map scoped es)) ≡ map (let_cells []) (zip m es)
  last_beside [] es = refl
  last_beside (n ∷ m) [] = refl
  last_beside (n ∷ m) (e ∷ es) = ap (λ (l : List (List Cell)). (cell.Int (pos n) ∷ []) ∷ l) (last_beside m es)

  next_beside : (p : ℕ × Label) (ps : List (ℕ × Label)) (m : List ℕ) (es : List Env) → beside (map (λ e. cell_under p.1 (row_of p.0 e)) es) (map (let_cells ps) (zip m es)) ≡ map (let_cells (p ∷ ps)) (zip m es)
  next_beside p ps [] [] = refl
  next_beside p ps [] (e ∷ es) = refl
  next_beside p ps (n ∷ m) [] = refl
  next_beside p ps (n ∷ m) (e ∷ es) = ap (λ (l : List (List Cell)). let_cells (p ∷ ps) (n, e) ∷ l) (next_beside p ps m es)

  items_give : (all ps : List (ℕ × Label)) (es : List Env) (rows : List (List Cell)) → ItemsGive ts (map scoped es) (let_items (order_keys none_outer all) ps) rows → (m : List ℕ) × Deals (map (cells_of all) es) m × (rows ≡ map (let_cells ps) (zip m es))
  items_give all [] es rows h =
      let i = h.2 in
      let few : length (map (cells_of all) es) < 2 ^ 63 = subst (λ k. k < 2 ^ 63) (length_map scoped es ∙ sym (length_map (cells_of all) es)) i.2 in
      (i.0, record { numbers = subst (λ (l : List (List Cell)). Numbers key_lt l i.0) (all_keys all es) i.1; fits = few }, h.4 ∙ ap₂ (λ (a : List Cell) (b : List (List Cell)). beside a b) i.3 h.3 ∙ last_beside i.0 es)
  items_give all (p ∷ ps) es rows h =
      let r = items_give all ps es h.1 h.3 in
      (r.0, r.1, h.4 ∙ ap₂ (λ (a : List Cell) (b : List (List Cell)). beside a b) (h.2 ∙ column_shown p es) r.2 ∙ next_beside p ps r.0 es)

  pub kept_scoped : (gens : List Gen) (conds : Conds) → InnerAll none_outer conds → kept_combinations ts (map source_of gens) (conds_keep none_outer conds) ≡ map scoped (kept (by_name ts) gens conds [])
  kept_scoped gens conds h =
      ap (filter (λ c. keeps ts (conds_keep none_outer conds) c)) (combinations_are ts none_outer gens)
      ∙ filter_scoped (λ c. keeps ts (conds_keep none_outer conds) c) (λ e. all_true (by_name ts) conds e) (λ e. condition_is ts none_outer conds (scoped e) e h (λ g l. ap (cell_under l) (row_shown g e))) (choices (by_name ts) gens)
      ∙ ap (λ (l : List Env). map scoped (filter (λ e. all_true (by_name ts) conds e) l)) (sym (map_id (choices (by_name ts) gens)))

  pub let_query_gives : (cols : Label → List Label) (l : LetTree) (rows : List (List Cell)) → InnerAll none_outer l.conds → QueryGives ts (then_select (let_select cols l) no_select) rows → (lets : List LetRow) × LetGives cols (by_name ts) l lets × (rows ≡ map (let_cells (columns_in cols l.gens)) lets)
  let_query_gives cols l rows h g =
      let ps = columns_in cols l.gens in
      let es = kept (by_name ts) l.gens l.conds [] in
      let s = g.1 in
      let items : ItemsGive ts (map scoped es) (let_items (order_keys none_outer ps) ps) s.0 = subst (λ (l : List Scope). ItemsGive ts l (let_items (order_keys none_outer ps) ps) s.0) (kept_scoped l.gens l.conds h) s.2 in
      let r = items_give ps ps es s.0 items in
      let whole : g.0 ≡ map (let_cells ps) (zip r.0 es) = s.4 ∙ ap₂ (λ (a b : List (List Cell)). a ++ b) r.2 s.3 ∙ append-nil (map (let_cells ps) (zip r.0 es)) in
      let z = reordered_from_map (let_cells ps) rows (zip r.0 es) (subst (λ (l : List (List Cell)). Reordered rows l) whole g.2) in
      (z.0, (r.0, r.1, z.1), z.2)
