-- The combinations of a part are the rows of its let with its own choices.
use Rattle.std.proofs.Common.{◌≡◌, ℕ, List, [], ◌∷◌, ◌++◌, map, refl, sym, ap, ap₂, ◌∙◌, Bool, true, false, cond, filter, flat_map, nat_eq, zip, pos, ◌&&◌}
use Rattle.std.specs.List.{AllByRecursion as Each}
use Rattle.std.specs.Str.{bytes_eq}
use Rattle.std.proofs.lemmas.Slice.Eq.{bytes_eq-Decides}
use Rattle.std.proofs.lemmas.Bool.Decides.{Decides-eqb}
use Rattle.std.proofs.lemmas.List.{map-append}
use Rattle.std.proofs.lemmas.List.Elements.{filter-append}
use Rattle.nq_model.specs.NamedRows.{Label, Row, NamedTables, cell_under, no_cell, rows_named}
use Rattle.nq_model.specs.declared.table.Cell.TheVariants as cell
use Rattle.nq_ir.specs.declared.base.Gen.{Gen}
use Rattle.nq_ir.specs.Trees.{Conds}
use Rattle.nq_ir.specs.Meanings.{Env, row_of, choices, all_true}
use Rattle.nq_ir.specs.Spots.{StrandTree}
use Rattle.nq_ir.specs.Lets.{LetRow, combos}
use Rattle.nq_ir.proofs.Nested.{flat_of_map}
use Rattle.sql_profile.specs.AllowedAnswers.{Scope, row_at, combinations, expr_value, kept_combinations, keeps}
use Rattle.sql_profile.specs.Trees.{ExprTree}
use Rattle.flatten.specs.Names.{alias, let_alias, outer_column, number_name}
use Rattle.flatten.specs.Exprs.{column_expr, source_of, conds_keep}
use Rattle.flatten.proofs.Apart.{let_not, own_let, columns_apart, not_number, number_not, own_number, both_true}
use Rattle.flatten.proofs.Exprs.{by_name, scoped, row_shown, combinations_are, condition_is, InnerAll}
use Rattle.flatten.proofs.LetQuery.{let_cells}

-- whether a generator is in scope
abbrev pub has : ℕ → Env → Bool
has g [] = false
has g (b ∷ e) = cond (nat_eq g b.0) true (has g e)

row_append : (g : ℕ) (e f : Env) → row_of g (e ++ f) ≡ cond (has g e) (row_of g e) (row_of g f)
row_append g [] f = refl
row_append g (b ∷ e) f = ap (λ z. cond (nat_eq g b.0) b.1 z) (row_append g e f) ∙ go (nat_eq g b.0)
  where
    go : (k : Bool) → cond k b.1 (cond (has g e) (row_of g e) (row_of g f)) ≡ cond (cond k true (has g e)) (cond k b.1 (row_of g e)) (row_of g f)
    go true = refl
    go false = refl

abbrev pub listed : ℕ → Label → List (ℕ × Label) → Bool
listed g l [] = false
listed g l (p ∷ ps) = cond (nat_eq g p.0 && bytes_eq l p.1) true (listed g l ps)

filter_flat : {A B : Type 0} (p : B → Bool) (g : A → List B) (xs : List A) → filter p (flat_map g xs) ≡ flat_map (λ x. filter p (g x)) xs
filter_flat p g [] = refl
filter_flat p g (x ∷ xs) = filter-append p (g x) (flat_map g xs) ∙ ap (λ (l : List _). filter p (g x) ++ l) (filter_flat p g xs)

-- the names of the columns of a WITH query
abbrev pub let_names : List (ℕ × Label) → List Label
let_names ps = map (λ p. outer_column p.0 p.1) ps ++ number_name ∷ []

-- the row of a let under the names of its columns
abbrev pub let_row : List (ℕ × Label) → LetRow → Row
let_row ps x = zip (let_names ps) (let_cells ps x)

column_named : (qs : List (ℕ × Label)) (x : LetRow) (g : ℕ) (l : Label) → cell_under (outer_column g l) (let_row qs x) ≡ cond (listed g l qs) (cell_under l (row_of g x.1)) no_cell
column_named [] x g l = ap (λ k. cond k (cell.Int (pos x.0)) no_cell) (not_number g l)
column_named (p ∷ qs) x g l =
    ap (λ k. cond k (cell_under p.1 (row_of p.0 x.1)) (cell_under (outer_column g l) (let_row qs x))) (columns_apart g p.0 l p.1)
    ∙ go (nat_eq g p.0 && bytes_eq l p.1) refl (column_named qs x g l)
  where
    go : (k : Bool) → (nat_eq g p.0 && bytes_eq l p.1) ≡ k → cell_under (outer_column g l) (let_row qs x) ≡ cond (listed g l qs) (cell_under l (row_of g x.1)) no_cell → cond k (cell_under p.1 (row_of p.0 x.1)) (cell_under (outer_column g l) (let_row qs x)) ≡ cond (cond k true (listed g l qs)) (cell_under l (row_of g x.1)) no_cell
    go true e i =
        let t = both_true (nat_eq g p.0) (bytes_eq l p.1) e in
        let a : g ≡ p.0 = (Decides-eqb g p.0).0 t.0 in
        let b : l ≡ p.1 = (bytes_eq-Decides l p.1).0 t.1 in
        ap₂ (λ m h. cell_under m (row_of h x.1)) (sym b) (sym a)
    go false e i = i

pub number_named : (qs : List (ℕ × Label)) (x : LetRow) → cell_under number_name (let_row qs x) ≡ cell.Int (pos x.0)
number_named [] x = ap (λ k. cond k (cell.Int (pos x.0)) no_cell) own_number
number_named (p ∷ qs) x = ap (λ k. cond k (cell_under p.1 (row_of p.0 x.1)) (cell_under number_name (let_row qs x))) (number_not p.0 p.1) ∙ number_named qs x

-- a let's row shows its spot: outer generators are those in scope, and what is no column of theirs is no cell
pub record ShowsSpot (ps : List (ℕ × Label)) (outer : ℕ → Bool) (x : LetRow) : Type 0 where
  pub outer_is : (g : ℕ) → outer g ≡ has g x.1
  pub covered : (g : ℕ) (l : Label) → outer g ≡ true → listed g l ps ≡ false → cell_under l (row_of g x.1) ≡ no_cell

-- let rows with own choices
abbrev pub Pair : Type 0
Pair = LetRow × Env

module _ (ps : List (ℕ × Label)) (ts : NamedTables) (outer : ℕ → Bool) where
  abbrev pub part_scope : Pair → Scope
  part_scope y = (let_alias, let_row ps y.0) ∷ scoped y.1

  pub shows_part : (x : LetRow) (f : Env) → ShowsSpot ps outer x → (g : ℕ) (l : Label) → expr_value ts (column_expr outer g l) ((let_alias, let_row ps x) ∷ scoped f) ≡ cell_under l (row_of g (x.1 ++ f))
  shows_part x f h g l = go (outer g) refl ∙ sym (ap (cell_under l) (row_append g x.1 f ∙ ap (λ k. cond k (row_of g x.1) (row_of g f)) (sym (h.outer_is g))))
    where
      inner_case : (k : Bool) → listed g l ps ≡ k → outer g ≡ true → cond k (cell_under l (row_of g x.1)) no_cell ≡ cell_under l (row_of g x.1)
      inner_case true e o = refl
      inner_case false e o = sym (h.covered g l o e)

      go : (o : Bool) → outer g ≡ o → expr_value ts (cond o (ExprTree.column let_alias (outer_column g l)) (ExprTree.column (alias g) l)) ((let_alias, let_row ps x) ∷ scoped f) ≡ cell_under l (cond (outer g) (row_of g x.1) (row_of g f))
      go true o = ap (λ k. cell_under (outer_column g l) (cond k (let_row ps x) (row_at let_alias (scoped f)))) own_let ∙ column_named ps x g l ∙ inner_case (listed g l ps) refl o ∙ ap (λ k. cell_under l (cond k (row_of g x.1) (row_of g f))) (sym o)
      go false o = ap (λ k. cell_under l (cond k (let_row ps x) (row_at (alias g) (scoped f)))) (let_not g) ∙ ap (cell_under l) (row_shown g f) ∙ ap (λ k. cell_under l (cond k (row_of g x.1) (row_of g f))) (sym o)

  abbrev pub pairs : List LetRow → List Gen → Conds → List Pair
  pairs lets gens conds = flat_map (λ x. map (λ f. (x, f)) (filter (λ f. all_true (by_name ts) conds (x.1 ++ f)) (choices (by_name ts) gens))) lets

  pub pairs_combos : (d : StrandTree) (lets : List LetRow) → combos (by_name ts) lets d ≡ map {B = LetRow} (λ y. (y.0.0, y.0.1 ++ y.1)) (pairs lets d.gens d.conds)
  pairs_combos d [] = refl
  pairs_combos d (x ∷ lets) =
      ap₂ (λ (a b : List LetRow). a ++ b) (one (choices (by_name ts) d.gens)) (pairs_combos d lets) ∙ sym (map-append {B = LetRow} (λ (y : Pair). (y.0.0, y.0.1 ++ y.1)) (map (λ f. (x, f)) (filter (λ f. all_true (by_name ts) d.conds (x.1 ++ f)) (choices (by_name ts) d.gens))) (flat_map (λ x. map (λ f. (x, f)) (filter (λ f. all_true (by_name ts) d.conds (x.1 ++ f)) (choices (by_name ts) d.gens))) lets))
    where
      one : (l : List Env) → map (λ e. (x.0, e)) (filter (λ e. all_true (by_name ts) d.conds e) (map (λ rs. x.1 ++ rs) l)) ≡ map {B = LetRow} (λ (y : Pair). (y.0.0, y.0.1 ++ y.1)) (map (λ f. (x, f)) (filter (λ f. all_true (by_name ts) d.conds (x.1 ++ f)) l))
      one [] = refl
      one (f ∷ l) = go (all_true (by_name ts) d.conds (x.1 ++ f)) (one l)
        where
          go : (b : Bool) → map (λ e. (x.0, e)) (filter (λ e. all_true (by_name ts) d.conds e) (map (λ rs. x.1 ++ rs) l)) ≡ map {B = LetRow} (λ (y : Pair). (y.0.0, y.0.1 ++ y.1)) (map (λ f. (x, f)) (filter (λ f. all_true (by_name ts) d.conds (x.1 ++ f)) l)) → map (λ e. (x.0, e)) (cond b ((x.1 ++ f) ∷ filter (λ e. all_true (by_name ts) d.conds e) (map (λ rs. x.1 ++ rs) l)) (filter (λ e. all_true (by_name ts) d.conds e) (map (λ rs. x.1 ++ rs) l))) ≡ map {B = LetRow} (λ (y : Pair). (y.0.0, y.0.1 ++ y.1)) (map (λ f. (x, f)) (cond b (f ∷ filter (λ f. all_true (by_name ts) d.conds (x.1 ++ f)) l) (filter (λ f. all_true (by_name ts) d.conds (x.1 ++ f)) l)))
          go true i = ap (λ (z : List LetRow). (x.0, x.1 ++ f) ∷ z) i
          go false i = i

  -- the kept combinations of a part
  pub kept_part : (q : Label) (gens : List Gen) (conds : Conds) (lets : List LetRow) → rows_named q ts ≡ map (let_row ps) lets → InnerAll outer conds → Each (ShowsSpot ps outer) lets → kept_combinations ts (record { table = q; alias = let_alias } ∷ map source_of gens) (conds_keep outer conds) ≡ map part_scope (pairs lets gens conds)
  kept_part q gens conds lets at inner good =
      ap (λ (t : List Row). filter p (flat_map (λ r. map (λ rs. (let_alias, r) ∷ rs) (combinations ts (map source_of gens))) t)) at
      ∙ ap (filter p) (flat_of_map (λ r. map (λ rs. (let_alias, r) ∷ rs) (combinations ts (map source_of gens))) (let_row ps) lets)
      ∙ filter_flat p (λ x. map (λ rs. (let_alias, let_row ps x) ∷ rs) (combinations ts (map source_of gens))) lets
      ∙ all_lets lets good
    where
      p : Scope → Bool
      p = λ c. keeps ts (conds_keep outer conds) c

      one : (x : LetRow) → ShowsSpot ps outer x → (l : List Env) → filter (λ c. keeps ts (conds_keep outer conds) c) (map (λ rs. (let_alias, let_row ps x) ∷ rs) (map scoped l)) ≡ map (λ (y : Pair). (let_alias, let_row ps y.0) ∷ scoped y.1) (map (λ f. (x, f)) (filter (λ f. all_true (by_name ts) conds (x.1 ++ f)) l))
      one x g [] = refl
      one x g (f ∷ l) =
          ap (λ k. cond k (((let_alias, let_row ps x) ∷ scoped f) ∷ filter (λ c. keeps ts (conds_keep outer conds) c) (map (λ rs. (let_alias, let_row ps x) ∷ rs) (map scoped l))) (filter (λ c. keeps ts (conds_keep outer conds) c) (map (λ rs. (let_alias, let_row ps x) ∷ rs) (map scoped l)))) (condition_is ts outer conds ((let_alias, let_row ps x) ∷ scoped f) (x.1 ++ f) inner (λ h m. shows_part x f g h m))
          ∙ go (all_true (by_name ts) conds (x.1 ++ f)) (one x g l)
        where
          go : (b : Bool) → filter (λ c. keeps ts (conds_keep outer conds) c) (map (λ rs. (let_alias, let_row ps x) ∷ rs) (map scoped l)) ≡ map (λ (y : Pair). (let_alias, let_row ps y.0) ∷ scoped y.1) (map (λ f. (x, f)) (filter (λ f. all_true (by_name ts) conds (x.1 ++ f)) l)) → cond b (((let_alias, let_row ps x) ∷ scoped f) ∷ filter (λ c. keeps ts (conds_keep outer conds) c) (map (λ rs. (let_alias, let_row ps x) ∷ rs) (map scoped l))) (filter (λ c. keeps ts (conds_keep outer conds) c) (map (λ rs. (let_alias, let_row ps x) ∷ rs) (map scoped l))) ≡ map (λ (y : Pair). (let_alias, let_row ps y.0) ∷ scoped y.1) (map (λ f. (x, f)) (cond b (f ∷ filter (λ f. all_true (by_name ts) conds (x.1 ++ f)) l) (filter (λ f. all_true (by_name ts) conds (x.1 ++ f)) l)))
          go true i = ap (λ (z : List Scope). ((let_alias, let_row ps x) ∷ scoped f) ∷ z) i
          go false i = i

      all_lets : (l : List LetRow) → Each (ShowsSpot ps outer) l → flat_map (λ x. filter (λ c. keeps ts (conds_keep outer conds) c) (map (λ rs. (let_alias, let_row ps x) ∷ rs) (combinations ts (map source_of gens)))) l ≡ map (λ (y : Pair). (let_alias, let_row ps y.0) ∷ scoped y.1) (flat_map (λ x. map (λ f. (x, f)) (filter (λ f. all_true (by_name ts) conds (x.1 ++ f)) (choices (by_name ts) gens))) l)
      all_lets [] g = refl
      all_lets (x ∷ l) g =
          ap₂ (λ (a b : List Scope). a ++ b) (ap (λ (z : List Scope). filter (λ c. keeps ts (conds_keep outer conds) c) (map (λ rs. (let_alias, let_row ps x) ∷ rs) z)) (combinations_are ts outer gens) ∙ one x g.0 (choices (by_name ts) gens)) (all_lets l g.1)
          ∙ sym (map-append (λ (y : Pair). (let_alias, let_row ps y.0) ∷ scoped y.1) (map (λ f. (x, f)) (filter (λ f. all_true (by_name ts) conds (x.1 ++ f)) (choices (by_name ts) gens))) (flat_map (λ x. map (λ f. (x, f)) (filter (λ f. all_true (by_name ts) conds (x.1 ++ f)) (choices (by_name ts) gens))) l))
