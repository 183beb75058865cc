-- What a form means depends only on the tables that it names, and a row shows its columns.
use Rattle.nq_model.specs.Totals.{total_of}
use Rattle.std.proofs.Common.{◌≡◌, ℕ, List, [], ◌∷◌, ◌++◌, map, refl, sym, ap, ap₂, ◌∙◌, subst, Bool, true, false, cond, filter, flat_map, nat_eq, ◌&&◌}
use Rattle.std.specs.List.{AllByRecursion as Each}
use Rattle.std.specs.Str.{bytes_eq}
use Rattle.nq_model.specs.Meaning.{is_none}
use Rattle.nq_model.specs.NamedRows.{Label, Row, cell_under, no_cell}
use Rattle.nq_model.specs.Operators.{is_true, unary_value, binary_value}
use Rattle.nq_model.specs.declared.table.Cell.{Cell}
use Rattle.nq_model.specs.declared.table.Cell.TheVariants as cell
use Rattle.nq_ir.specs.declared.base.Gen.{Gen}
use Rattle.nq_ir.specs.Trees.{BaseTree, literal, column, unary, binary, choose, empty, Conds, no_cond, and_cond, Tests, no_test, test, total}
use Rattle.nq_ir.specs.Meanings.{Tables, Env, row_of, choices, value, all_true, no_kept, kept}
use Rattle.nq_ir.specs.Spots.{StrandTree, shape_leaves}
use Rattle.nq_ir.specs.Lets.{FlatRow, LetRow, combos, part_rows, tail_of, head_of, columns_in}
use Rattle.nq_ir.proofs.Nested.{filter_same, kept_same}
use Rattle.nq_ir.proofs.Rows.{RowsOf}
use Rattle.flatten.specs.Emitted.{in_gens}
use Rattle.flatten.proofs.Apart.{NoDot}
use Rattle.flatten.proofs.PartScope.{has, listed}

-- us has the tables of ts, and maybe others whose names have a dot
abbrev pub Agree : Tables → Tables → Type 0
Agree ts us = (t : Label) → NoDot t → us t ≡ ts t

abbrev pub TablesDotless : List Gen → Type 0
TablesDotless gens = Each (λ g. NoDot g.table) gens

-- the tables of tests inside have names without a dot
abbrev mutual
  pub Dotless : BaseTree → Type 0
  Dotless (literal c) = Unit {0}
  Dotless (column g l) = Unit {0}
  Dotless (unary f b) = Dotless b
  Dotless (binary f a b) = Dotless a × Dotless b
  Dotless (choose t a b) = Dotless t × Dotless a × Dotless b
  Dotless (empty xs) = DotlessTests xs
  Dotless (total g gens conds b) = TablesDotless gens × DotlessAll conds × Dotless b

  pub DotlessAll : Conds → Type 0
  DotlessAll no_cond = Unit {0}
  DotlessAll (and_cond b bs) = Dotless b × DotlessAll bs

  pub DotlessTests : Tests → Type 0
  DotlessTests no_test = Unit {0}
  DotlessTests (test gens conds xs) = TablesDotless gens × DotlessAll conds × DotlessTests xs

module _ (ts us : Tables) (agree : Agree ts us) where
  choices_agree : (gens : List Gen) → TablesDotless gens → choices us gens ≡ choices ts gens
  choices_agree [] h = refl
  choices_agree (g ∷ gens) h =
      ap (flat_map (λ r. map (λ rs. (g.number, r) ∷ rs) (choices us gens))) (agree g.table h.0) ∙ ap (λ (z : List Env). flat_map (λ r. map (λ rs. (g.number, r) ∷ rs) z) (ts g.table)) (choices_agree gens h.1)

  mutual
    value_agrees : (b : BaseTree) (e : Env) → Dotless b → value us b e ≡ value ts b e
    value_agrees (literal c) e h = refl
    value_agrees (column g l) e h = refl
    value_agrees (unary f b) e h = ap (unary_value f) (value_agrees b e h)
    value_agrees (binary f a b) e h = ap₂ (binary_value f) (value_agrees a e h.0) (value_agrees b e h.1)
    value_agrees (choose t a b) e h =
        ap (λ z. cond (is_true z) (value us a e) (value us b e)) (value_agrees t e h.0) ∙ ap₂ (λ x y. cond (is_true (value ts t e)) x y) (value_agrees a e h.1) (value_agrees b e h.2)
    value_agrees (empty xs) e h = ap cell.Bool (tests_agree xs e h)
    value_agrees (total g gens conds b) e h =
        ap (total_of g) (ap (λ (l : List Env). map (λ rs. value us b (rs ++ e)) (filter (λ rs. all_true us conds (rs ++ e)) l)) (choices_agree gens h.0) ∙ kept_same (λ rs. all_true us conds (rs ++ e)) (λ rs. all_true ts conds (rs ++ e)) (λ rs. value us b (rs ++ e)) (λ rs. value ts b (rs ++ e)) (λ rs. all_agree conds (rs ++ e) h.1) (λ rs. value_agrees b (rs ++ e) h.2) (choices ts gens))

    all_agree : (bs : Conds) (e : Env) → DotlessAll bs → all_true us bs e ≡ all_true ts bs e
    all_agree no_cond e h = refl
    all_agree (and_cond b bs) e h = ap₂ (λ x y. is_true x && y) (value_agrees b e h.0) (all_agree bs e h.1)

    tests_agree : (xs : Tests) (e : Env) → DotlessTests xs → no_kept us xs e ≡ no_kept ts xs e
    tests_agree no_test e h = refl
    tests_agree (test gens conds xs) e h =
        ap₂ (λ (l : List Env) z. is_none l && z) (ap (filter (λ rs. all_true us conds (rs ++ e))) (choices_agree gens h.0) ∙ filter_same (λ rs. all_true us conds (rs ++ e)) (λ rs. all_true ts conds (rs ++ e)) (λ rs. all_agree conds (rs ++ e) h.1) (choices ts gens)) (tests_agree xs e h.2)

  pub kept_agrees : (gens : List Gen) (conds : Conds) (e : Env) → TablesDotless gens → DotlessAll conds → kept us gens conds e ≡ kept ts gens conds e
  kept_agrees gens conds e h k =
      ap (λ (z : List Env). filter (λ x. all_true us conds x) (map (λ rs. e ++ rs) z)) (choices_agree gens h) ∙ filter_same (λ x. all_true us conds x) (λ x. all_true ts conds x) (λ x. all_agree conds x k) (map (λ rs. e ++ rs) (choices ts gens))

  pub combos_agree : (d : StrandTree) (list : List LetRow) → TablesDotless d.gens → DotlessAll d.conds → combos us list d ≡ combos ts list d
  combos_agree d [] h k = refl
  combos_agree d (p ∷ list) h k = ap₂ (λ (x : List Env) (y : List LetRow). map (λ e. (p.0, e)) x ++ y) (kept_agrees d.gens d.conds p.1 h k) (combos_agree d list h k)

  values_agree : (bs : List BaseTree) (e : Env) → Each Dotless bs → map (λ b. value us b e) bs ≡ map (λ b. value ts b e) bs
  values_agree [] e h = refl
  values_agree (b ∷ bs) e h = ap₂ (λ x (l : List Cell). x ∷ l) (value_agrees b e h.0) (values_agree bs e h.1)

  pub rows_agree : (d : StrandTree) (ps : List LetRow) (ms : List (List ℕ)) → Each Dotless (shape_leaves d.shape) → part_rows us d ps ms ≡ part_rows ts d ps ms
  rows_agree d [] ms h = refl
  rows_agree d (p ∷ ps) ms h =
      ap₂ (λ (x : List Cell) (l : List FlatRow). record { outer = (d.parent, p.0); leaf_cells = x; inners = map (λ n. (d.tag, head_of n)) ms } ∷ l) (values_agree (shape_leaves d.shape) p.1 h) (rows_agree d ps (map tail_of ms) h)

pub rows_have : (cols : Label → List Label) (gens : List Gen) (e : Env) → RowsOf cols gens e → (g : ℕ) → in_gens gens g ≡ has g e
rows_have cols [] [] h g = refl
rows_have cols [] (b ∷ e) h g = absurd h
rows_have cols (k ∷ gens) [] h g = absurd h
rows_have cols (k ∷ gens) (b ∷ e) h g = ap₂ (λ x y. cond (nat_eq g x) true y) (sym h.0) (rows_have cols gens e h.2 g)

abbrev member : Label → List Label → Bool
member l [] = false
member l (c ∷ cs) = cond (bytes_eq l c) true (member l cs)

column_missing : (l : Label) (r : Row) → member l (map (λ c. c.0) r) ≡ false → cell_under l r ≡ no_cell
column_missing l [] h = refl
column_missing l (c ∷ r) h = go (bytes_eq l c.0) h (column_missing l r)
  where
    go : (b : Bool) → cond b true (member l (map (λ c. c.0) r)) ≡ false → (member l (map (λ c. c.0) r) ≡ false → cell_under l r ≡ no_cell) → cond b c.1 (cell_under l r) ≡ no_cell
    go true h i = absurd (cc)
    go false h i = i h

listed_append : (g : ℕ) (l : Label) (xs ys : List (ℕ × Label)) → listed g l (xs ++ ys) ≡ cond (listed g l xs) true (listed g l ys)
listed_append g l [] ys = refl
listed_append g l (x ∷ xs) ys = go (nat_eq g x.0 && bytes_eq l x.1) (listed_append g l xs ys)
  where
    go : (b : Bool) → listed g l (xs ++ ys) ≡ cond (listed g l xs) true (listed g l ys) → cond b true (listed g l (xs ++ ys)) ≡ cond (cond b true (listed g l xs)) true (listed g l ys)
    go true i = refl
    go false i = i

listed_block : (g : ℕ) (l : Label) (h : ℕ) (cs : List Label) → listed g l (map (λ c. (h, c)) cs) ≡ (nat_eq g h && member l cs)
listed_block g l h [] = go (nat_eq g h)
  where
    go : (b : Bool) → false ≡ (b && false)
    go true = refl
    go false = refl
listed_block g l h (c ∷ cs) = go (nat_eq g h) (bytes_eq l c) (listed_block g l h cs)
  where
    go : (a b : Bool) → listed g l (map (λ c. (h, c)) cs) ≡ (a && member l cs) → cond (a && b) true (listed g l (map (λ c. (h, c)) cs)) ≡ (a && cond b true (member l cs))
    go true true i = refl
    go true false i = i
    go false b i = i

pub rows_cover : (cols : Label → List Label) (gens : List Gen) (e : Env) → RowsOf cols gens e → (g : ℕ) (l : Label) → listed g l (columns_in cols gens) ≡ false → cell_under l (row_of g e) ≡ no_cell
rows_cover cols [] [] h g l k = refl
rows_cover cols [] (b ∷ e) h g l k = absurd h
rows_cover cols (j ∷ gens) [] h g l k = absurd h
rows_cover cols (j ∷ gens) (b ∷ e) h g l k =
    let both : cond (nat_eq g j.number && member l (cols j.table)) true (listed g l (columns_in cols gens)) ≡ false = ap (λ z. cond z true (listed g l (columns_in cols gens))) (sym (listed_block g l j.number (cols j.table))) ∙ sym (listed_append g l (map (λ c. (j.number, c)) (cols j.table)) (columns_in cols gens)) ∙ k in
    ap (λ z. cell_under l (cond (nat_eq g z) b.1 (row_of g e))) h.0
    ∙ go (nat_eq g j.number) (subst (λ (z : List Label). cond (nat_eq g j.number && member l z) true (listed g l (columns_in cols gens)) ≡ false) (sym h.1) both) (rows_cover cols gens e h.2 g l)
  where
    go : (a : Bool) → cond (a && member l (map (λ c. c.0) b.1)) true (listed g l (columns_in cols gens)) ≡ false → (listed g l (columns_in cols gens) ≡ false → cell_under l (row_of g e) ≡ no_cell) → cell_under l (cond a b.1 (row_of g e)) ≡ no_cell
    go true w i = column_missing l b.1 (first (member l (map (λ c. c.0) b.1)) (listed g l (columns_in cols gens)) w)
      where
        first : (x y : Bool) → cond x true y ≡ false → x ≡ false
        first true y w = w
        first false y w = refl
    go false w i = i w
