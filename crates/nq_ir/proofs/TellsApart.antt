-- The cells of all columns tell the rows of generators apart.
use Rattle.std.proofs.Common.{◌≡◌, ℕ, List, [], ◌∷◌, ◌++◌, map, refl, sym, ap, ap₂, ◌∙◌, subst, Bool, true, false, cond, flat_map, nat_eq}
use Rattle.std.specs.Str.{bytes_eq}
use Rattle.std.proofs.lemmas.List.{map-append}
use Rattle.std.proofs.lemmas.Bool.Decides.{Decides-eqb}
use Rattle.nq_ir.proofs.Distinct.{Distinct}
use Rattle.nq_ir.proofs.Equal.{bytes_same, nat_same}
use Rattle.nq_ir.proofs.Paths.{LabelsDiffer}
use Rattle.nq_ir.proofs.Rows.{RowsOf}
use Rattle.nq_ir.specs.Lets.{columns_in}
use Rattle.nq_model.specs.NamedRows.{Label, Row, cell_under}
use Rattle.nq_ir.specs.Meanings.{Env, row_of}
use Rattle.nq_ir.specs.declared.base.Gen.{Gen}
use Rattle.nq_model.proofs.Numberings.{each_map}
use Rattle.nq_model.specs.Numberings.{TellsApart}
use Rattle.nq_model.specs.declared.table.Cell.{Cell}
use Rattle.std.specs.List.{AllByRecursion as Each}

-- the cells of these columns
abbrev pub cells_of : List (ℕ × Label) → Env → List Cell
cells_of ps e = map (λ p. cell_under p.1 (row_of p.0 e)) ps

cells_own : (g : ℕ) (r : Row) (e : Env) (ls : List Label) → cells_of (map (λ c. (g, c)) ls) ((g, r) ∷ e) ≡ map (λ c. cell_under c r) ls
cells_own g r e [] = refl
cells_own g r e (l ∷ ls) = ap₂ (λ x (z : List Cell). x ∷ z) (ap (λ k. cell_under l (cond k r (row_of g e))) (nat_same g g refl)) (cells_own g r e ls)

columns_skip : (c : Label × Cell) (r : Row) (ls : List Label) → Each (λ m. bytes_eq m c.0 ≡ false) ls → map (λ l. cell_under l (c ∷ r)) ls ≡ map (λ l. cell_under l r) ls
columns_skip c r [] h = refl
columns_skip c r (l ∷ ls) h = ap₂ (λ x (z : List Cell). x ∷ z) (ap (λ k. cond k c.1 (cell_under l r)) h.0) (columns_skip c r ls h.1)

row_cells : (r : Row) → LabelsDiffer (map (λ c. c.0) r) → map (λ l. cell_under l r) (map (λ c. c.0) r) ≡ map (λ c. c.1) r
row_cells [] d = refl
row_cells (c ∷ r) d = ap₂ (λ x (z : List Cell). x ∷ z) (ap (λ k. cond k c.1 (cell_under c.0 r)) (bytes_same c.0 c.0 refl)) (columns_skip c r (map (λ c. c.0) r) d.0 ∙ row_cells r d.1)

cells_skip : (b : ℕ × Row) (e : Env) (ps : List (ℕ × Label)) → Each (λ (p : ℕ × Label). nat_eq p.0 b.0 ≡ false) ps → cells_of ps (b ∷ e) ≡ cells_of ps e
cells_skip b e [] h = refl
cells_skip b e (p ∷ ps) h = ap₂ (λ x (z : List Cell). x ∷ z) (ap (λ k. cell_under p.1 (cond k b.1 (row_of p.0 e))) h.0) (cells_skip b e ps h.1)

flip : (g h : ℕ) → nat_eq g h ≡ false → nat_eq h g ≡ false
flip g h e = go (nat_eq h g) refl
  where
    go : (b : Bool) → nat_eq h g ≡ b → b ≡ false
    go true f = let s : h ≡ g = (Decides-eqb h g).0 f in let w : true ≡ false = sym (nat_same g h (sym s)) ∙ e in w
    go false f = refl

block_differs : (b g : ℕ) (ls : List Label) (rest : List (ℕ × Label)) → nat_eq g b ≡ false → Each (λ (p : ℕ × Label). nat_eq p.0 b ≡ false) rest → Each (λ (p : ℕ × Label). nat_eq p.0 b ≡ false) (map (λ c. (g, c)) ls ++ rest)
block_differs b g [] rest h e = e
block_differs b g (l ∷ ls) rest h e = (h, block_differs b g ls rest h e)

columns_differ : (cols : Label → List Label) (b : ℕ) (gens : List Gen) → Each (λ m. nat_eq b m ≡ false) (map (λ g. g.number) gens) → Each (λ (p : ℕ × Label). nat_eq p.0 b ≡ false) (columns_in cols gens)
columns_differ cols b [] h = tt
columns_differ cols b (g ∷ gens) h = block_differs b g.number (cols g.table) (columns_in cols gens) (flip b g.number h.0) (columns_differ cols b gens h.1)

abbrev all_cells : Env → List Cell
all_cells e = flat_map (λ b. map (λ c. c.1) b.1) e

module _ (cols : Label → List Label) (differ : (t : Label) → LabelsDiffer (cols t)) where
  cells_all : (gens : List Gen) (e : Env) → Distinct (map (λ g. g.number) gens) → RowsOf cols gens e → cells_of (columns_in cols gens) e ≡ all_cells e
  cells_all [] [] d h = refl
  cells_all [] (b ∷ e) d h = absurd h
  cells_all (g ∷ gens) [] d h = absurd h
  cells_all (g ∷ gens) (b ∷ e) d h =
      map-append (λ (p : ℕ × Label). cell_under p.1 (row_of p.0 (b ∷ e))) (map (λ c. (g.number, c)) (cols g.table)) (columns_in cols gens)
      ∙ ap₂ (λ (x y : List Cell). x ++ y) (ap (λ n. cells_of (map (λ c. (g.number, c)) (cols g.table)) ((n, b.1) ∷ e)) h.0 ∙ cells_own g.number b.1 e (cols g.table) ∙ ap (map (λ l. cell_under l b.1)) (sym h.1) ∙ row_cells b.1 (subst LabelsDiffer (sym h.1) (differ g.table))) (cells_skip b e (columns_in cols gens) (subst (λ n. Each (λ (p : ℕ × Label). nat_eq p.0 n ≡ false) (columns_in cols gens)) (sym h.0) (columns_differ cols g.number gens d.0)) ∙ cells_all gens e d.1 h.2)

  row_from : (r s : Row) (xs ys : List Cell) → map (λ c. c.0) r ≡ map (λ c. c.0) s → map (λ c. c.1) r ++ xs ≡ map (λ c. c.1) s ++ ys → (r ≡ s) × (xs ≡ ys)
  row_from [] [] xs ys e f = (refl, f)
  row_from [] (d ∷ s) xs ys e f = absurd (cc)
  row_from (c ∷ r) [] xs ys e f = absurd (cc)
  row_from (c ∷ r) (d ∷ s) xs ys e f =
      let l : c.0 ≡ d.0 = cc in
      let ls : map (λ c. c.0) r ≡ map (λ c. c.0) s = cc in
      let v : c.1 ≡ d.1 = cc in
      let vs : map (λ c. c.1) r ++ xs ≡ map (λ c. c.1) s ++ ys = cc in
      let t = row_from r s xs ys ls vs in
      (ap₂ (λ x (z : Row). x ∷ z) (ap₂ {C = Label × Cell} (λ x y. (x, y)) l v) t.0, t.1)

  cells_tell : (gens : List Gen) (e f : Env) → RowsOf cols gens e → RowsOf cols gens f → all_cells e ≡ all_cells f → e ≡ f
  cells_tell [] [] [] h k q = refl
  cells_tell [] [] (c ∷ f) h k q = absurd k
  cells_tell [] (b ∷ e) f h k q = absurd h
  cells_tell (g ∷ gens) [] f h k q = absurd h
  cells_tell (g ∷ gens) (b ∷ e) [] h k q = absurd k
  cells_tell (g ∷ gens) (b ∷ e) (c ∷ f) h k q =
      let t = row_from b.1 c.1 (all_cells e) (all_cells f) (h.1 ∙ sym k.1) q in
      ap₂ (λ x (z : Env). x ∷ z) (ap₂ {C = ℕ × Row} (λ x y. (x, y)) (h.0 ∙ sym k.0) t.0) (cells_tell gens e f h.2 k.2 t.1)

  each_pair : {A : Type 0} (P : A → Type 0) (R : A → A → Type 0) → ((x y : A) → P x → P y → R x y) → (xs : List A) → Each P xs → Each (λ x. Each (λ y. R x y) xs) xs
  each_pair P R h xs e = each_map P (λ x. Each (λ y. R x y) xs) (λ x p. each_map P (λ y. R x y) (λ y q. h x y p q) xs e) xs e

  pub cells_tell_apart : (gens : List Gen) (es : List Env) → Distinct (map (λ g. g.number) gens) → Each (RowsOf cols gens) es → TellsApart (cells_of (columns_in cols gens)) es
  cells_tell_apart gens es d h =
      each_pair (RowsOf cols gens) (λ x y. cells_of (columns_in cols gens) x ≡ cells_of (columns_in cols gens) y → x ≡ y) (λ x y p q e. cells_tell gens x y p q (sym (cells_all gens x d p) ∙ e ∙ cells_all gens y d q)) es h
