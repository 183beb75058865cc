-- Rows of generators have the columns of their tables.
use Rattle.std.proofs.Common.{◌≡◌, List, [], ◌∷◌, ◌++◌, map, refl, flat_map}
use Rattle.nq_ir.proofs.Nested.{each_mapped}
use Rattle.nq_ir.proofs.Spots.{each_filter}
use Rattle.nq_model.specs.NamedRows.{Label, Row}
use Rattle.nq_ir.specs.Meanings.{Env, Tables, all_true, choices, kept}
use Rattle.nq_ir.specs.Trees.{Conds}
use Rattle.nq_ir.specs.declared.base.Gen.{Gen}
use Rattle.std.specs.List.{AllByRecursion as Each}

-- each row of a table has the table's columns
abbrev pub Uniform : (Label → List Label) → Tables → Type 0
Uniform cols ts = (t : Label) → Each (λ r. map (λ c. c.0) r ≡ cols t) (ts t)

-- the rows are those of these generators, in order
abbrev pub RowsOf : (Label → List Label) → List Gen → Env → Type 0
RowsOf cols [] [] = Unit {0}
RowsOf cols [] (b ∷ e) = ⊥
RowsOf cols (g ∷ gens) [] = ⊥
RowsOf cols (g ∷ gens) (b ∷ e) = (b.0 ≡ g.number) × (map (λ c. c.0) b.1 ≡ cols g.table) × RowsOf cols gens e

each_under : {A B : Type 0} (P : A → Type 0) (Q : B → Type 0) (f : A → List B) → ((x : A) → P x → Each Q (f x)) → (xs : List A) → Each P xs → Each Q (flat_map f xs)
each_under P Q f h [] e = tt
each_under P Q f h (x ∷ xs) e = join (f x) (flat_map f xs) (h x e.0) (each_under P Q f h xs e.1)
  where
    join : (ys zs : List _) → Each Q ys → Each Q zs → Each Q (ys ++ zs)
    join [] zs a b = b
    join (y ∷ ys) zs a b = (a.0, join ys zs a.1 b)

choices_rows : (cols : Label → List Label) (ts : Tables) → Uniform cols ts → (gens : List Gen) → Each (RowsOf cols gens) (choices ts gens)
choices_rows cols ts u [] = (tt, tt)
choices_rows cols ts u (g ∷ gens) =
    each_under (λ (r : Row). map (λ c. c.0) r ≡ cols g.table) (RowsOf cols (g ∷ gens)) (λ r. map (λ rs. (g.number, r) ∷ rs) (choices ts gens)) (λ r h. each_mapped (λ rs. (g.number, r) ∷ rs) (RowsOf cols gens) (RowsOf cols (g ∷ gens)) (λ rs k. (refl, h, k)) (choices ts gens) (choices_rows cols ts u gens)) (ts g.table) (u g.table)

pub kept_rows : (cols : Label → List Label) (ts : Tables) → Uniform cols ts → (gens : List Gen) (conds : Conds) → Each (RowsOf cols gens) (kept ts gens conds [])
kept_rows cols ts u gens conds = each_filter (RowsOf cols gens) (λ e. all_true ts conds e) (map (λ rs. [] ++ rs) (choices ts gens)) (each_mapped (λ rs. [] ++ rs) (RowsOf cols gens) (RowsOf cols gens) (λ rs k. k) (choices ts gens) (choices_rows cols ts u gens))
