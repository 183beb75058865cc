-- However ties are numbered, the combination with the number n has the n-th of the sorted key lists.
use Rattle.std.proofs.Common.{◌≡◌, ℕ, ◌+◌, ◌-◌, ◌<◌, ◌≤◌, List, [], ◌∷◌, map, length, get_or, zip, pos, refl, sym, ap, ◌∙◌, subst, arith}
use Rattle.std.specs.List.{AllByRecursion as Each}
use Rattle.nq_model.specs.Bags.{Reordered}
use Rattle.nq_model.specs.Numberings.{Rises, numbered, key_lt}
use Rattle.nq_model.specs.declared.table.Cell.{Cell}
use Rattle.nq_model.specs.declared.table.Cell.TheVariants as cell
use Rattle.nq_model.proofs.Numberings.{numbers_fixed, number_stands_for, key_ranks, reordered_map}
use Rattle.sql_profile.specs.Trees.{ExprTrees, number}
use Rattle.nq_model.specs.NamedRows.{NamedTables}
use Rattle.sql_profile.specs.AllowedAnswers.{Scope, ValueGives}
use Rattle.sql_profile.specs.NumberedKeys.{keys_of, number_cells, IsNthOf}

zip_cells : (ns : List ℕ) (ks : List (List Cell)) → zip (map (λ n. cell.Int (pos n)) ns) ks ≡ map (λ p. (cell.Int (pos p.0), p.1)) (zip ns ks)
zip_cells [] ks = refl
zip_cells (n ∷ ns) [] = refl
zip_cells (n ∷ ns) (k ∷ ks) = ap (λ (l : List (Cell × List Cell)). (cell.Int (pos n), k) ∷ l) (zip_cells ns ks)

each_cell : (sorted : List (List Cell)) (ps : List (ℕ × List Cell)) → Each (λ p. (1 ≤ p.0) × (p.0 < 1 + length sorted) × ((d : List Cell) → get_or sorted (p.0 - 1) d ≡ p.1)) ps → Each (IsNthOf sorted) (map (λ p. (cell.Int (pos p.0), p.1)) ps)
each_cell sorted [] e = tt
each_cell sorted (p ∷ ps) e = ((p.0, refl, e.0.0, omega (arith, e.0.1), e.0.2), each_cell sorted ps e.1)

pub numbers_stand_for : (ts : NamedTables) (kept : List Scope) (keys : ExprTrees) (cells : List Cell) (sorted : List (List Cell)) → ValueGives ts kept (number keys) cells → Reordered (keys_of ts keys kept) sorted → Rises key_lt sorted → Each (IsNthOf sorted) (zip cells (keys_of ts keys kept))
numbers_stand_for ts kept keys cells sorted (ns, numbers, few, is) arranged up =
    subst (λ (l : List (Cell × List Cell)). Each (IsNthOf sorted) l) (sym (ap (λ (l : List Cell). zip l (keys_of ts keys kept)) is ∙ zip_cells ns (keys_of ts keys kept)))
    (each_cell sorted (zip ns (keys_of ts keys kept)) (number_stands_for key_lt key_ranks (keys_of ts keys kept) sorted ns numbers arranged up))

pub numbers_are_fixed : (ts : NamedTables) (kept : List Scope) (keys : ExprTrees) (cells : List Cell) (sorted : List (List Cell)) → ValueGives ts kept (number keys) cells → Reordered (keys_of ts keys kept) sorted → Rises key_lt sorted → Reordered (zip cells (keys_of ts keys kept)) (number_cells sorted)
numbers_are_fixed ts kept keys cells sorted (ns, numbers, few, is) arranged up =
    subst (λ (l : List (Cell × List Cell)). Reordered l (number_cells sorted)) (sym (ap (λ (l : List Cell). zip l (keys_of ts keys kept)) is ∙ zip_cells ns (keys_of ts keys kept)))
    (reordered_map (λ p. (cell.Int (pos p.0), p.1)) (zip ns (keys_of ts keys kept)) (numbered 1 sorted) (numbers_fixed key_lt key_ranks (keys_of ts keys kept) sorted ns numbers arranged up))
