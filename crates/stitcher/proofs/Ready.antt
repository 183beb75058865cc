-- Answers, their groups, and the cells of base parts.
use Rattle.std.proofs.Common.{◌≡◌, ℕ, zero, suc, ◌-◌, ◌<◌, ◌≤◌, List, [], ◌∷◌, ◌++◌, refl, sym, ap, ◌∙◌, subst, Bool, get_or, length, length-append, arith, ⊎_elim, eq-or-lt_of_le}
use Rattle.std.proofs.lemmas.Bool.{cases_lt}
use Rattle.std.proofs.lemmas.List.{length-map}
use Rattle.nq_model.specs.Cells.{RowFits, column_type_of}
use Rattle.nq_model.specs.declared.table.Cell.{Cell}
use Rattle.nq_model.specs.declared.table.ColumnType.{ColumnType}
use Rattle.nq_model.specs.declared.table.ColumnType.TheVariants as column
use Rattle.nq_model.specs.Types.{TypeTree, FieldTypes, int, bool, text, rec, bag, fun, none, field}
use Rattle.nq_ir.specs.Parts.{leaves, leaves_in}
use Rattle.shred_types.specs.Places.{leaf_types, leaf_types_in}
use Rattle.sql_profile.specs.declared.answer.Answer.{Answer}
use Rattle.stitcher.specs.Schemes.{Scheme, AnswerRows, IsLeaf, BasesAreTyped, element_of}
use Rattle.stitcher.specs.Stitching.{rows_of, AreFitting, HasGroups, EachInGroups}
use Rattle.stitcher.specs.declared.groups.Groups.{Groups}

pub rows_at : (answers : List Answer) (q : ℕ) (d : Answer) → q < length answers → get_or (rows_of answers) q [] ≡ (get_or answers q d).rows
rows_at [] q d h = absurd (omega (arith, h))
rows_at (a ∷ answers) zero d h = refl
rows_at (a ∷ answers) (suc q) d h = rows_at answers q d (omega (arith, h))

got_front : {A : Type 0} (xs ys : List A) (k : ℕ) (d : A) → k < length xs → get_or (xs ++ ys) k d ≡ get_or xs k d
got_front [] ys k d h = absurd (omega (arith, h))
got_front (x ∷ xs) ys zero d h = refl
got_front (x ∷ xs) ys (suc k) d h = got_front xs ys k d (omega (arith, h))

got_last : {A : Type 0} (xs : List A) (x d : A) → get_or (xs ++ x ∷ []) (length xs) d ≡ x
got_last [] x d = refl
got_last (y ∷ xs) x d = got_last xs x d

pub one_group_more : {I : Type 0} (eq : I → I → Bool) (S : Scheme I) (ans : List AnswerRows) (groups : List (Groups I)) (q : ℕ) (more : Groups I) → length groups ≡ q → HasGroups eq (S.outer q) (get_or ans q []) more → EachInGroups eq S ans groups → EachInGroups eq S ans (groups ++ more ∷ [])
one_group_more eq S ans groups q more e own each k d h =
    let low : k ≤ length groups = omega (arith, h, length-append groups (more ∷ [])) in
    ⊎_elim
    (λ last. subst (λ n. HasGroups eq (S.outer n) (get_or ans n []) (get_or (groups ++ more ∷ []) n d)) (sym last) (subst (λ z. HasGroups eq (S.outer (length groups)) (get_or ans (length groups) []) z) (sym (got_last groups more d)) (subst (λ n. HasGroups eq (S.outer n) (get_or ans n []) more) (sym e) own)))
    (λ before. subst (λ z. HasGroups eq (S.outer k) (get_or ans k []) z) (sym (got_front groups (more ∷ []) k d before)) (each k d before))
    (eq-or-lt_of_le low)

mutual
  types_long : (a : TypeTree) → length (leaf_types a) ≡ leaves a
  types_long int = refl
  types_long bool = refl
  types_long text = refl
  types_long (rec fs) = types_in_long fs
  types_long (bag a) = refl
  types_long (fun a b) = refl

  types_in_long : (fs : FieldTypes) → length (leaf_types_in fs) ≡ leaves_in fs
  types_in_long none = refl
  types_in_long (field l a fs) = omega (arith, length-append (leaf_types a) (leaf_types_in fs), types_long a, types_in_long fs)

got_past : {A : Type 0} (xs : List A) (k : ℕ) (d : A) → length xs ≤ k → get_or xs k d ≡ d
got_past [] k d h = refl
got_past (x ∷ xs) zero d h = absurd (omega (arith, h))
got_past (x ∷ xs) (suc k) d h = got_past xs k d (omega (arith, h))

got_any : {A : Type 0} (xs : List A) (k : ℕ) (d e : A) → k < length xs → get_or xs k d ≡ get_or xs k e
got_any [] k d e h = absurd (omega (arith, h))
got_any (x ∷ xs) zero d e h = refl
got_any (x ∷ xs) (suc k) d e h = got_any xs k d e (omega (arith, h))

-- the column of a base part is there
pub base_there : {I : Type 0} (S : Scheme I) (q l : ℕ) → BasesAreTyped S → IsLeaf S q l → S.base q l - 1 < length (S.columns q)
base_there S q l typed is =
    let n = S.base q l - 1 in
    let A = element_of S.elements q in
    ⊎_elim (λ h. h)
    (λ past.
    let int_there : get_or (leaf_types A) l column.Int ≡ column.Int = sym ((typed q l is).1 column.Int) ∙ got_past (S.columns q) n column.Int past in
    let bool_there : get_or (leaf_types A) l column.Bool ≡ column.Bool = sym ((typed q l is).1 column.Bool) ∙ got_past (S.columns q) n column.Bool past in
    let one : column.Int ≡ column.Bool = sym int_there ∙ got_any (leaf_types A) l column.Int column.Bool (omega (arith, is.1, types_long A)) ∙ bool_there in
    absurd (let no : ⊥ = cc in no))
    (cases_lt n (length (S.columns q)))

-- a row that fits has a cell for each column
pub row_long : (types : List ColumnType) (row : List Cell) → RowFits types row → length row ≡ length types
row_long types row h = sym (length-map row column_type_of) ∙ ap length h

module _ {I : Type 0} (S : Scheme I) (ans : List AnswerRows) (q row l column : ℕ) (rows : AnswerRows) (is : column ≡ S.base q l) (own : rows ≡ get_or ans q []) (typed : BasesAreTyped S) (leaf : IsLeaf S q l) (fits : AreFitting S ans) (here : row < length (get_or ans q [])) where
  -- the cell of a base part is there
  pub cell_there : column - 1 < length (get_or rows row [])
  cell_there =
      let there = base_there S q l typed leaf in
      let long = row_long (S.columns q) (get_or (get_or ans q []) row []) (fits q row [] here) in
      let at : S.base q l - 1 < length (get_or (get_or ans q []) row []) = omega (arith, there, long) in
      subst (λ (r : AnswerRows). column - 1 < length (get_or r row [])) (sym own) (subst (λ n. n - 1 < length (get_or (get_or ans q []) row [])) (sym is) at)

  -- and is what stands in the column, whatever counts as a cell that is not there
  pub cell_read : (d e : Cell) → get_or (get_or rows row []) (column - 1) d ≡ get_or (get_or (get_or ans q []) row []) (S.base q l - 1) e
  cell_read d e =
      got_any (get_or rows row []) (column - 1) d e cell_there
      ∙ ap (λ (r : AnswerRows). get_or (get_or r row []) (column - 1) e) own
      ∙ ap (λ n. get_or (get_or (get_or ans q []) row []) (n - 1) e) is
