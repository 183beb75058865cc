-- Rows over columns, and columns that grow.
use Rattle.std.proofs.Common.{◌≡◌, ℕ, zero, suc, pos, ◌+◌, ◌-◌, ◌<◌, ◌≤◌, List, [], ◌∷◌, ◌++◌, map, take, set, length, get_or, refl, sym, ap, ap₂, ◌∙◌, subst, arith}
use Rattle.std.proofs.lemmas.List.{append-nil, get_or-map, get_or_append_left, get_or-append_right, get_or_push, get_or_read, set-get_or, length-map, length-append}
use Rattle.std.proofs.lemmas.List.Elements.{All-weaker, All-nil, All-cons, All-head, All-tail}
use Rattle.nq_model.specs.declared.table.Cell.{Cell}
use Rattle.nq_model.specs.declared.table.Cell.TheVariants as cell
use Rattle.nq_model.specs.declared.cell_ref.CellRef.{CellRef}
use Rattle.nq_model.specs.CellRefs.{cell_seen}
use Rattle.rows.specs.Columns.{row_over, rows_over, HaveRows, EndBehind, widened}

abbrev Column : Type 0
Column = List Cell

-- how many rows stand over columns
rows_length : (columns : List Column) (count : ℕ) → length (rows_over columns count) ≡ count
rows_length columns zero = refl
rows_length columns (suc count) =
    length-append (rows_over columns count) (row_over columns count ∷ [])
    ∙ omega (arith, rows_length columns count)

-- the row at a place
row_at : (columns : List Column) (count at : ℕ) → at < count → get_or (rows_over columns count) at [] ≡ row_over columns at
row_at columns zero at h = absurd (omega (arith, h))
row_at columns (suc count) at h = grind (arith, rows_length columns count, row_at columns count at, get_or_append_left (rows_over columns count) (row_over columns count ∷ []) [] at, get_or_push (rows_over columns count) (row_over columns count) [] at)

row_width : (columns : List Column) (at : ℕ) → length (row_over columns at) ≡ length columns
row_width [] at = refl
row_width (column ∷ columns) at = ap suc (row_width columns at)

-- one more cell each takes none away
have_more : (columns : List Column) (cells : List Cell) (count : ℕ) → HaveRows columns count → HaveRows (widened columns cells) count
have_more [] cells count h = h
have_more (column ∷ columns) [] count h = h
have_more (column ∷ columns) (c ∷ cells) count h =
    let Long : Column → Type 0 = λ column. count ≤ length column in
    All-cons Long (column ++ c ∷ []) (widened columns cells)
    (omega (arith, length-append column (c ∷ []), All-head Long column columns h))
    (have_more columns cells count (All-tail Long column columns h))

row_stays : (columns : List Column) (cells : List Cell) (count at : ℕ) → HaveRows columns count → at < count → row_over (widened columns cells) at ≡ row_over columns at
row_stays [] cells count at h k = refl
row_stays (column ∷ columns) [] count at h k = refl
row_stays (column ∷ columns) (c ∷ cells) count at h k =
    let long : count ≤ length column = All-head (λ (column : Column). count ≤ length column) column columns h in
    ap₂ (λ (x : Cell) (xs : List Cell). x ∷ xs) (get_or_append_left column (c ∷ []) (cell.Int (pos 0)) at (omega (arith, long, k)))
    (row_stays columns cells count at (All-tail (λ (column : Column). count ≤ length column) column columns h) k)

rows_below : (columns : List Column) (cells : List Cell) (count n : ℕ) → HaveRows columns count → n ≤ count → rows_over (widened columns cells) n ≡ rows_over columns n
rows_below columns cells count zero h k = refl
rows_below columns cells count (suc n) h k =
    ap₂ (λ (rows : List Column) (row : Column). rows ++ row ∷ []) (rows_below columns cells count n h (omega (arith, k))) (row_stays columns cells count n h (omega (arith, k)))

-- the rows stay when columns get one more cell each
rows_stay : (columns : List Column) (cells : List Cell) (count : ℕ) → HaveRows columns count → rows_over (widened columns cells) count ≡ rows_over columns count
rows_stay columns cells count h = rows_below columns cells count count h (omega arith)

pub widened_length : (columns : List Column) (cells : List Cell) → length (widened columns cells) ≡ length columns
widened_length [] cells = refl
widened_length (column ∷ columns) [] = refl
widened_length (column ∷ columns) (c ∷ cells) = ap suc (widened_length columns cells)

-- the rows stay, and each column still has a cell for each
pub rows_kept : (columns now : List Column) (cells : List Cell) → now ≡ widened columns cells → (count : ℕ) → HaveRows columns count
    → HaveRows now count × (rows_over now count ≡ rows_over columns count)
rows_kept columns now cells is count h =
    subst (λ (cs : List Column). HaveRows cs count × (rows_over cs count ≡ rows_over columns count)) (sym is) (have_more columns cells count h, rows_stay columns cells count h)

-- the cells are the next row
next_row : (columns : List Column) (cells : List Cell) (count : ℕ) → EndBehind columns count → length columns ≡ length cells → row_over (widened columns cells) count ≡ cells
next_row [] [] count h same = refl
next_row [] (c ∷ cells) count h same = absurd (omega (arith, same))
next_row (column ∷ columns) [] count h same = absurd (omega (arith, same))
next_row (column ∷ columns) (c ∷ cells) count h same =
    ap₂ (λ (x : Cell) (xs : List Cell). x ∷ xs) (get_or_push column c (cell.Int (pos 0)) count (All-head (λ (column : Column). length column ≡ count) column columns h))
    (next_row columns cells count (All-tail (λ (column : Column). length column ≡ count) column columns h) (omega (arith, same)))

end_more : (columns : List Column) (cells : List Cell) (count : ℕ) → EndBehind columns count → length columns ≡ length cells → EndBehind (widened columns cells) (suc count)
end_more [] cells count h same = All-nil (λ (column : Column). length column ≡ suc count)
end_more (column ∷ columns) [] count h same = absurd (omega (arith, same))
end_more (column ∷ columns) (c ∷ cells) count h same =
    let Ends : Column → Type 0 = λ column. length column ≡ count in
    let EndsNext : Column → Type 0 = λ column. length column ≡ suc count in
    All-cons EndsNext (column ++ c ∷ []) (widened columns cells)
    (omega (arith, length-append column (c ∷ []), All-head Ends column columns h))
    (end_more columns cells count (All-tail Ends column columns h) (omega (arith, same)))

pub widened_by_none : (columns : List Column) → widened columns [] ≡ columns
widened_by_none [] = refl
widened_by_none (column ∷ columns) = refl

-- one step of putting each cell behind its column
widened_step : (columns : List Column) (cells : List Cell) (at : ℕ) (d : Cell) → at < length cells → length columns ≡ length cells
    → set (widened columns (take at cells)) at (get_or (widened columns (take at cells)) at [] ++ get_or cells at d ∷ []) ≡ widened columns (take (suc at) cells)
widened_step columns [] at d h same = absurd (omega (arith, h))
widened_step [] (c ∷ cells) at d h same = absurd (omega (arith, same))
widened_step (column ∷ columns) (c ∷ cells) zero d h same = ap (λ (cs : List Column). (column ++ c ∷ []) ∷ cs) (sym (widened_by_none columns))
widened_step (column ∷ columns) (c ∷ cells) (suc at) d h same =
    ap (λ (cs : List Column). (column ++ c ∷ []) ∷ cs) (widened_step columns cells at d (omega (arith, h)) (omega (arith, same)))

-- the next cell of a row is put behind its column
pub put_next : (columns now : List Column) (row : List CellRef) (at : ℕ) (column pushed : Column) (d : CellRef) → length columns ≡ length row → at < length row
    → now ≡ widened columns (take at (map cell_seen row)) → column ≡ get_or now at column → pushed ≡ column ++ cell_seen (get_or row at d) ∷ []
    → set now at pushed ≡ widened columns (take (at + 1) (map cell_seen row))
put_next columns now row at column pushed d same h is read put =
    let cells : List Cell = map cell_seen row in
    let short : at < length cells = omega (arith, h, length-map row cell_seen) in
    let within : at < length now = omega (arith, h, same, ap length is, widened_length columns (take at cells)) in
    let before : column ≡ get_or (widened columns (take at cells)) at [] =
    get_or_read now at column within read [] ∙ ap (λ (cs : List Column). get_or cs at []) is in
    let next : cell_seen (get_or row at d) ≡ get_or cells at (cell.Int (pos 0)) = sym (get_or-map cell_seen row at d (cell.Int (pos 0)) h) in
    let same_length : length columns ≡ length cells = omega (arith, same, length-map row cell_seen) in
    let one_more : suc at ≡ at + 1 = omega arith in
    ap₂ (λ (cs : List Column) (c : Column). set cs at c) is (put ∙ ap₂ (λ (c : Column) (y : Cell). c ++ y ∷ []) before next)
    ∙ widened_step columns cells at (cell.Int (pos 0)) short same_length
    ∙ ap (λ (n : ℕ). widened columns (take n cells)) one_more

-- the rows stay where a cell is not put
pub put_none : (columns now : List Column) (cells : List Cell) (at : ℕ) (column pushed : Column) → now ≡ widened columns cells → at < length now
    → column ≡ get_or now at column → pushed ≡ column → (count : ℕ) → HaveRows columns count
    → HaveRows (set now at pushed) count × (rows_over (set now at pushed) count ≡ rows_over columns count)
put_none columns now cells at column pushed is within read stays =
    rows_kept columns (set now at pushed) cells
    (ap (set now at) (stays ∙ get_or_read now at column within read []) ∙ set-get_or now at [] ∙ is)

-- the rows with the next
rows_pushed : (columns : List Column) (cells : List Cell) (count : ℕ) → HaveRows columns count → EndBehind columns count → length columns ≡ length cells
    → rows_over (widened columns cells) (suc count) ≡ rows_over columns count ++ cells ∷ []
rows_pushed columns cells count h ends same =
    ap₂ (λ (rows : List Column) (row : Column). rows ++ row ∷ []) (rows_stay columns cells count h) (next_row columns cells count ends same)

-- the cell of a row over columns
pub cell_over : (columns : List Column) (at column : ℕ) → column < length columns
    → get_or (row_over columns at) column (cell.Int (pos 0)) ≡ get_or (get_or columns column []) at (cell.Int (pos 0))
cell_over columns at column h = get_or-map (λ (cells : Column). get_or cells at (cell.Int (pos 0))) columns column [] (cell.Int (pos 0)) h

-- rows of which the first stand over columns
module _ (columns : List Column) (count : ℕ) (behind seen : List (List Cell)) (view : rows_over columns count ++ behind ≡ seen) where
  pub row_in_columns : (at : ℕ) → at < count → get_or seen at [] ≡ row_over columns at
  row_in_columns at h =
      ap (λ (rows : List (List Cell)). get_or rows at []) (sym view)
      ∙ get_or_append_left (rows_over columns count) behind [] at (omega (arith, h, rows_length columns count))
      ∙ row_at columns count at h

  pub width_in_columns : (at : ℕ) → at < count → length (get_or seen at []) ≡ length columns
  width_in_columns at h = ap length (row_in_columns at h) ∙ row_width columns at

  pub row_behind : (at : ℕ) → count ≤ at → get_or seen at [] ≡ get_or behind (at - count) []
  row_behind at h =
      ap (λ (rows : List (List Cell)). get_or rows at []) (sym view)
      ∙ get_or-append_right (rows_over columns count) behind count at [] (rows_length columns count) h

  pub seen_length : length seen ≡ count + length behind
  seen_length = ap length (sym view) ∙ length-append (rows_over columns count) behind ∙ omega (arith, rows_length columns count)

-- a row that has a cell is there
pub row_there : (rows : List (List Cell)) (row column : ℕ) → column < length (get_or rows row []) → row < length rows
row_there [] row column h = absurd (omega (arith, h))
row_there (r ∷ rs) zero column h = omega arith
row_there (r ∷ rs) (suc row) column h = omega (arith, row_there rs row column h)

none_there : (row : List CellRef) (count : ℕ) → count ≡ 0 → HaveRows (map (λ (c : CellRef). []) row) count × EndBehind (map (λ (c : CellRef). []) row) count
none_there [] count h = (All-nil (λ (column : Column). count ≤ length column), All-nil (λ (column : Column). length column ≡ count))
none_there (c ∷ row) count h =
    let rest = none_there row count h in (
      All-cons (λ (column : Column). count ≤ length column) [] (map (λ (c : CellRef). []) row) (omega (arith, h)) rest.0,
      All-cons (λ (column : Column). length column ≡ count) [] (map (λ (c : CellRef). []) row) (sym h) rest.1,
    )

-- columns without cells, where there is no row
pub no_cells : (columns : List Column) (row : List CellRef) (count : ℕ) → columns ≡ map (λ (c : CellRef). []) row → count ≡ 0 → HaveRows columns count × EndBehind columns count
no_cells columns row count is h = subst (λ (cs : List Column). HaveRows cs count × EndBehind cs count) (sym is) (none_there row count h)

-- rows over columns with the next, and columns that end behind it
pub columns_pushed : (columns now : List Column) (row : List Cell) (count len : ℕ) (behind seen : List (List Cell)) → rows_over columns count ++ behind ≡ seen
    → HaveRows columns count → EndBehind columns count → behind ≡ [] → length columns ≡ length row → now ≡ widened columns row → len ≡ count + 1
    → HaveRows now len × (len ≡ len + length behind) × EndBehind now len × (rows_over now len ++ behind ≡ seen ++ row ∷ [])
columns_pushed columns now row count len behind seen view have ends none same is next =
    let last : len ≡ suc count = omega (arith, next) in
    let end : EndBehind now len = subst (λ (n : ℕ). EndBehind now n) (sym last) (subst (λ (cs : List Column). EndBehind cs (suc count)) (sym is) (end_more columns row count ends same)) in
    let rows : rows_over now len ≡ rows_over columns count ++ row ∷ [] =
    ap₂ rows_over is last ∙ rows_pushed columns row count have ends same in
    let all : rows_over columns count ≡ seen = sym (append-nil (rows_over columns count)) ∙ ap (λ (l : List (List Cell)). rows_over columns count ++ l) (sym none) ∙ view in (
      All-weaker (λ (column : Column). length column ≡ len) (λ (column : Column). len ≤ length column) (λ column e. omega (arith, e)) now end,
      omega (arith, ap length none),
      end,
      ap₂ (λ (l m : List (List Cell)). l ++ m) rows none ∙ append-nil (rows_over columns count ++ row ∷ []) ∙ ap (λ (l : List (List Cell)). l ++ row ∷ []) all,
    )
