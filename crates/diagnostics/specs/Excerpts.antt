-- An excerpt: what is said of a place in a file, the line of the place, and a caret under it.
use Rattle.std.specs.Prelude.{ℕ, ◌-◌, min, List, ◌++◌, length, take, drop, replicate, codes}
use Rattle.std.specs.Fmt.{decimal}
use Rattle.diagnostics.specs.Lines.{line_number, line_of}
use Rattle.diagnostics.specs.Columns.{columns, columns_before, column_number, shown_line}

-- How many columns are left out before those that are shown. The 100 shown columns of a longer line
-- begin 50 before the place; fewer where the line ends or begins within those.
abbrev pub left_out : ℕ → ℕ → ℕ
left_out before all = min (before - 50) (all - 100)

-- the columns that are shown of a line with so many of them before the place
abbrev pub window : ℕ → List (List ℕ) → List (List ℕ)
window before columns = take 100 (drop (left_out before (length columns)) columns)

-- how many columns are shown before the place
abbrev pub caret_at : ℕ → ℕ → ℕ
caret_at before all = before - left_out before all

-- `:` and a number
abbrev pub numbered : ℕ → List ℕ
numbered number = codes ":" ++ decimal number

-- `FILE:LINE:COLUMN: SENTENCE`
unfoldable pub head_text : List ℕ → ℕ → ℕ → List ℕ → List ℕ
head_text file line column sentence =
    file ++ (numbered line ++ (numbered column ++ (codes ": " ++ (sentence ++ codes "\n"))))

-- the line, and the caret under it
unfoldable pub pointed_text : ℕ → List (List ℕ) → List ℕ
pointed_text before columns =
    shown_line (window before columns)
    ++ (codes "\n" ++ (replicate (caret_at before (length columns)) 32 ++ codes "^\n"))

unfoldable pub excerpt_text : List ℕ → List ℕ → ℕ → List ℕ → List ℕ
excerpt_text file text place sentence =
    head_text file (line_number text place) (column_number text place) sentence
    ++ pointed_text (columns_before text place) (columns (line_of text place))
