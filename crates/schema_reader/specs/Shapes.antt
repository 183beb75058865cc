-- The first fault of written tables, name by name.
use Rattle.std.specs.Prelude.{ℕ, ◌∷◌, ◌++◌, Bool, ◌&&◌, ◌||◌, ◌==◌, nat_lt, not, if◌then◌else◌, List, [], length, Option, Some, None}
use Rattle.std.specs.Option.{option_map, option_or}
use Rattle.std.specs.List.{list_any}
use Rattle.std.specs.Str.{bytes_eq}
use Rattle.nq_model.specs.SchemaTexts.{Name, WrittenColumn, WrittenTable, Fault, column_names}

-- whether the names have this one
abbrev pub has : List (List ℕ) → List ℕ → Bool
has names w = list_any (λ n. bytes_eq n w) names

-- whether this is the 65th name, or has more than 64 bytes
abbrev pub is_over : List (List ℕ) → List ℕ → Bool
is_over names w = length names == 64 || nat_lt 64 (length w)

-- the first fault of a table's name, behind tables of these names
abbrev pub table_fault : List (List ℕ) → WrittenTable → Option Fault
table_fault names t = if has names t.name.text then Some Fault.twice_table
    else (if length t.columns == 0 then Some Fault.no_column
    else (if is_over names t.name.text then Some Fault.over_limit else None))

-- the first fault of a column's name, behind columns of these names
abbrev pub column_fault : List (List ℕ) → WrittenColumn → Option Fault
column_fault names c = if has names c.name.text then Some Fault.twice_column
    else (if is_over names c.name.text then Some Fault.over_limit else None)

-- the fault of a key's word, in a table of these columns and behind these words
abbrev pub key_fault : List (List ℕ) → List (List ℕ) → Name → Option Fault
key_fault columns names n = if has columns n.text && not (has names n.text) then None else Some Fault.key_column

-- the fault, if there is one, with its place
abbrev pub placed : ℕ → Option Fault → Option (Fault × ℕ)
placed place fault = option_map (λ f. (f, place)) fault

-- the first fault of the elements, the first of which stands behind these names
abbrev pub first_fault : {A : Type 0} → (A → Name) → (List (List ℕ) → A → Option Fault) → List (List ℕ) → List A → Option (Fault × ℕ)
first_fault name fault names [] = None
first_fault name fault names (x ∷ xs) =
    option_or (placed (name x).place (fault names x)) (first_fault name fault (names ++ (name x).text ∷ []) xs)

-- the first fault of columns, behind columns of these names
abbrev pub columns_fault : List (List ℕ) → List WrittenColumn → Option (Fault × ℕ)
columns_fault = first_fault (λ c. c.name) column_fault

-- the first fault of a key's words, in a table of these columns and behind these words
abbrev pub keys_fault : List (List ℕ) → List (List ℕ) → List Name → Option (Fault × ℕ)
keys_fault columns = first_fault (λ n. n) (key_fault columns)

-- the first fault of a table, behind tables of these names
abbrev pub shape_fault : List (List ℕ) → WrittenTable → Option (Fault × ℕ)
shape_fault names t =
    option_or (placed t.name.place (table_fault names t))
    (option_or (columns_fault [] t.columns) (keys_fault (column_names t.columns) [] t.key))

-- the first fault of tables, behind tables of these names
abbrev pub tables_fault : List (List ℕ) → List WrittenTable → Option (Fault × ℕ)
tables_fault names [] = None
tables_fault names (t ∷ ts) = option_or (shape_fault names t) (tables_fault (names ++ t.name.text ∷ []) ts)
