-- What an answer tells of the first fault.
use Rattle.std.proofs.Common.{◌≡◌, ℕ, ◌+◌, ◌<◌, List, [], ◌∷◌, ◌++◌, map, length, get_or, drop, refl, sym, ◌∙◌, ap, Option, Some, None, IfSome}
use Rattle.std.proofs.lemmas.List.{drop_more}
use Rattle.std.specs.Option.{option_or}
use Rattle.nq_model.specs.Tables.{Columns, names_of}
use Rattle.nq_model.specs.SchemaTexts.{Fault, WrittenColumn, WrittenTable, column_names, shape_of}
use Rattle.nq_model.specs.declared.table.TableShape.{TableShape}
use Rattle.schema_reader.specs.Shapes.{table_fault, column_fault, key_fault, placed, columns_fault, keys_fault, shape_fault}
use Rattle.schema_reader.specs.Views.{name_view, column_view}
use Rattle.schema_reader.specs.declared.grammar.Name.{Name as CodeName}
use Rattle.schema_reader.specs.declared.grammar.WrittenColumn.{WrittenColumn as CodeColumn}
use Rattle.schema_reader.specs.Answers.{fault_view, Tells, pair_of}
use Rattle.schema_reader.specs.declared.fault.SchemaFault.{SchemaFault}

-- what is told of the first of two is told of both
pub tells_first : (e : SchemaFault) (a later found : Option (Fault × ℕ)) → Tells e a → found ≡ option_or a later → Tells e found
tells_first e a later found h s = go (fault_view e) h
  where
    go : (o : Option (Fault × ℕ)) → IfSome o (λ x. a ≡ Some x) → IfSome o (λ x. found ≡ Some x)
    go None k = tt
    go (Some x) k = s ∙ ap (λ z. option_or z later) k

pub tells_same : (e : SchemaFault) (a found : Option (Fault × ℕ)) → Tells e a → found ≡ a → Tells e found
tells_same e a found h s = go (fault_view e) h
  where
    go : (o : Option (Fault × ℕ)) → IfSome o (λ x. a ≡ Some x) → IfSome o (λ x. found ≡ Some x)
    go None k = tt
    go (Some x) k = s ∙ k

-- what is told at an element of a list is told of the whole list
pub columns_told : (written : List CodeColumn) (i : ℕ) (d : CodeColumn) (names : List (List ℕ)) (e : SchemaFault) → i < length written
    → Tells e (placed (get_or written i d).name.place (column_fault names (column_view (get_or written i d))))
    → columns_fault names (map column_view (drop i written)) ≡ columns_fault [] (map column_view written) → Tells e (columns_fault [] (map column_view written))
columns_told written i d names e l h left =
    let x = column_view (get_or written i d) in
    tells_first e (placed x.name.place (column_fault names x)) (columns_fault (names ++ x.name.text ∷ []) (map column_view (drop (i + 1) written))) _ h
    (sym left ∙ ap (λ z. columns_fault names (map column_view z)) (drop_more written i d l))

pub keys_told : (columns : List (List ℕ)) (written : List CodeName) (i : ℕ) (d : CodeName) (names : List (List ℕ)) (e : SchemaFault) → i < length written
    → Tells e (placed (get_or written i d).place (key_fault columns names (name_view (get_or written i d))))
    → keys_fault columns names (map name_view (drop i written)) ≡ keys_fault columns [] (map name_view written) → Tells e (keys_fault columns [] (map name_view written))
keys_told columns written i d names e l h left =
    let x = name_view (get_or written i d) in
    tells_first e (placed x.place (key_fault columns names x)) (keys_fault columns (names ++ x.text ∷ []) (map name_view (drop (i + 1) written))) _ h
    (sym left ∙ ap (λ z. keys_fault columns names (map name_view z)) (drop_more written i d l))

names-pairs : (columns : List WrittenColumn) → names_of (map pair_of columns) ≡ column_names columns
names-pairs [] = refl
names-pairs (c ∷ cs) = ap (λ z. c.name.text ∷ z) (names-pairs cs)

-- the columns of a table, made of those that were read
pub made_names : (made : Columns) (read written : List CodeColumn) → made ≡ map pair_of (map column_view read) → read ≡ written → names_of made ≡ column_names (map column_view written)
made_names made read written e s = ap names_of e ∙ names-pairs (map column_view read) ∙ ap (λ z. column_names (map column_view z)) s

-- where the name and the columns are right the fault of a table is that of its key
pub shape_left : (names : List (List ℕ)) (t : WrittenTable) → placed t.name.place (table_fault names t) ≡ None → columns_fault [] t.columns ≡ None
    → shape_fault names t ≡ keys_fault (column_names t.columns) [] t.key
shape_left names t a b =
    ap (λ z. option_or z (option_or (columns_fault [] t.columns) (keys_fault (column_names t.columns) [] t.key))) a
    ∙ ap (λ z. option_or z (keys_fault (column_names t.columns) [] t.key)) b

-- a shape, made part by part
pub shape_made : (t : WrittenTable) (name : List ℕ) (columns : Columns) (key : List (List ℕ)) → name ≡ t.name.text → columns ≡ map pair_of t.columns → key ≡ map (λ n. n.text) t.key
    → ◌≡◌ {A = TableShape} (record { name = name; columns = columns; key = key }) (shape_of t)
shape_made t name columns key p q r = λ i. record { name = p i; columns = q i; key = r i }
