-- What a typed term means is of the term's type.
use Rattle.std.proofs.Common.{◌≡◌, ℕ, zero, suc, ℤ, pos, ◌+ℤ◌, ◌-ℤ◌, ◌*ℤ◌, neg_ℤ, Bool, true, false, cond, bytes_eq, List, [], ◌∷◌, ◌++◌, map, zip, find, flat_map, length, get_or, slice_get, Some, All, refl, ap, ap₂, sym, ◌∙◌, subst, arith}
use Rattle.std.specs.Cmp.Lexicographic.{nat_list_eq_equiv}
use Rattle.std.specs.Int.{w64}
use Rattle.std.specs.Int.RustNames.{FitsSigned}
use Rattle.std.specs.List.{AllZip, AllByRecursion as Each}
use Rattle.std.specs.Ordering.{is_gt}
use Rattle.std.proofs.lemmas.Int.{wrapping_add_is, wrapping_sub_is, wrapping_mul_is, wrapping_neg_is, SFits-int_wrap}
use Rattle.std.proofs.lemmas.List.Elements.{recursion_from_All}
use Rattle.nq_model.specs.Cells.{RowFits, column_type_of}
use Rattle.nq_model.specs.Databases.{FilledTable, filled, database, rows_value, table_meaning}
use Rattle.nq_model.specs.Meaning.{meaning, field_meanings, cell_of, elements_in, aggregate_value, value_under, field_in, put_field}
use Rattle.nq_model.specs.Operators.{is_true, int_of, unary_value, binary_value, unary_type, binary_type, both_int, both_bool, same_base}
use Rattle.nq_model.specs.Orders.{label_cmp, by_label, AreRising}
use Rattle.nq_model.specs.Proper.{IsNumeral, IsOrdered, AreOrdered, labels_of, IsPlainTerm, ArePlainTerms, IsProperTerm, AreProperTerms}
use Rattle.nq_model.specs.QueryMeaning.{Means}
use Rattle.nq_model.specs.SchemaTables.{IsSound, IsTableOf, AreTablesOf}
use Rattle.nq_model.specs.Tables.{Columns, names_of, types_of, base_type, table_type, table_value, row_record}
use Rattle.nq_model.specs.Terms.{TermTree, TermFields, PlacedTerm, bare, Aggregate, Emptiness, Count, Sum}
use Rattle.nq_model.specs.Types.{TypeTree, FieldTypes, field_types_of}
use Rattle.nq_model.specs.Typing.{HasType, HaveTypes, shape_named, type_at, put_type, aggregate_type}
use Rattle.nq_model.specs.Values.{Nested, Fields, Elements, base, rec, bag, elements, elements_of, fields_of, labels, IsProper, FieldsAreProper, ElementsAreProper}
use Rattle.nq_model.specs.Totals.{whole_sum}
use Rattle.nq_model.specs.ValueTypes.{IsOfType, FieldsAreOfTypes, ElementsAreOfType}
use Rattle.nq_model.specs.declared.table.Cell.{Cell}
use Rattle.nq_model.specs.declared.table.Cell.TheVariants as cell
use Rattle.nq_model.specs.declared.table.ColumnType.{ColumnType}
use Rattle.nq_model.specs.declared.table.ColumnType.TheVariants as column
use Rattle.nq_model.specs.declared.table.Schema.{Schema}
use Rattle.nq_model.specs.declared.table.TableShape.{TableShape}
use Rattle.nq_model.specs.declared.term.Unary.{Unary}
use Rattle.nq_model.specs.declared.term.Unary.TheVariants.{Minus, Not}
use Rattle.nq_model.specs.declared.term.Binary.{Binary}
use Rattle.nq_model.specs.declared.term.Binary.TheVariants.{Add, Sub, Mul, Eq, Ne, Lt, Le, Gt, Ge, And, Or}
use Rattle.nq_model.proofs.Typing.{put_type_list}
use Rattle.nq_model.proofs.Unfolding.{reached_once}

-- a value of a type is of each type that equals it
of_equal : (a k : TypeTree) (v : Nested) → k ≡ a → IsOfType a v → IsOfType k v
of_equal a k v e h = subst (λ b. IsOfType b v) (sym e) h

of_aggregate : (g : Aggregate) (a k : TypeTree) (vs : List Nested) → aggregate_type g a ≡ Some k → IsOfType k (base (aggregate_value g vs))
of_aggregate Emptiness a k vs e = let f : k ≡ TypeTree.bool = cc in of_equal TypeTree.bool k (base (aggregate_value Emptiness vs)) f tt
of_aggregate Count a k vs e = let f : k ≡ TypeTree.int = cc in of_equal TypeTree.int k (base (aggregate_value Count vs)) f (SFits-int_wrap w64 (pos (length vs)))
of_aggregate Sum TypeTree.int k vs e =
    let f : k ≡ TypeTree.int = cc in
    of_equal TypeTree.int k (base (aggregate_value Sum vs)) f (SFits-int_wrap w64 (whole_sum (map int_of (map cell_of vs))))
of_aggregate Sum _ k vs e = absurd (cc)

of_cond : (k : TypeTree) (b : Bool) (v w : Nested) → IsOfType k v → IsOfType k w → IsOfType k (cond b v w)
of_cond k true v w h i = h
of_cond k false v w h i = i

each_cond : {A : Type 0} (P : A → Type 0) (b : Bool) (xs : List A) → Each P xs → Each P (cond b xs [])
each_cond P true xs h = h
each_cond P false xs h = tt

each_both : {A : Type 0} (P : A → Type 0) (xs ys : List A) → Each P xs → Each P ys → Each P (xs ++ ys)
each_both P [] ys h i = i
each_both P (x ∷ xs) ys h i = (h.0, each_both P xs ys h.1 i)

each_flat : {A B : Type 0} (P : A → Type 0) (Q : B → Type 0) (f : A → List B) → ((x : A) → P x → Each Q (f x)) → (xs : List A) → Each P xs → Each Q (flat_map f xs)
each_flat P Q f g [] h = tt
each_flat P Q f g (x ∷ xs) h = each_both Q (f x) (flat_map f xs) (g x h.0) (each_flat P Q f g xs h.1)

of_elements : (a : TypeTree) (vs : List Nested) → Each (IsOfType a) vs → ElementsAreOfType a (elements_of vs)
of_elements a [] h = tt
of_elements a (v ∷ vs) h = (h.0, of_elements a vs h.1)

elements_are : (a : TypeTree) (vs : Elements) → ElementsAreOfType a vs → Each (IsOfType a) (elements vs)
elements_are a Elements.end h = tt
elements_are a (Elements.more v vs) h = (h.0, elements_are a vs h.1)

each_element : (a : TypeTree) (v : Nested) → IsOfType (TypeTree.bag a) v → Each (IsOfType a) (elements_in v)
each_element a (base c) h = absurd h
each_element a (rec fs) h = absurd h
each_element a (bag vs) h = elements_are a vs h

-- 1. Cells and operators.

numeral_fits : (n : ℤ) → IsNumeral n → FitsSigned w64 n
numeral_fits n h =
    let small = h.small in
    let fits : FitsSigned w64 (pos h.digits) = record { sfits = omega arith } in
    subst (FitsSigned w64) (sym h.value) fits

of_cell : (c : Cell) → IsSound c → IsOfType (base_type (column_type_of c)) (base c)
of_cell (cell.Int n) h = h
of_cell (cell.Bool b) h = tt
of_cell (cell.Text t) h = tt

int_within : (v : Nested) → IsOfType TypeTree.int v → FitsSigned w64 (int_of (cell_of v))
int_within (base (cell.Int n)) h = h
int_within (base (cell.Bool b)) h = absurd h
int_within (base (cell.Text t)) h = absurd h
int_within (rec fs) h = absurd h
int_within (bag vs) h = absurd h

-- a value of the type that an operator gives
given : (v : Nested) (a b : ColumnType) → Some a ≡ Some b → IsOfType (base_type a) v → IsOfType (base_type b) v
given v a b e h = let same : a ≡ b = cc in subst (λ c. IsOfType (base_type c) v) same h

of_unary : (op : Unary) (a b : ColumnType) (v : Nested) → unary_type op a ≡ Some b → IsOfType (base_type a) v → IsOfType (base_type b) (base (unary_value op (cell_of v)))
of_unary Minus column.Int b v e h =
    given (base (unary_value Minus (cell_of v))) column.Int b e (subst (FitsSigned w64) (sym (wrapping_neg_is w64 (int_of (cell_of v)) (int_within v h))) (SFits-int_wrap w64 (neg_ℤ (int_of (cell_of v)))))
of_unary Minus column.Bool b v e h = absurd (cc)
of_unary Minus column.Text b v e h = absurd (cc)
of_unary Not column.Int b v e h = absurd (cc)
of_unary Not column.Bool b v e h = given (base (unary_value Not (cell_of v))) column.Bool b e tt
of_unary Not column.Text b v e h = absurd (cc)

fits_add : (m n : ℤ) → FitsSigned w64 m → FitsSigned w64 n → IsOfType TypeTree.int (base (binary_value Add (cell.Int m) (cell.Int n)))
fits_add m n h i = subst (FitsSigned w64) (sym (wrapping_add_is w64 m n h i)) (SFits-int_wrap w64 (m +ℤ n))

fits_sub : (m n : ℤ) → FitsSigned w64 m → FitsSigned w64 n → IsOfType TypeTree.int (base (binary_value Sub (cell.Int m) (cell.Int n)))
fits_sub m n h i = subst (FitsSigned w64) (sym (wrapping_sub_is w64 m n h i)) (SFits-int_wrap w64 (m -ℤ n))

fits_mul : (m n : ℤ) → FitsSigned w64 m → FitsSigned w64 n → IsOfType TypeTree.int (base (binary_value Mul (cell.Int m) (cell.Int n)))
fits_mul m n h i = subst (FitsSigned w64) (sym (wrapping_mul_is w64 m n h i)) (SFits-int_wrap w64 (m *ℤ n))

module _ (v w : Nested) where
  abbrev Gives : Binary → ColumnType → ColumnType → Type 0
  Gives op a b = (c : ColumnType) → binary_type op a b ≡ Some c → IsOfType (base_type a) v → IsOfType (base_type b) w → IsOfType (base_type c) (base (binary_value op (cell_of v) (cell_of w)))

  -- arithmetic gives ints within 64 bits
  arithmetic : (op : Binary) → ((m n : ℤ) → FitsSigned w64 m → FitsSigned w64 n → IsOfType TypeTree.int (base (binary_value op (cell.Int m) (cell.Int n))))
      → (c : ColumnType) → Some column.Int ≡ Some c → IsOfType TypeTree.int v → IsOfType TypeTree.int w → IsOfType (base_type c) (base (binary_value op (cell_of v) (cell_of w)))
  arithmetic op fits c e h i = given (base (binary_value op (cell_of v) (cell_of w))) column.Int c e (at_ints v w h i)
    where
      at_ints : (v w : Nested) → IsOfType TypeTree.int v → IsOfType TypeTree.int w → IsOfType TypeTree.int (base (binary_value op (cell_of v) (cell_of w)))
      at_ints (base (cell.Int m)) (base (cell.Int n)) h i = fits m n h i
      at_ints (base (cell.Int m)) (base (cell.Bool b)) h i = absurd i
      at_ints (base (cell.Int m)) (base (cell.Text t)) h i = absurd i
      at_ints (base (cell.Int m)) (rec fs) h i = absurd i
      at_ints (base (cell.Int m)) (bag vs) h i = absurd i
      at_ints (base (cell.Bool b)) w h i = absurd h
      at_ints (base (cell.Text t)) w h i = absurd h
      at_ints (rec fs) w h i = absurd h
      at_ints (bag vs) w h i = absurd h

  ints_only : (op : Binary) → ((a b : ColumnType) → binary_type op a b ≡ both_int a b) → Gives op column.Int column.Int → (a b : ColumnType) → Gives op a b
  ints_only op is gives column.Int column.Int c e h i = gives c e h i
  ints_only op is gives column.Int column.Bool c e h i = let f = sym (is column.Int column.Bool) ∙ e in absurd (cc)
  ints_only op is gives column.Int column.Text c e h i = let f = sym (is column.Int column.Text) ∙ e in absurd (cc)
  ints_only op is gives column.Bool b c e h i = let f = sym (is column.Bool b) ∙ e in absurd (cc)
  ints_only op is gives column.Text b c e h i = let f = sym (is column.Text b) ∙ e in absurd (cc)

  compared : (a b c : ColumnType) (r : Bool) → same_base a b ≡ Some c → IsOfType (base_type c) (base (cell.Bool r))
  compared column.Int column.Int c r e = given (base (cell.Bool r)) column.Bool c e tt
  compared column.Bool column.Bool c r e = given (base (cell.Bool r)) column.Bool c e tt
  compared column.Text column.Text c r e = given (base (cell.Bool r)) column.Bool c e tt
  compared column.Int column.Bool c r e = absurd (cc)
  compared column.Int column.Text c r e = absurd (cc)
  compared column.Bool column.Int c r e = absurd (cc)
  compared column.Bool column.Text c r e = absurd (cc)
  compared column.Text column.Int c r e = absurd (cc)
  compared column.Text column.Bool c r e = absurd (cc)

  joined : (a b c : ColumnType) (r : Bool) → both_bool a b ≡ Some c → IsOfType (base_type c) (base (cell.Bool r))
  joined column.Bool column.Bool c r e = given (base (cell.Bool r)) column.Bool c e tt
  joined column.Int b c r e = absurd (cc)
  joined column.Text b c r e = absurd (cc)
  joined column.Bool column.Int c r e = absurd (cc)
  joined column.Bool column.Text c r e = absurd (cc)

  of_binary : (op : Binary) (a b : ColumnType) → Gives op a b
  of_binary Add a b c e h i = ints_only Add (λ x y. refl) (arithmetic Add fits_add) a b c e h i
  of_binary Sub a b c e h i = ints_only Sub (λ x y. refl) (arithmetic Sub fits_sub) a b c e h i
  of_binary Mul a b c e h i = ints_only Mul (λ x y. refl) (arithmetic Mul fits_mul) a b c e h i
  of_binary Eq a b c e h i = compared a b c (is_true (binary_value Eq (cell_of v) (cell_of w))) e
  of_binary Ne a b c e h i = compared a b c (is_true (binary_value Ne (cell_of v) (cell_of w))) e
  of_binary Lt a b c e h i = compared a b c (is_true (binary_value Lt (cell_of v) (cell_of w))) e
  of_binary Le a b c e h i = compared a b c (is_true (binary_value Le (cell_of v) (cell_of w))) e
  of_binary Gt a b c e h i = compared a b c (is_true (binary_value Gt (cell_of v) (cell_of w))) e
  of_binary Ge a b c e h i = compared a b c (is_true (binary_value Ge (cell_of v) (cell_of w))) e
  of_binary And a b c e h i = joined a b c (is_true (binary_value And (cell_of v) (cell_of w))) e
  of_binary Or a b c e h i = joined a b c (is_true (binary_value Or (cell_of v) (cell_of w))) e

-- 2. Records and tables.

-- a field put among fields, in a type and in a value alike
of_put : (l : List ℕ) (k : TypeTree) (v : Nested) (ts : FieldTypes) (fs : List (List ℕ × Nested)) → IsOfType k v → FieldsAreOfTypes ts (fields_of fs)
    → FieldsAreOfTypes (put_type l k ts) (fields_of (put_field l v fs))
of_put l k v FieldTypes.none [] h all = (refl, h, tt)
of_put l k v FieldTypes.none (f ∷ fs) h all = absurd all
of_put l k v (FieldTypes.field m j ts) [] h all = absurd all
of_put l k v (FieldTypes.field m j ts) (f ∷ fs) h all =
    subst (λ n. FieldsAreOfTypes (put_type l k (FieldTypes.field m j ts)) (fields_of (cond (is_gt (label_cmp l n)) (f ∷ put_field l v fs) ((l, v) ∷ f ∷ fs)))) all.0
    (by (is_gt (label_cmp l m)) (of_put l k v ts fs h all.2))
  where
    by : (b : Bool) → FieldsAreOfTypes (put_type l k ts) (fields_of (put_field l v fs))
        → FieldsAreOfTypes (cond b (FieldTypes.field m j (put_type l k ts)) (FieldTypes.field l k (FieldTypes.field m j ts))) (fields_of (cond b (f ∷ put_field l v fs) ((l, v) ∷ f ∷ fs)))
    by true later = (all.0, all.1, later)
    by false later = (refl, h, all)

turned : (a b : List ℕ) → bytes_eq a b ≡ bytes_eq b a
turned a b = nat_list_eq_equiv.symm a b

of_field : (l : List ℕ) (ts : FieldTypes) (fs : Fields) (k : TypeTree) → FieldsAreOfTypes ts fs → type_at l ts ≡ Some k → IsOfType k (value_under l fs)
of_field l FieldTypes.none fs k all e = absurd (cc)
of_field l (FieldTypes.field m j ts) Fields.none k all e = absurd all
of_field l (FieldTypes.field m j ts) (Fields.field n v fs) k all e =
    let same : bytes_eq l m ≡ bytes_eq n l = turned l m ∙ ap (λ x. bytes_eq x l) all.0 in
    by (bytes_eq l m) (bytes_eq n l) same e (of_field l ts fs k all.2)
  where
    by : (b c : Bool) → b ≡ c → cond b (Some j) (type_at l ts) ≡ Some k → (type_at l ts ≡ Some k → IsOfType k (value_under l fs)) → IsOfType k (cond c v (value_under l fs))
    by true true s found later = let is : j ≡ k = cc in subst (λ x. IsOfType x v) is all.1
    by true false s found later = absurd (cc)
    by false true s found later = absurd (cc)
    by false false s found later = later found

of_record : (l : List ℕ) (ts : FieldTypes) (v : Nested) (k : TypeTree) → IsOfType (TypeTree.rec ts) v → type_at l ts ≡ Some k → IsOfType k (field_in l v)
of_record l ts (base c) k h e = absurd h
of_record l ts (rec fs) k h e = of_field l ts fs k h e
of_record l ts (bag vs) k h e = absurd h

abbrev column_fields : Columns → FieldTypes
column_fields columns = field_types_of (by_label (map (λ column. (column.0, base_type column.1)) columns))

of_row : (columns : Columns) (row : List Cell) → RowFits (types_of columns) row → Each IsSound row
    → FieldsAreOfTypes (column_fields columns) (fields_of (by_label (zip (names_of columns) (map base row))))
of_row [] row fit sound = tt
of_row (c ∷ columns) [] fit sound = absurd (cc)
of_row (c ∷ columns) (x ∷ row) fit sound =
    let typed : column_type_of x ≡ c.1 = cc in
    let later : RowFits (types_of columns) row = cc in
    let here : IsOfType (base_type c.1) (base x) = subst (λ T. IsOfType (base_type T) (base x)) typed (of_cell x sound.0) in
    subst (λ ts. FieldsAreOfTypes ts (fields_of (put_field c.0 (base x) (by_label (zip (names_of columns) (map base row))))))
    (sym (put_type_list c.0 (base_type c.1) (by_label (map (λ column. (column.0, base_type column.1)) columns))))
    (of_put c.0 (base_type c.1) (base x) (column_fields columns) (by_label (zip (names_of columns) (map base row))) here (of_row columns row later sound.1))

each_row : (columns : Columns) (rows : List (List Cell)) → Each (RowFits (types_of columns)) rows → Each (All IsSound) rows
    → Each (IsOfType (TypeTree.rec (column_fields columns))) (map (row_record (names_of columns)) rows)
each_row columns [] fit sound = tt
each_row columns (row ∷ rows) fit sound =
    (of_row columns row fit.0 (recursion_from_All IsSound row sound.0), each_row columns rows fit.1 sound.1)

of_table : (shape : TableShape) (rows : List (List Cell)) → IsTableOf shape rows → IsOfType (table_type shape.columns) (table_value shape.columns rows)
of_table shape rows h =
    of_elements (TypeTree.rec (column_fields shape.columns)) (map (row_record (names_of shape.columns)) rows)
    (each_row shape.columns rows (recursion_from_All (RowFits (types_of shape.columns)) rows h.fit) (recursion_from_All (All IsSound) rows h.sound))

of_database : (shapes : List TableShape) (tables : List (List (List Cell))) → AreTablesOf shapes tables → (name : List ℕ) (shape : TableShape)
    → shape_named name shapes ≡ Some shape → IsOfType (table_type shape.columns) (table_meaning (database shapes tables) name)
of_database [] tables held name shape e = absurd (cc)
of_database (s ∷ shapes) [] held name shape e = absurd held
of_database (s ∷ shapes) (rows ∷ tables) held name shape e =
    by (bytes_eq name s.name) (bytes_eq s.name name) (turned name s.name) e (of_database shapes tables held.1 name shape)
  where
    by : (b c : Bool) → b ≡ c → cond b (Some s) (shape_named name shapes) ≡ Some shape
        → (shape_named name shapes ≡ Some shape → IsOfType (table_type shape.columns) (table_meaning (database shapes tables) name))
        → IsOfType (table_type shape.columns) (rows_value (cond c (Some (filled s rows)) (find (λ table. bytes_eq table.name name) (database shapes tables))))
    by true true same found later = let is : s ≡ shape = cc in subst (λ (z : TableShape). IsOfType (table_type z.columns) (table_value s.columns rows)) is (of_table s rows held.0)
    by true false same found later = absurd (cc)
    by false true same found later = absurd (cc)
    by false false same found later = later found

-- 3. Terms.

of_variable : (context : List TypeTree) (env : List Nested) → AllZip IsOfType context env → (n : ℕ) (k : TypeTree) → slice_get context n ≡ Some k → IsOfType k (get_or env n (base (cell.Bool false)))
of_variable [] env all n k e = absurd (cc)
of_variable (a ∷ context) [] all n k e = absurd all
of_variable (a ∷ context) (v ∷ env) all zero k e = let is : a ≡ k = cc in subst (λ x. IsOfType x v) is all.0
of_variable (a ∷ context) (v ∷ env) all (suc n) k e = of_variable context env all.1 n k e

module _ (schema : Schema) (tables : List FilledTable)
    (held : (name : List ℕ) (shape : TableShape) → shape_named name schema.tables ≡ Some shape → IsOfType (table_type shape.columns) (table_meaning tables name)) where
  mutual
    of_term : (context : List TypeTree) (env : List Nested) → AllZip IsOfType context env → (t : TermTree) (k : TypeTree)
        → IsProperTerm t → IsPlainTerm t → HasType schema context t k → IsOfType k (meaning tables env t)
    of_term context env all (TermTree.var n) k p q h = of_variable context env all n k h
    of_term context env all (TermTree.int n) k p q h = of_equal TypeTree.int k (base (cell.Int n)) h (numeral_fits n p)
    of_term context env all (TermTree.bool b) k p q h = of_equal TypeTree.bool k (base (cell.Bool b)) h tt
    of_term context env all (TermTree.text t) k p q h = of_equal TypeTree.text k (base (cell.Text t)) h tt
    of_term context env all (TermTree.table l) k p q h = of_equal (table_type h.0.columns) k (table_meaning tables l) h.2 (held l h.0 h.1)
    of_term context env all (TermTree.unary op t) k p q h =
        of_equal (base_type h.1) k (meaning tables env (TermTree.unary op t)) h.4 (of_unary op h.0 h.1 (meaning tables env t) h.3 (of_term context env all t (base_type h.0) p q h.2))
    of_term context env all (TermTree.binary op t u) k p q h =
        of_equal (base_type h.2) k (meaning tables env (TermTree.binary op t u)) h.6 (of_binary (meaning tables env t) (meaning tables env u) op h.0 h.1 h.2 h.5
        (of_term context env all t (base_type h.0) p.0 q.0 h.3) (of_term context env all u (base_type h.1) p.1 q.1 h.4))
    of_term context env all (TermTree.choose x t u) k p q h =
        of_cond k (is_true (cell_of (meaning tables env x))) (meaning tables env t) (meaning tables env u)
        (of_term context env all t k p.1 q.1 h.1) (of_term context env all u k p.2 q.2 h.2)
    of_term context env all (TermTree.fun a t) k p q h = absurd q
    of_term context env all (TermTree.apply t u) k p q h = absurd q
    of_term context env all (TermTree.rec fs) k p q h = of_equal (TypeTree.rec h.0) k (meaning tables env (TermTree.rec fs)) h.2 (of_fields context env all fs h.0 p.1 q h.1)
    of_term context env all (TermTree.field t l) k p q h =
        of_record l h.0 (meaning tables env t) k (of_term context env all t (TypeTree.rec h.0) p.0 q h.1) h.2
    of_term context env all (TermTree.aggregate g t) k p q h = of_aggregate g h.0 k (elements_in (meaning tables env t)) h.2
    of_term context env all (TermTree.single t) k p q h = of_equal (TypeTree.bag h.0) k (meaning tables env (TermTree.single t)) h.3 (of_term context env all t h.0 p q h.1, tt)
    of_term context env all (TermTree.nil a) k p q h = of_equal (TypeTree.bag a) k (meaning tables env (TermTree.nil a)) h.1 tt
    of_term context env all (TermTree.union t u) k p q h =
        let left = each_element h.0 (meaning tables env t) (of_equal k (TypeTree.bag h.0) (meaning tables env t) (sym h.1) (of_term context env all t k p.0 q.0 h.2)) in
        let right = each_element h.0 (meaning tables env u) (of_equal k (TypeTree.bag h.0) (meaning tables env u) (sym h.1) (of_term context env all u k p.1 q.1 h.3)) in
        of_equal (TypeTree.bag h.0) k (meaning tables env (TermTree.union t u)) h.1 (of_elements h.0 _ (each_both (IsOfType h.0) (elements_in (meaning tables env t)) (elements_in (meaning tables env u)) left right))
    of_term context env all (TermTree.for t u) k p q h =
        let source = each_element h.0 (meaning tables env t) (of_term context env all t (TypeTree.bag h.0) p.0 q.0 h.2) in
        let body = λ (v : Nested) (i : IsOfType h.0 v).
        each_element h.1 (meaning tables (v ∷ env) u) (of_equal k (TypeTree.bag h.1) (meaning tables (v ∷ env) u) (sym h.4) (of_term (h.0 ∷ context) (v ∷ env) (i, all) u k p.1 q.1 h.3)) in
        of_equal (TypeTree.bag h.1) k (meaning tables env (TermTree.for t u)) h.4 (of_elements h.1 _ (each_flat (IsOfType h.0) (IsOfType h.1) (λ v. elements_in (meaning tables (v ∷ env) u)) body (elements_in (meaning tables env t)) source))
    of_term context env all (TermTree.guard x u) k p q h =
        let body = each_element h.0 (meaning tables env u) (of_equal k (TypeTree.bag h.0) (meaning tables env u) (sym h.3) (of_term context env all u k p.1 q.1 h.2)) in
        of_equal (TypeTree.bag h.0) k (meaning tables env (TermTree.guard x u)) h.3 (of_elements h.0 _ (each_cond (IsOfType h.0) (is_true (cell_of (meaning tables env x))) (elements_in (meaning tables env u)) body))
    of_term context env all (TermTree.bind t u) k p q h = absurd q

    of_fields : (context : List TypeTree) (env : List Nested) → AllZip IsOfType context env → (fs : TermFields) (ts : FieldTypes)
        → AreProperTerms fs → ArePlainTerms fs → HaveTypes schema context fs ts → FieldsAreOfTypes ts (fields_of (field_meanings tables env fs))
    of_fields context env all TermFields.none ts p q h = subst (λ x. FieldsAreOfTypes x Fields.none) (sym h) tt
    of_fields context env all (TermFields.with_field l t fs) ts p q h =
        subst (λ x. FieldsAreOfTypes x (fields_of (put_field l (meaning tables env t) (field_meanings tables env fs)))) (sym h.4)
        (of_put l h.0 (meaning tables env t) h.1 (field_meanings tables env fs) (of_term context env all t h.0 p.1 q.0 h.2) (of_fields context env all fs h.1 p.2 q.1 h.3))

pub typed_meaning : (schema : Schema) (tables : List (List (List Cell))) → AreTablesOf schema.tables tables → (context : List TypeTree) (env : List Nested)
    → AllZip IsOfType context env → (t : TermTree) (a : TypeTree) → IsProperTerm t → IsPlainTerm t → HasType schema context t a
    → IsOfType a (meaning (database schema.tables tables) env t)
typed_meaning schema tables held context env all t a p q h =
    of_term schema (database schema.tables tables) (of_database schema.tables tables held) context env all t a p q h

-- 4. Labels.

same_labels : (ts : FieldTypes) (fs : Fields) → FieldsAreOfTypes ts fs → labels_of ts ≡ labels fs
same_labels FieldTypes.none Fields.none h = refl
same_labels FieldTypes.none (Fields.field m v fs) h = absurd h
same_labels (FieldTypes.field l t ts) Fields.none h = absurd h
same_labels (FieldTypes.field l t ts) (Fields.field m v fs) h = ap₂ (λ (x : List ℕ) (xs : List (List ℕ)). x ∷ xs) h.0 (same_labels ts fs h.2)

mutual
  pub proper_value : (a : TypeTree) (v : Nested) → IsOrdered a → IsOfType a v → IsProper v
  proper_value a (base c) o h = tt
  proper_value (TypeTree.rec ts) (rec fs) o h = (subst AreRising (same_labels ts fs h) o.0, proper_fields ts fs o.1 h)
  proper_value (TypeTree.bag t) (bag vs) o h = proper_elements t vs o h
  proper_value a v o h = absurd h

  proper_fields : (ts : FieldTypes) (fs : Fields) → AreOrdered ts → FieldsAreOfTypes ts fs → FieldsAreProper fs
  proper_fields FieldTypes.none Fields.none o h = tt
  proper_fields (FieldTypes.field l t ts) (Fields.field m v fs) o h = (proper_value t v o.0 h.1, proper_fields ts fs o.1 h.2)
  proper_fields ts fs o h = absurd h

  proper_elements : (t : TypeTree) (vs : Elements) → IsOrdered t → ElementsAreOfType t vs → ElementsAreProper vs
  proper_elements t Elements.end o h = tt
  proper_elements t (Elements.more v vs) o h = (proper_value t v o h.0, proper_elements t vs o h.1)

-- a query means one value at most
pub one_meaning : (tables : List FilledTable) (query : PlacedTerm) (v w : Nested) → Means tables query v → Means tables query w → v ≡ w
one_meaning tables query v w m n = m.is ∙ ap (λ t. meaning tables [] (bare t)) (reached_once m.unfolds n.unfolds) ∙ sym n.is
