-- What a plain term means over tables: a nested multiset, as a list in some order.
--
-- After Cheney, Lindley and Wadler, "Query Shredding", SIGMOD 2014. A term that is not typed has a meaning
-- too, which no clause rests on: a value of the wrong kind counts as false, as no field or as no element.
use Rattle.std.specs.Prelude.{ℕ, Bool, true, false, cond, List, [], ◌∷◌, ◌++◌, map, flat_map, get_or}
use Rattle.std.specs.Str.{bytes_eq}
use Rattle.nq_model.specs.Databases.{FilledTable, table_meaning}
use Rattle.nq_model.specs.Operators.{is_true, unary_value, binary_value}
use Rattle.nq_model.specs.Orders.{label_cmp, put_by}
use Rattle.nq_model.specs.Terms.{TermTree, TermFields, Aggregate, Emptiness, Count, Sum}
use Rattle.nq_model.specs.Totals.{count_of, sum_of}
use Rattle.nq_model.specs.Values.{Nested, base, rec, bag, Fields, elements, bag_of, rec_of}
use Rattle.nq_model.specs.declared.table.Cell.{Cell}
use Rattle.nq_model.specs.declared.table.Cell.TheVariants as cell

-- the value of a base type that a value is
abbrev pub cell_of : Nested → Cell
cell_of (base c) = c
cell_of (rec fs) = cell.Bool false
cell_of (bag vs) = cell.Bool false

-- the elements of a bag
abbrev pub elements_in : Nested → List Nested
elements_in (base c) = []
elements_in (rec fs) = []
elements_in (bag vs) = elements vs

abbrev pub value_under : List ℕ → Fields → Nested
value_under label Fields.none = base (cell.Bool false)
value_under label (Fields.field l v fs) = cond (bytes_eq l label) v (value_under label fs)

-- the value of a record's field
abbrev pub field_in : List ℕ → Nested → Nested
field_in label (base c) = base (cell.Bool false)
field_in label (rec fs) = value_under label fs
field_in label (bag vs) = base (cell.Bool false)

-- a field put into a record, in the byte order of the labels
abbrev pub put_field : List ℕ → Nested → List (List ℕ × Nested) → List (List ℕ × Nested)
put_field label value fields = put_by (λ f g. label_cmp f.0 g.0) (label, value) fields

abbrev pub is_none : {A : Type 0} → List A → Bool
is_none [] = true
is_none (x ∷ xs) = false

-- what is asked of the elements of a bag
abbrev pub aggregate_value : Aggregate → List Nested → Cell
aggregate_value Emptiness vs = cell.Bool (is_none vs)
aggregate_value Count vs = cell.Int (count_of vs)
aggregate_value Sum vs = cell.Int (sum_of (map cell_of vs))

-- The meaning over tables, where the variables have these values, the innermost first.
module _ (tables : List FilledTable) where
  abbrev mutual
    pub meaning : List Nested → TermTree → Nested
    meaning env (TermTree.var k) = get_or env k (base (cell.Bool false))
    meaning env (TermTree.int n) = base (cell.Int n)
    meaning env (TermTree.bool b) = base (cell.Bool b)
    meaning env (TermTree.text t) = base (cell.Text t)
    meaning env (TermTree.table name) = table_meaning tables name
    meaning env (TermTree.unary op t) = base (unary_value op (cell_of (meaning env t)))
    meaning env (TermTree.binary op t u) = base (binary_value op (cell_of (meaning env t)) (cell_of (meaning env u)))
    meaning env (TermTree.choose t u v) = cond (is_true (cell_of (meaning env t))) (meaning env u) (meaning env v)
    meaning env (TermTree.rec fields) = rec_of (field_meanings env fields)
    meaning env (TermTree.field t label) = field_in label (meaning env t)
    meaning env (TermTree.aggregate g t) = base (aggregate_value g (elements_in (meaning env t)))
    meaning env (TermTree.single t) = bag_of (meaning env t ∷ [])
    meaning env (TermTree.nil type) = bag_of []
    meaning env (TermTree.union t u) = bag_of (elements_in (meaning env t) ++ elements_in (meaning env u))
    meaning env (TermTree.for t u) =
        bag_of (flat_map (λ v. elements_in (meaning (v ∷ env) u)) (elements_in (meaning env t)))
    meaning env (TermTree.guard t u) = bag_of (cond (is_true (cell_of (meaning env t))) (elements_in (meaning env u)) [])
    -- these stand in no plain term
    meaning env (TermTree.fun taken t) = base (cell.Bool false)
    meaning env (TermTree.apply t u) = base (cell.Bool false)
    meaning env (TermTree.bind t u) = base (cell.Bool false)

    pub field_meanings : List Nested → TermFields → List (List ℕ × Nested)
    field_meanings env TermFields.none = []
    field_meanings env (TermFields.with_field label t fields) = put_field label (meaning env t) (field_meanings env fields)
