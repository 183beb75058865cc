-- The traced meaning of a plain term: each element with the names of the rows that made it.
--
-- After Fehrenbach and Cheney, "Language-integrated provenance", PPDP 2016, where this is lineage;
-- here it is that of each element at each depth, by the rows that its own generators took. It is
-- the meaning but for `table`, which names each row; `[M]`, which names none; and `for`, whose rows
-- stand before those of its body, the outermost first. What is asked of the elements of a bag is
-- asked of their values.
use Rattle.std.specs.Prelude.{ℕ, suc, pos, false, List, [], ◌∷◌, ◌++◌, map, flat_map, get_or, cond}
use Rattle.nq_model.specs.Databases.{FilledTable, table_meaning}
use Rattle.nq_model.specs.Meaning.{cell_of, elements_in, field_in, put_field, aggregate_value}
use Rattle.nq_model.specs.NamedRows.{Label}
use Rattle.nq_model.specs.Operators.{is_true, unary_value, binary_value}
use Rattle.nq_model.specs.Terms.{TermTree, TermFields}
use Rattle.nq_model.specs.Values.{Nested, base, bag_of, rec_of}
use Rattle.nq_model.specs.declared.table.Cell.TheVariants as cell
use Rattle.traced_meaning.specs.TracedValues.{element_of, value_part, rows_part, rows_value, names_in, with_rows}

-- rows of a table as elements, numbered from this number on
abbrev pub traced_rows : Label → ℕ → List Nested → List Nested
traced_rows table n [] = []
traced_rows table n (v ∷ vs) =
    element_of v (rows_value ((table, pos n) ∷ [])) ∷ traced_rows table (suc n) vs

-- each row of a table as a record, with its own name
abbrev pub traced_table : List FilledTable → Label → Nested
traced_table tables name = bag_of (traced_rows name 1 (elements_in (table_meaning tables name)))

-- The traced meaning over tables, where the variables have these values, the innermost first.
module _ (tables : List FilledTable) where
  abbrev mutual
    pub trace : List Nested → TermTree → Nested
    trace env (TermTree.var k) = get_or env k (base (cell.Bool false))
    trace env (TermTree.int n) = base (cell.Int n)
    trace env (TermTree.bool b) = base (cell.Bool b)
    trace env (TermTree.text t) = base (cell.Text t)
    trace env (TermTree.table name) = traced_table tables name
    trace env (TermTree.unary op t) = base (unary_value op (cell_of (trace env t)))
    trace env (TermTree.binary op t u) =
        base (binary_value op (cell_of (trace env t)) (cell_of (trace env u)))
    trace env (TermTree.choose t u v) =
        cond (is_true (cell_of (trace env t))) (trace env u) (trace env v)
    trace env (TermTree.rec fields) = rec_of (trace_fields env fields)
    trace env (TermTree.field t label) = field_in label (trace env t)
    trace env (TermTree.aggregate g t) =
        base (aggregate_value g (map value_part (elements_in (trace env t))))
    trace env (TermTree.single t) = bag_of (element_of (trace env t) (rows_value []) ∷ [])
    trace env (TermTree.nil type) = bag_of []
    trace env (TermTree.union t u) = bag_of (elements_in (trace env t) ++ elements_in (trace env u))
    trace env (TermTree.for t u) =
        bag_of (flat_map (λ x. map (with_rows (names_in (rows_part x)))
        (elements_in (trace (value_part x ∷ env) u))) (elements_in (trace env t)))
    trace env (TermTree.guard t u) =
        bag_of (cond (is_true (cell_of (trace env t))) (elements_in (trace env u)) [])
    -- these stand in no plain term
    trace env (TermTree.fun taken t) = base (cell.Bool false)
    trace env (TermTree.apply t u) = base (cell.Bool false)
    trace env (TermTree.bind t u) = base (cell.Bool false)

    pub trace_fields : List Nested → TermFields → List (Label × Nested)
    trace_fields env TermFields.none = []
    trace_fields env (TermFields.with_field label t fields) =
        put_field label (trace env t) (trace_fields env fields)
