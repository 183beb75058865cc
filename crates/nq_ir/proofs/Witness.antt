-- A form that is well formed, and rows with ties that its let forms allow: departments of equal names, numbered at the
-- top in one way and below in the other.
use Rattle.std.proofs.Common.{◌≡◌, ◌≢◌, ℕ, ◌<◌, ◌≤◌, List, [], ◌∷◌, length, refl, sym, ◌∙◌, codes, arith, false, true≢false, nat_eq, bytes_eq, true, ◌^◌, All, pos}
use Rattle.std.specs.Int.{w64}
use Rattle.std.specs.Str.{chars, is_utf8}
use lib.Utf8.{encode}
use Rattle.std.proofs.lemmas.Int.{fits_signed_from_abs}
use Rattle.std.proofs.lemmas.Str.{IsUtf8-from_is_utf8}
use Rattle.nq_model.specs.Cells.{RowFits}
use Rattle.std.proofs.lemmas.Cmp.{nat_eq_equiv}
use Rattle.std.proofs.lemmas.List.Elements.{All-from_recursion}
use Rattle.std.proofs.lemmas.Map.Views.{list_any-from_Contains}
use Rattle.std.proofs.lemmas.Slice.Eq.{bytes_eq-Decides}
use Rattle.std.specs.List.{Contains, list_any}
use Rattle.nq_model.specs.Databases.{database}
use Rattle.nq_model.specs.SchemaTables.{AreTablesOf, IsSound}
use Rattle.nq_model.specs.Tables.{IsProperName, IsProperSchema, IsProperShape}
use Rattle.nq_model.specs.declared.table.Schema.{Schema}
use Rattle.nq_model.proofs.Bags.{reordered_refl}
use Rattle.nq_model.specs.Bags.{here, there}
use Rattle.nq_model.specs.NamedRows.{Row}
use Rattle.nq_model.specs.declared.table.Cell.{Cell}
use Rattle.nq_model.specs.declared.table.ColumnType.TheVariants as column_type
use Rattle.nq_ir.specs.Lets.{AllGive, Deals, FlatRow, FormGives, LetRow, insert_lets}
use Rattle.nq_ir.specs.Meanings.{Tables, rows_in}
use Rattle.nq_ir.specs.Shredded.{shredded}
use Rattle.nq_ir.specs.WellFormed.{IsWellFormed, column_names}
use Rattle.nq_ir.specs.declared.path.Step.TheVariants.{Down, Field}
use Rattle.nq_ir.proofs.Examples.{with_names, word, number}
use Rattle.nq_ir.proofs.Worked.{org}

pub well_formed : IsWellFormed org with_names
well_formed = record {
  element_plain = refl;
  labels_rise = (((refl, tt), (tt, tt)), (tt, (tt, tt)));
  typed = ((refl, tt), tt, (refl, refl, (refl, (refl, ((refl, tt), ((column_type.Text, column_type.Text, refl, refl, refl), tt), refl, tt)), tt)), tt);
  tags_differ = ((λ (e : 1 ≡ 2). absurd (omega (arith, e)), tt), (tt, tt));
  tags_fit = ((omega arith, omega arith), ((omega arith, omega arith), tt));
  numbers_differ = ((λ (e : 1 ≡ 2). absurd (omega (arith, e)), tt), (tt, tt));
  numbers_fit = ((omega arith, omega arith), ((omega arith, omega arith), tt));
}

abbrev pub org_schema : Schema
org_schema = record { tables = org }

no_byte : (b : ℕ) (name : List ℕ) → list_any (nat_eq b) name ≡ false → Contains name b → ⊥
no_byte b name e c = true≢false (sym (list_any-from_Contains nat_eq_equiv b name c) ∙ e)

-- a name without a double quote and a dot
named : (name : List ℕ) → (0 < length name) → (length name ≤ 64) → list_any (nat_eq 34) name ≡ false → list_any (nat_eq 46) name ≡ false → IsProperName name
named name some short quote dot = record { some_byte = some; short = short; no_quote = no_byte 34 name quote; no_dot = no_byte 46 name dot }

name_is : IsProperName (codes "name")
name_is = named (codes "name") (omega arith) (omega arith) refl refl

apart : (a b : List ℕ) → bytes_eq a b ≡ false → a ≢ b
apart a b e i = true≢false (sym ((bytes_eq-Decides a b).1 i) ∙ e)

pub proper : IsProperSchema org_schema
proper = record {
  tables_differ = ((apart (codes "departments") (codes "employees") refl, (apart (codes "departments") (codes "tasks") refl, tt)), ((apart (codes "employees") (codes "tasks") refl, tt), (tt, tt)));
  proper = All-from_recursion IsProperShape org (
    record { named = named (codes "departments") (omega arith) (omega arith) refl refl; columns_named = All-from_recursion IsProperName (codes "name" ∷ []) (name_is, tt); columns_differ = (tt, tt); key_of_columns = All-from_recursion (Contains (codes "name" ∷ [])) [] tt; key_differs = tt },
    (
      record { named = named (codes "employees") (omega arith) (omega arith) refl refl; columns_named = All-from_recursion IsProperName (codes "dept" ∷ codes "name" ∷ codes "salary" ∷ []) (named (codes "dept") (omega arith) (omega arith) refl refl, (name_is, (named (codes "salary") (omega arith) (omega arith) refl refl, tt))); columns_differ = ((apart (codes "dept") (codes "name") refl, (apart (codes "dept") (codes "salary") refl, tt)), ((apart (codes "name") (codes "salary") refl, tt), (tt, tt))); key_of_columns = All-from_recursion (Contains (codes "dept" ∷ codes "name" ∷ codes "salary" ∷ [])) [] tt; key_differs = tt },
      (record { named = named (codes "tasks") (omega arith) (omega arith) refl refl; columns_named = All-from_recursion IsProperName (codes "employee" ∷ codes "task" ∷ []) (named (codes "employee") (omega arith) (omega arith) refl refl, (named (codes "task") (omega arith) (omega arith) refl refl, tt)); columns_differ = ((apart (codes "employee") (codes "task") refl, tt), (tt, tt)); key_of_columns = All-from_recursion (Contains (codes "employee" ∷ codes "task" ∷ [])) [] tt; key_differs = tt }, tt),
    ),
  );
}

-- the two equal departments, and two employees, who have no task
abbrev pub tables : List (List (List Cell))
tables =
    ((word (codes "Product") ∷ []) ∷ (word (codes "Product") ∷ []) ∷ []) ∷ ((word (codes "Product") ∷ word (codes "Alex") ∷ number 1 ∷ []) ∷ (word (codes "Product") ∷ word (codes "Bert") ∷ number 2 ∷ []) ∷ []) ∷ [] ∷ []

valid : (t : List ℕ) → is_utf8 t ≡ true → IsSound (word t)
valid t e = IsUtf8-from_is_utf8 t e

small : (n : ℕ) → n < 2 ^ 63 → IsSound (number n)
small n l = fits_signed_from_abs w64 (pos n) l

product_valid : is_utf8 (codes "Product") ≡ true
unfolding is_utf8 chars encode
product_valid = refl

alex_valid : is_utf8 (codes "Alex") ≡ true
unfolding is_utf8 chars encode
alex_valid = refl

bert_valid : is_utf8 (codes "Bert") ≡ true
unfolding is_utf8 chars encode
bert_valid = refl

abbrev department : List Cell
department = word (codes "Product") ∷ []

abbrev employee : List ℕ → ℕ → List Cell
employee name salary = word (codes "Product") ∷ word name ∷ number salary ∷ []

sound_department : All IsSound department
sound_department = All-from_recursion IsSound department (valid (codes "Product") product_valid, tt)

sound_employee : (name : List ℕ) (salary : ℕ) → is_utf8 name ≡ true → salary < 2 ^ 63 → All IsSound (employee name salary)
sound_employee name salary e l = All-from_recursion IsSound (employee name salary) (valid (codes "Product") product_valid, (valid name e, (small salary l, tt)))

pub of_schema : AreTablesOf org tables
of_schema = (
  record { fit = All-from_recursion (RowFits (column_type.Text ∷ [])) (department ∷ department ∷ []) (refl, (refl, tt)); sound = All-from_recursion (All IsSound) (department ∷ department ∷ []) (sound_department, (sound_department, tt)); keys_differ = λ n. absurd (n refl) },
  (record { fit = All-from_recursion (RowFits (column_type.Text ∷ column_type.Text ∷ column_type.Int ∷ [])) (employee (codes "Alex") 1 ∷ employee (codes "Bert") 2 ∷ []) (refl, (refl, tt)); sound = All-from_recursion (All IsSound) (employee (codes "Alex") 1 ∷ employee (codes "Bert") 2 ∷ []) (sound_employee (codes "Alex") 1 alex_valid (omega arith), (sound_employee (codes "Bert") 2 bert_valid (omega arith), tt)); keys_differ = λ n. absurd (n refl) }, (record { fit = All-from_recursion (RowFits (column_type.Text ∷ column_type.Text ∷ [])) [] tt; sound = All-from_recursion (All IsSound) [] tt; keys_differ = λ n. absurd (n refl) }, tt)),
)

abbrev pub held : Tables
held = rows_in (database org tables)

abbrev product : Cell
product = word (codes "Product")

abbrev department_row : Row
department_row = (codes "name", product) ∷ []

abbrev own_keys : List (List Cell)
own_keys = (product ∷ []) ∷ (product ∷ []) ∷ []

-- the two equal departments numbered in either way
forwards : Deals own_keys (1 ∷ 2 ∷ [])
forwards = record {
  numbers = record { as_many = refl; each_once = reordered_refl (1 ∷ 2 ∷ []); in_order = ((λ e. absurd (true≢false (sym e)), (λ e. absurd (true≢false (sym e)), tt)), ((λ e. absurd (true≢false (sym e)), (λ e. absurd (true≢false (sym e)), tt)), tt)) };
  fits = omega arith;
}

backwards : Deals own_keys (2 ∷ 1 ∷ [])
backwards = record {
  numbers = record { as_many = refl; each_once = (2, 1 ∷ [], there here, refl, reordered_refl (1 ∷ [])); in_order = ((λ e. absurd (true≢false (sym e)), (λ e. absurd (true≢false (sym e)), tt)), ((λ e. absurd (true≢false (sym e)), (λ e. absurd (true≢false (sym e)), tt)), tt)) };
  fits = omega arith;
}

-- the departments, each with the index of its employees
unfoldable pub department_rows : List FlatRow
department_rows =
    record { outer = (0, 1); leaf_cells = product ∷ []; inners = (1, 2) ∷ [] } ∷ record { outer = (0, 1); leaf_cells = product ∷ []; inners = (1, 1) ∷ [] } ∷ []

abbrev name_of : ℕ → List ℕ → FlatRow
name_of n name = record { outer = (1, n); leaf_cells = word name ∷ []; inners = [] }

-- their employees, each below both
unfoldable pub employee_rows : List FlatRow
employee_rows = name_of 1 (codes "Alex") ∷ name_of 1 (codes "Bert") ∷ name_of 2 (codes "Alex") ∷ name_of 2 (codes "Bert") ∷ []

departments_given : FormGives (column_names org) held (insert_lets (shredded with_names [])) department_rows
unfolding department_rows
departments_given = record {
  lists = [];
  numbered_once = refl;
  all = department_rows;
  parts = (department_rows, [], ((2 ∷ 1 ∷ []) ∷ [], refl, (backwards, tt), refl), refl, refl);
  any_order = reordered_refl department_rows;
}

abbrev let_rows_are : List LetRow
let_rows_are = (1, (1, department_row) ∷ []) ∷ (2, (1, department_row) ∷ []) ∷ []

employees_given : FormGives (column_names org) held (insert_lets (shredded with_names (Down ∷ Field (codes "es") ∷ []))) employee_rows
unfolding employee_rows
employees_given = record {
  lists = let_rows_are ∷ [];
  numbered_once = ((1 ∷ 2 ∷ [], forwards, reordered_refl let_rows_are), refl);
  all = employee_rows;
  parts = (employee_rows, [], ([], refl, tt, refl), refl, refl);
  any_order = reordered_refl employee_rows;
}

-- so the let forms of both paths allow them
pub all_given : AllGive (column_names org) held with_names (department_rows ∷ employee_rows ∷ [])
all_given = (departments_given, (employees_given, refl))
