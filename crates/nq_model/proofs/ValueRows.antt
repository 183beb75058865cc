-- Worked examples: what the definitions give, checked by computing them.
use Rattle.std.proofs.Common.{◌≡◌, true, false, [], ◌∷◌, refl, codes, pos, negsuc, ℕ}
use Rattle.std.specs.Fmt.{digits}
use Rattle.nq_model.specs.Types.{int, bool, bag, fun, rec as rec_type, none as no_fields, field as field_type, is_plain, is_well_formed}
use Rattle.nq_model.specs.Values.{Nested, base, bag_of, rec_of, same}
use Rattle.nq_model.specs.Canonical.{canonical_text}
use Rattle.nq_model.specs.Tables.{table_value, table_type}
use Rattle.nq_model.specs.declared.table.Cell.TheVariants.{Int, Bool as Truth, Text}
use Rattle.nq_model.specs.declared.table.ColumnType.TheVariants as column

abbrev pub number : ℕ → Nested
number n = base (Int (pos n))

-- equal rows are written as often as they stand in the table
pub departments : canonical_text (table_value ((codes "name", column.Text) ∷ []) ((Text (codes "Sales") ∷ []) ∷ (Text (codes "Product") ∷ []) ∷ (Text (codes "Product") ∷ []) ∷ []))
    ≡ codes "{(name = 'Product'), (name = 'Product'), (name = 'Sales')}\n"
departments = refl

-- labels stand in byte order, whatever the order of the columns
pub columns_out_of_order : canonical_text (table_value ((codes "b", column.Int) ∷ (codes "a", column.Text) ∷ []) ((Int (pos 2) ∷ Text (codes "x") ∷ []) ∷ (Int (negsuc 0) ∷ Text (codes "y") ∷ []) ∷ []))
    ≡ codes "{(a = 'x', b = 2), (a = 'y', b = -1)}\n"
unfolding digits
columns_out_of_order = refl

pub type_of_columns : table_type ((codes "b", column.Int) ∷ (codes "a", column.Bool) ∷ [])
    ≡ bag (rec_type (field_type (codes "a") bool (field_type (codes "b") int no_fields)))
type_of_columns = refl

pub no_rows : canonical_text (table_value ((codes "name", column.Text) ∷ []) []) ≡ codes "{}\n"
no_rows = refl

-- a quote is doubled, and the empty text stays
pub quotes : canonical_text (bag_of (rec_of ((codes "a", base (Text (codes "x, 'y'"))) ∷ []) ∷ rec_of ((codes "a", base (Text [])) ∷ []) ∷ []))
    ≡ codes "{(a = ''), (a = 'x, ''y''')}\n"
quotes = refl

-- bags within bags: each is put in order, the shorter first
pub inner_bags : canonical_text (bag_of (bag_of (number 2 ∷ number 1 ∷ []) ∷ bag_of [] ∷ bag_of (number 1 ∷ number 2 ∷ []) ∷ [])) ≡ codes "{{}, {1, 2}, {1, 2}}\n"
unfolding digits
inner_bags = refl

pub records_without_fields : canonical_text (bag_of (rec_of [] ∷ rec_of [] ∷ rec_of [] ∷ [])) ≡ codes "{(), (), ()}\n"
records_without_fields = refl

pub kinds : canonical_text (bag_of (bag_of [] ∷ rec_of [] ∷ base (Text []) ∷ number 0 ∷ base (Truth true) ∷ base (Truth false) ∷ []))
    ≡ codes "{false, true, 0, '', (), {}}\n"
unfolding digits
kinds = refl

-- the order of elements does not matter, and how often each stands does
pub order_of_elements : same (bag_of (bag_of (number 2 ∷ number 1 ∷ []) ∷ bag_of [] ∷ bag_of (number 1 ∷ number 2 ∷ []) ∷ [])) (bag_of (bag_of (number 1 ∷ number 2 ∷ []) ∷ bag_of (number 2 ∷ number 1 ∷ []) ∷ bag_of [] ∷ [])) ≡ true
order_of_elements = refl

pub times_of_elements : same (bag_of (bag_of (number 2 ∷ number 1 ∷ []) ∷ bag_of [] ∷ bag_of (number 1 ∷ number 2 ∷ []) ∷ [])) (bag_of (bag_of [] ∷ bag_of (number 1 ∷ number 2 ∷ []) ∷ [])) ≡ false
times_of_elements = refl

-- a function in a bag makes its type neither plain nor well formed; as a parameter it does not
pub functions : is_plain (bag (fun int int)) ≡ false
functions = refl

pub functions_in_bags : is_well_formed (fun (bag (fun int int)) int) ≡ false
functions_in_bags = refl

pub functions_of_functions : is_well_formed (fun (fun int bool) (bag int)) ≡ true
functions_of_functions = refl
