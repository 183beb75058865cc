-- The code's bodies as raw forms.
use Rattle.std.specs.Prelude.{ℕ, pos, ◌+◌, ◌++◌, List, [], ◌∷◌, map, length}
use Rattle.nq_model.specs.NamedRows.{Label}
use Rattle.nq_model.specs.Totals.{HowMany, SumOf}
use Rattle.nq_model.specs.declared.table.Cell.TheVariants as cell
use Rattle.nq_model.specs.declared.term.Binary.{Binary}
use Rattle.nq_ir.specs.RawForms.{RawBase, raw_literal, raw_column, raw_unary, raw_binary, raw_choose, raw_empty, raw_total, RawConds, no_raw, and_raw, RawTests, no_raw_test, raw_test, RawBody, raw_plain, raw_rec, raw_bag, RawFields, no_raw_field, raw_field, RawComps, no_raw_comp, raw_comp, raw_base_in, up_base, up_bases, up_body, both_raw}
use Rattle.normalise.specs.declared.raw.RawBase.{RawBase as CodeBase}
use Rattle.normalise.specs.declared.raw.MovedBase.{MovedBase}
use Rattle.normalise.specs.declared.raw.RawTest.{RawTest as CodeTest}
use Rattle.normalise.specs.declared.raw.RawBase.TheFolds.{fold-RawBase, fold-MovedBase, fold-RawTest}
use Rattle.normalise.specs.declared.raw.RawBase.TheOpen.{RawBase-F, MovedBase-F, RawTest-F}
use Rattle.normalise.specs.declared.raw.RawBody.{RawBody as CodeBody}
use Rattle.normalise.specs.declared.raw.MovedBody.{MovedBody}
use Rattle.normalise.specs.declared.raw.RawComp.{RawComp as CodeComp}
use Rattle.normalise.specs.declared.raw.RawBody.TheFolds.{fold-RawBody, fold-MovedBody, fold-RawComp}
use Rattle.normalise.specs.declared.raw.RawBody.TheOpen.{RawBody-F, MovedBody-F, RawComp-F}

abbrev pub conds_of : List RawBase → RawConds
conds_of [] = no_raw
conds_of (b ∷ bs) = and_raw b (conds_of bs)

-- one comprehension of a test
pub record TestPart : Type 0 where
  pub tables : List Label
  pub conds : RawConds

-- how many elements it gives
abbrev pub count_in : TestPart → RawBase
count_in t = raw_total HowMany t.tables t.conds (raw_literal (cell.Int (pos 1)))

abbrev pub tests_of : List TestPart → RawTests
tests_of [] = no_raw_test
tests_of (t ∷ ts) = raw_test t.tables t.conds (tests_of ts)

abbrev pub fields_of : List (Label × RawBody) → RawFields
fields_of [] = no_raw_field
fields_of (f ∷ fs) = raw_field f.0 f.1 (fields_of fs)

-- one comprehension
pub record CompPart : Type 0 where
  pub tables : List Label
  pub conds : RawConds
  pub body : RawBody

-- the sum of its body over the elements that it gives
abbrev pub sum_in : CompPart → RawBase
sum_in c = raw_total SumOf c.tables c.conds (raw_base_in c.body)

abbrev pub comps_of : List CompPart → RawComps
comps_of [] = no_raw_comp
comps_of (c ∷ cs) = raw_comp c.tables c.conds c.body (comps_of cs)

-- a base term and further ones behind it, each joined to those before it by the same operation
abbrev pub chain : Binary → RawBase → List RawBase → RawBase
chain op first [] = first
chain op first (b ∷ more) = chain op (raw_binary op first b) more

abbrev pub base_layer : RawBase-F RawBase RawBase TestPart → RawBase
base_layer (RawBase-F.Int n) = raw_literal (cell.Int n)
base_layer (RawBase-F.Bool b) = raw_literal (cell.Bool b)
base_layer (RawBase-F.Text t) = raw_literal (cell.Text t)
base_layer (RawBase-F.Column i l) = raw_column i l
base_layer (RawBase-F.Unary op b) = raw_unary op b
base_layer (RawBase-F.Binary op a b) = raw_binary op a b
base_layer (RawBase-F.Chain op first more) = chain op first more
base_layer (RawBase-F.Choose x a b) = raw_choose x a b
base_layer (RawBase-F.Empty ts) = raw_empty (tests_of ts)
base_layer (RawBase-F.Count t) = count_in t
base_layer (RawBase-F.Sum t b) = raw_total SumOf t.tables t.conds b
base_layer (RawBase-F.Moved b) = b

abbrev pub moved_layer : MovedBase-F RawBase RawBase TestPart → RawBase
moved_layer m = up_base m.more m.from m.base.value

abbrev pub test_layer : RawTest-F RawBase RawBase TestPart → TestPart
test_layer t = record { tables = t.tables; conds = conds_of t.conds }

-- the raw form of a base term of the code, of one that is moved, and of a comprehension of a test
abbrev pub raw_base : CodeBase → RawBase
raw_base = fold-RawBase RawBase RawBase TestPart base_layer moved_layer test_layer

abbrev pub moved_base : MovedBase → RawBase
moved_base = fold-MovedBase RawBase RawBase TestPart base_layer moved_layer test_layer

abbrev pub test_part : CodeTest → TestPart
test_part = fold-RawTest RawBase RawBase TestPart base_layer moved_layer test_layer

abbrev pub raw_conds : List MovedBase → RawConds
raw_conds bs = conds_of (map moved_base bs)

abbrev pub raw_tests : List CodeTest → RawTests
raw_tests ts = tests_of (map test_part ts)

abbrev pub body_layer : RawBody-F RawBody RawBody CompPart → RawBody
body_layer (RawBody-F.Plain b) = raw_plain (moved_base b)
body_layer (RawBody-F.Rec fs) = raw_rec (fields_of fs)
body_layer (RawBody-F.Bag cs) = raw_bag (comps_of cs)

abbrev pub moved_body_layer : MovedBody-F RawBody RawBody CompPart → RawBody
moved_body_layer m = up_body m.more m.from m.body.value

abbrev pub comp_layer : RawComp-F RawBody RawBody CompPart → CompPart
comp_layer c = record { tables = c.tables; conds = raw_conds c.conds; body = c.body }

-- the raw form of a body of the code, of one that is moved, and of a comprehension
abbrev pub raw_body : CodeBody → RawBody
raw_body = fold-RawBody RawBody RawBody CompPart body_layer moved_body_layer comp_layer

abbrev pub moved_body : MovedBody → RawBody
moved_body = fold-MovedBody RawBody RawBody CompPart body_layer moved_body_layer comp_layer

abbrev pub comp_part : CodeComp → CompPart
comp_part = fold-RawComp RawBody RawBody CompPart body_layer moved_body_layer comp_layer

abbrev pub fields_view : List (Label × MovedBody) → List (Label × RawBody)
fields_view fs = map (λ f. (f.0, moved_body f.1)) fs

abbrev pub raw_fields_of : List (Label × MovedBody) → RawFields
raw_fields_of fs = fields_of (fields_view fs)

abbrev pub raw_comps : List CodeComp → RawComps
raw_comps cs = comps_of (map comp_part cs)

-- n more generators around, outside the first c
abbrev pub up_comp : ℕ → ℕ → CompPart → CompPart
up_comp n c p = record { tables = p.tables; conds = up_bases n (length p.tables + c) p.conds; body = up_body n (length p.tables + c) p.body }

-- a comprehension inside the generators gs and the conditions bs
abbrev pub inside_part : List Label → RawConds → CompPart → CompPart
inside_part gs bs p = record { tables = gs ++ p.tables; conds = both_raw (up_bases (length p.tables) 0 bs) p.conds; body = p.body }

-- a comprehension of a test
abbrev pub bodiless : CompPart → TestPart
bodiless p = record { tables = p.tables; conds = p.conds }

abbrev pub test_inside : List Label → RawConds → TestPart → TestPart
test_inside gs bs p = record { tables = gs ++ p.tables; conds = both_raw (up_bases (length p.tables) 0 bs) p.conds }

abbrev pub append_tests : RawTests → RawTests → RawTests
append_tests no_raw_test ys = ys
append_tests (raw_test gs bs xs) ys = raw_test gs bs (append_tests xs ys)

-- each comprehension of a test inside the generators gs and the conditions bs
abbrev pub tests_inside : List Label → RawConds → RawTests → RawTests
tests_inside gs bs no_raw_test = no_raw_test
tests_inside gs bs (raw_test hs cs xs) = raw_test (gs ++ hs) (both_raw (up_bases (length hs) 0 bs) cs) (tests_inside gs bs xs)

abbrev pub where_tests : RawBase → RawTests → RawTests
where_tests x ts = tests_inside [] (and_raw x no_raw) ts
