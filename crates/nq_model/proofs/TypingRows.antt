-- Worked examples of the typing rules: what the walk gives on whole programs, checked by computing it.
use Rattle.std.proofs.Common.{◌≡◌, ℕ, List, [], ◌∷◌, Ok, Err, refl, codes, pos, true}
use Rattle.nq_model.specs.Types.{int, text, bag, fun, rec as rec_type, none as no_fields, field as field_type}
use Rattle.nq_model.specs.Terms.{PlacedTerm, PlacedNode, PlacedFields, at}
use Rattle.nq_model.specs.Judging.{program_judged, broken}
use Rattle.nq_model.specs.declared.term.Binary.TheVariants.{Add}
use Rattle.nq_model.specs.declared.table.ColumnType.TheVariants as column
use Rattle.nq_model.specs.declared.table.Schema.{Schema}

-- departments (name: text)
abbrev schema : Schema
schema = record { tables = record { name = codes "departments"; columns = (codes "name", column.Text) ∷ []; key = [] } ∷ [] }

abbrev number : ℕ → ℕ → PlacedTerm
number place n = at place (PlacedNode.int (pos n))

abbrev one_field : ℕ → List ℕ → PlacedTerm → PlacedTerm
one_field place l t = at place (PlacedNode.rec (PlacedFields.with_field l t PlacedFields.none))

-- for (d <- table departments) [d.name]
pub names : program_judged schema (at 0 (PlacedNode.for (at 10 (PlacedNode.table (codes "departments")))
    (at 29 (PlacedNode.single (at 31 (PlacedNode.field (at 30 (PlacedNode.var 0)) (codes "name")))))))
    ≡ Ok (bag text)
names = refl

-- for (d <- table departments) [d.a]
pub no_such_label : program_judged schema (at 0 (PlacedNode.for (at 10 (PlacedNode.table (codes "departments")))
    (at 29 (PlacedNode.single (at 31 (PlacedNode.field (at 30 (PlacedNode.var 0)) (codes "a")))))))
    ≡ Err (broken 15 31)
no_such_label = refl

-- table nobody
pub no_such_table : program_judged schema (at 0 (PlacedNode.table (codes "nobody"))) ≡ Err (broken 5 0)
no_such_table = refl

-- 1 + 1
pub no_bag : program_judged schema (at 2 (PlacedNode.binary Add (number 0 1) (number 4 1))) ≡ Err (broken 23 2)
no_bag = refl

-- [fun (x: int) -> x]
pub bag_of_functions : program_judged schema (at 0 (PlacedNode.single (at 1 (PlacedNode.fun int (at 17 (PlacedNode.var 0)))))) ≡ Err (broken 17 0)
bag_of_functions = refl

-- [(f = 1)]
pub bag_of_records : program_judged schema (at 0 (PlacedNode.single (one_field 1 (codes "f") (number 6 1)))) ≡ Ok (bag (rec_type (field_type (codes "f") int no_fields)))
bag_of_records = refl

-- fun (x: [int -> int]) -> 1 + true: the parameter's type is judged before the body
pub parameter_first : program_judged schema (at 0 (PlacedNode.fun (bag (fun int int)) (at 27 (PlacedNode.binary Add (number 25 1) (at 29 (PlacedNode.bool true)))))) ≡ Err (broken 12 0)
parameter_first = refl

-- for (x <- 1) 1 + true: the source is judged before the body
pub source_first : program_judged schema (at 0 (PlacedNode.for (number 10 1) (at 15 (PlacedNode.binary Add (number 13 1) (at 17 (PlacedNode.bool true)))))) ≡ Err (broken 20 0)
source_first = refl

-- [if true then (b = 1, a = 2) else (a = 3, b = 4)]
pub fields_in_any_order : program_judged schema (at 0 (PlacedNode.single (at 1 (PlacedNode.choose (at 4 (PlacedNode.bool true))
    (at 14 (PlacedNode.rec (PlacedFields.with_field (codes "b") (number 19 1) (PlacedFields.with_field (codes "a") (number 26 2) PlacedFields.none))))
    (at 34 (PlacedNode.rec (PlacedFields.with_field (codes "a") (number 39 3) (PlacedFields.with_field (codes "b") (number 46 4) PlacedFields.none))))))))
    ≡ Ok (bag (rec_type (field_type (codes "a") int (field_type (codes "b") int no_fields))))
fields_in_any_order = refl
