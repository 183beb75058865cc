-- Answers with ties, numbered at the top in one way and below in the other, that tag and number read.
use Rattle.std.proofs.Common.{zero, suc, List, [], ◌∷◌, refl, codes}
use Rattle.nq_model.specs.Types.{TypeTree, bag}
use Rattle.nq_ir.proofs.Examples.{with_names}
use Rattle.nq_ir.proofs.Witness.{all_given, department_rows, employee_rows, held, of_schema, org_schema, proper, tables, well_formed}
use Rattle.nq_ir.specs.Parts.{element_types}
use Rattle.stitcher.specs.FlatNumbers.{AreLaidOut, flat_numbers}
use Rattle.stitcher.specs.Schemes.{AnswerRows, Reads}
use Rattle.stitcher.proofs.Examples.{leaf, parent}
use Rattle.stitcher.proofs.Stitched.{flat_reads}

abbrev elements : List TypeTree
elements = element_types (bag with_names.element)

abbrev answers : List AnswerRows
answers =
    (parent 0 1 (codes "Product") 1 2 ∷ parent 0 1 (codes "Product") 1 1 ∷ []) ∷ (leaf 1 1 (codes "Alex") ∷ leaf 1 1 (codes "Bert") ∷ leaf 1 2 (codes "Alex") ∷ leaf 1 2 (codes "Bert") ∷ []) ∷ []

laid_out : AreLaidOut elements (department_rows ∷ employee_rows ∷ []) answers
unfolding department_rows employee_rows
laid_out zero = refl
laid_out (suc zero) = refl
laid_out (suc (suc q)) = refl

pub read : Reads (flat_numbers elements) answers with_names held
read = flat_reads org_schema with_names tables (department_rows ∷ employee_rows ∷ []) answers proper well_formed of_schema all_given laid_out
