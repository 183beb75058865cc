-- Where a scheme reads the answers, stitching gives the form's meaning.
use Rattle.std.proofs.Common.{List, subst}
use Rattle.nq_model.specs.Databases.{database}
use Rattle.nq_model.specs.SchemaTables.{AreTablesOf}
use Rattle.nq_model.specs.Tables.{IsProperSchema}
use Rattle.nq_model.specs.Types.{bag}
use Rattle.nq_model.specs.Values.{Same}
use Rattle.nq_model.specs.declared.table.Schema.{Schema}
use Rattle.nq_model.specs.declared.table.Cell.{Cell}
use Rattle.nq_ir.proofs.Building.{follows_same}
use Rattle.nq_ir.proofs.Whole.{spots_build, read_by_number}
use Rattle.nq_ir.specs.Lets.{FlatRow, AllGive}
use Rattle.nq_ir.specs.Meanings.{Tables, rows_in, form_meaning}
use Rattle.nq_ir.specs.Parts.{element_types}
use Rattle.nq_ir.specs.Spots.{strands, spots, top_spot}
use Rattle.nq_ir.specs.Trees.{FormTree}
use Rattle.nq_ir.specs.WellFormed.{IsWellFormed, column_names}
use Rattle.stitcher.proofs.Reading.{flat_numbers_read}
use Rattle.stitcher.specs.FlatNumbers.{flat_numbers, AreLaidOut}
use Rattle.stitcher.specs.Schemes.{Scheme, AnswerRows, Entered, Reads, answers, stitched}

pub read_is_mean : {I : Type 0} (S : Scheme I) (schema : Schema) (form : FormTree) (ts : Tables) (ans : List AnswerRows) → IsWellFormed schema.tables form → Reads S ans form ts → Same (stitched S form.element ans) (form_meaning ts form)
read_is_mean S schema form ts ans w r =
    subst (λ v. Same (stitched S form.element ans) v) (spots_build schema form w ts) (follows_same (Entered r.entries) (answers S ans) (spots ts (strands form.element form.comps)) form.element 0 S.top top_spot r.follows r.top)

pub flat_reads : (schema : Schema) (form : FormTree) (tables : List (List (List Cell))) (rows : List (List FlatRow)) (ans : List AnswerRows) → IsProperSchema schema → IsWellFormed schema.tables form → AreTablesOf schema.tables tables → AllGive (column_names schema.tables) (rows_in (database schema.tables tables)) form rows → AreLaidOut (element_types (bag form.element)) rows ans → Reads (flat_numbers (element_types (bag form.element))) ans form (rows_in (database schema.tables tables))
flat_reads schema form tables rows ans proper w h g laid =
    flat_numbers_read (rows_in (database schema.tables tables)) rows ans form (read_by_number schema form w proper tables h rows g) laid
