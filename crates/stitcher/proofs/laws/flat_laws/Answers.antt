use Rattle.nq_model.specs.Databases.{database}
use Rattle.nq_model.specs.Types.{bag}
use Rattle.nq_ir.specs.Meanings.{rows_in}
use Rattle.nq_ir.specs.Parts.{element_types}
use Rattle.stitcher.specs.FlatNumbers.{flat_numbers}
use Rattle.stitcher.proofs.Stitched.{read_is_mean, flat_reads}
use Rattle.stitcher.proofs.laws.flat_laws.Goals as goal

pub returns : goal.returns
returns c = record {
  read = flat_reads;
  meaning = λ schema form tables rows ans proper w h g laid. read_is_mean (flat_numbers (element_types (bag form.element))) schema form (rows_in (database schema.tables tables)) ans w (flat_reads schema form tables rows ans proper w h g laid);
}
