use Rattle.nq_ir.proofs.Stored.{cells_tell_spots}
use Rattle.nq_ir.proofs.Whole.{spots_build}
use Rattle.nq_ir.proofs.laws.spot_laws.Goals as goal

pub returns : goal.returns
returns c = record {
  meaning = spots_build;
  cells = λ schema tables h gens conds. cells_tell_spots schema.tables tables h gens conds;
}
