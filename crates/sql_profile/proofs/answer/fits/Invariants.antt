use Rattle.std.proofs.Common.{All, take}
use Rattle.nq_model.specs.Cells.{RowFits}
use Rattle.sql_profile.proofs.answer.fits.Given as goal

abbrev pub invariant-loop-index : goal.invariant-loop-index
invariant-loop-index l = All (RowFits l.columns) (take l.index l.answer.rows)
