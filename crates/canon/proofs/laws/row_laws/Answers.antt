use Rattle.nq_model.proofs.Canonical.{reordered_sorted}
use Rattle.canon.specs.RowTexts.{row_cmp}
use Rattle.canon.proofs.RowTexts.{rows_one, one_text}
use Rattle.canon.proofs.laws.row_laws.Goals as goal

pub returns : goal.returns
returns c = record { kept = reordered_sorted row_cmp; one = rows_one; text = one_text }
