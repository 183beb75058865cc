use Rattle.std.proofs.Common.{ap, ◌∙◌, None, arith, ◌<◌, length, map}
use Rattle.std.specs.Option.{unwrap_or}
use Rattle.nq_model.specs.CellRefs.{cell_seen}
use Rattle.nq_model.specs.NamedRows.{no_cell}
use Rattle.row_keys.specs.Codes.{cell_code}
use Rattle.row_keys.specs.FirstRows.{cell_at}
use Rattle.row_keys.proofs.KeyFacts.{code_more}
use Rattle.row_keys.proofs.keys.KeyIndex.code_of.Goals as goal

pub loop-place-preserved : goal.loop-place-preserved
loop-place-preserved c =
    let places = c.deref-place-items.result.now in
    let within : c.loop-place.place-index < length places = omega arith in
    code_more (λ place. unwrap_or (cell_at (map cell_seen c.args.row.now) place) no_cell) places c.loop-place.place-index None c.loop-place.code c.code_with_cell-code.result within
    (c.code_with_cell-code.ensures ∙ ap (λ o. cell_code c.loop-place.code (unwrap_or o no_cell)) c.cell_at.ensures) c.loop-place.invariant
