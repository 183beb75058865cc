use Rattle.std.proofs.Common.{◌≡◌, ◌∙◌, subst, pos, IfOk}
use Rattle.nq_model.specs.NamedRows.{no_cell}
use Rattle.nq_model.specs.Values.{base, nested}
use Rattle.nq_model.specs.declared.table.Cell.{Cell}
use Rattle.nq_model.specs.declared.table.Cell.TheVariants as cell
use Rattle.stitcher.specs.Stitching.{rows_of}
use Rattle.stitcher.proofs.Ready.{cell_there, cell_read}
use Rattle.reference_stitching.proofs.search.base.Goals as goal

pub cell-requires : goal.cell-requires
cell-requires g c =
    let S = g.S.IndexScheme.scheme c.args.scheme.now in
    cell_there S (rows_of c.args.answers.now) c.args.at.path c.args.at.row c.args.at.leaf c.base-column.result c.rows_at-rows.result.now c.base-column.ensures c.rows_at-rows.ensures (g.met.S.IndexScheme.bases_are_typed c.args.scheme.now) c.requires.leaf c.requires.given.fitting c.requires.row

pub returns : goal.returns
returns g c =
    let S = g.S.IndexScheme.scheme c.args.scheme.now in
    let read = cell_read S (rows_of c.args.answers.now) c.args.at.path c.args.at.row c.args.at.leaf c.base-column.result c.rows_at-rows.result.now c.base-column.ensures c.rows_at-rows.ensures (g.met.S.IndexScheme.bases_are_typed c.args.scheme.now) c.requires.leaf c.requires.given.fitting c.requires.row (cell.Int (pos 0)) no_cell in
    subst (λ (k : Cell). IfOk c.value_of.result (λ value. nested value ≡ base k)) (c.cell.ensures ∙ read) c.value_of.ensures
