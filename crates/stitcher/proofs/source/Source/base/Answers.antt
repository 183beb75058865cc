use Rattle.std.proofs.Common.{◌∙◌, ap}
use Rattle.nq_model.specs.NamedRows.{no_cell}
use Rattle.nq_model.specs.Values.{base}
use Rattle.nq_model.specs.declared.table.Cell.TheVariants as cell
use Rattle.std.proofs.Common.{pos}
use Rattle.stitcher.specs.Stitching.{rows_of}
use Rattle.stitcher.proofs.Ready.{cell_there, cell_read}
use Rattle.stitcher.proofs.source.Source.base.Goals as goal

pub cell-requires : goal.cell-requires
cell-requires g c =
    let S = g.S.IndexScheme.scheme c.args.self.now.scheme.now in
    cell_there S (rows_of c.args.self.now.answers.now) c.args.walk.now.path c.args.walk.now.row c.args.walk.now.leaf c.base-column.result c.rows_at-rows.result.now c.base-column.ensures c.rows_at-rows.ensures (g.met.S.IndexScheme.bases_are_typed c.args.self.now.scheme.now) c.requires.leaf c.requires.ready.fitting c.requires.row

pub returns-clause-value : goal.returns-clause-value
returns-clause-value g c =
    let S = g.S.IndexScheme.scheme c.args.self.now.scheme.now in
    let read = cell_read S (rows_of c.args.self.now.answers.now) c.args.walk.now.path c.args.walk.now.row c.args.walk.now.leaf c.base-column.result c.rows_at-rows.result.now c.base-column.ensures c.rows_at-rows.ensures (g.met.S.IndexScheme.bases_are_typed c.args.self.now.scheme.now) c.requires.leaf c.requires.ready.fitting c.requires.row (cell.Int (pos 0)) no_cell in
    c.in_ok-value.ensures ∙ ap base (c.cell.ensures ∙ read)
