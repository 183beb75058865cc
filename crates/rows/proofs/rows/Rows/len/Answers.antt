use Rattle.std.proofs.Common.{◌∙◌, sym}
use Rattle.rows.proofs.ColumnRows.{seen_length}
use Rattle.rows.proofs.rows.Rows.len.Goals as goal

pub returns : goal.returns
returns c = c.self.invariant.1 ∙ sym (seen_length c.self.inside.columns.items c.self.inside.in_columns c.self.inside.behind c.args.self.now c.self.view_is)
