use Rattle.std.proofs.Common.{◌<◌, ◌≤◌, ◌-◌, ◌∙◌, List, [], sym, ap, length, get_or, arith}
use Rattle.std.proofs.lemmas.List.{get_or_past, get_or_read}
use Rattle.nq_model.specs.declared.table.Cell.{Cell}
use Rattle.rows.proofs.ColumnRows.{width_in_columns, row_behind}
use Rattle.rows.proofs.rows.Rows.width.Goals as goal

pub returns-then-row-self : goal.returns-then-row-self
returns-then-row-self c =
    let width = width_in_columns c.self.inside.columns.items c.self.inside.in_columns c.self.inside.behind c.args.self.now c.self.view_is c.args.row (omega arith) in
    omega (arith, c.len.ensures, width)

pub returns-then-at-len : goal.returns-then-at-len
returns-then-at-len c =
    let past : length c.self.inside.behind ≤ c.args.row - c.self.inside.in_columns = omega (arith, c.len-2.ensures) in
    sym (ap length (row_behind c.self.inside.columns.items c.self.inside.in_columns c.self.inside.behind c.args.self.now c.self.view_is c.args.row (omega arith)
    ∙ get_or_past c.self.inside.behind (c.args.row - c.self.inside.in_columns) [] past))

pub returns : goal.returns
returns c =
    let there : c.args.row - c.self.inside.in_columns < length c.self.inside.behind = omega (arith, c.len-2.ensures) in
    c.len-3.ensures
    ∙ ap length (get_or_read c.self.inside.behind (c.args.row - c.self.inside.in_columns) c.index-as_slice-at.result there
    (c.index-as_slice-at.is ∙ ap (λ (rows : List (List Cell)). get_or rows (c.args.row - c.self.inside.in_columns) c.index-as_slice-at.result) c.as_slice.ensures) []
    ∙ sym (row_behind c.self.inside.columns.items c.self.inside.in_columns c.self.inside.behind c.args.self.now c.self.view_is c.args.row (omega arith)))
