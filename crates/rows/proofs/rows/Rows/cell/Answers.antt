use Rattle.std.proofs.Common.{◌≡◌, ◌<◌, ◌≤◌, ◌-◌, ◌∙◌, List, [], pos, length, get_or, sym, ap, arith}
use Rattle.std.proofs.lemmas.List.{get_or_read}
use Rattle.nq_model.specs.declared.table.Cell.{Cell}
use Rattle.nq_model.specs.declared.table.Cell.TheVariants as cell
use Rattle.rows.proofs.ColumnRows.{width_in_columns, row_in_columns, row_behind, row_there, seen_length, cell_over}
use Rattle.rows.proofs.rows.Rows.cell.Goals as goal

pub index-requires : goal.index-requires
index-requires c =
    let width = width_in_columns c.self.inside.columns.items c.self.inside.in_columns c.self.inside.behind c.args.self.now c.self.view_is c.args.row (omega arith) in
    omega (arith, width, c.requires)

within : (c : goal.After-index) → c.args.column < length c.self.inside.columns.items
within c =
    let width = width_in_columns c.self.inside.columns.items c.self.inside.in_columns c.self.inside.behind c.args.self.now c.self.view_is c.args.row (omega arith) in
    omega (arith, width, c.requires)

column : (c : goal.After-index) → c.index.result.now ≡ get_or c.self.inside.columns.items c.args.column []
column c = get_or_read c.self.inside.columns.items c.args.column c.index.result.now (within c) c.index.ensures []

pub get-requires : goal.get-requires
get-requires c =
    let long : c.self.inside.in_columns ≤ length (get_or c.self.inside.columns.items c.args.column []) = c.self.invariant.0 c.args.column [] (within c) in
    omega (arith, long, ap length (column c))

pub returns-then-row-self : goal.returns-then-row-self
returns-then-row-self c =
    c.get.ensures ∙ ap (λ (cells : List Cell). get_or cells c.args.row (cell.Int (pos 0))) (column c.before)
    ∙ sym (ap (λ (cells : List Cell). get_or cells c.args.column (cell.Int (pos 0))) (row_in_columns c.self.inside.columns.items c.self.inside.in_columns c.self.inside.behind c.args.self.now c.self.view_is c.args.row (omega arith))
    ∙ cell_over c.self.inside.columns.items c.args.row c.args.column (within c.before))

there : (c : goal.After-as_slice) → c.args.row - c.self.inside.in_columns < length c.self.inside.behind
there c =
    let here = row_there c.args.self.now c.args.row c.args.column c.requires in
    omega (arith, here, seen_length c.self.inside.columns.items c.self.inside.in_columns c.self.inside.behind c.args.self.now c.self.view_is)

pub bounds-as_slice-row : goal.bounds-as_slice-row
bounds-as_slice-row c = omega (arith, there c, ap length c.as_slice.ensures)

pub offset_bounds-as_slice-row : goal.offset_bounds-as_slice-row
offset_bounds-as_slice-row c = omega (arith, there c, ap length c.as_slice.ensures, c.as_slice.type_inv)

cells_behind : (c : goal.After-as_slice-2) → c.as_slice-2.result.now ≡ get_or c.args.self.now c.args.row []
cells_behind c =
    c.as_slice-2.ensures
    ∙ get_or_read c.self.inside.behind (c.args.row - c.self.inside.in_columns) c.index-as_slice-row.result (there c.before.before)
    (c.index-as_slice-row.is ∙ ap (λ (rows : List (List Cell)). get_or rows (c.args.row - c.self.inside.in_columns) c.index-as_slice-row.result) c.as_slice.ensures) []
    ∙ sym (row_behind c.self.inside.columns.items c.self.inside.in_columns c.self.inside.behind c.args.self.now c.self.view_is c.args.row (omega arith))

pub bounds-as_slice-column : goal.bounds-as_slice-column
bounds-as_slice-column c = omega (arith, ap length (cells_behind c), c.requires)

pub offset_bounds-as_slice-column : goal.offset_bounds-as_slice-column
offset_bounds-as_slice-column c = omega (arith, ap length (cells_behind c), c.requires, c.as_slice-2.type_inv)

pub returns : goal.returns
returns c =
    c.as_ref.ensures
    ∙ get_or_read c.as_slice-2.result.now c.args.column c.index-as_slice-column.result (bounds-as_slice-column c.before.before) c.index-as_slice-column.is (cell.Int (pos 0))
    ∙ ap (λ (cells : List Cell). get_or cells c.args.column (cell.Int (pos 0))) (cells_behind c.before.before)
