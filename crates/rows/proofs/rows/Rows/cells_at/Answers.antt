use Rattle.std.proofs.Common.{◌≡◌, ◌<◌, ◌≤◌, ◌∙◌, ℕ, All, IfSome, List, []}
use Rattle.std.proofs.Common.{false, ap, subst, length, map, get_or, arith}
use Rattle.std.proofs.lemmas.List.{get_or_read}
use Rattle.std.proofs.lemmas.Option.{IfSome_then}
use Rattle.std.proofs.lemmas.Result.{IfOk-weaker}
use Rattle.nq_model.specs.declared.table.Cell.{Cell}
use Rattle.nq_model.specs.declared.table.Cell.TheVariants as cell
use Rattle.rows.specs.Held.{cells_at}
use Rattle.rows.specs.Places.{row_at}
use Rattle.rows.proofs.PlacedCells.{cells_of_rows}
use Rattle.rows.proofs.rows.Rows.cells_at.Goals as goal

short : (c : goal.After-index) → c.args.column < length c.self.inside.columns.items
short c = omega (arith, c.len.ensures)

read : (c : goal.After-index) → c.index.result.now
    ≡ get_or c.self.inside.columns.items c.args.column []
read c = get_or_read c.self.inside.columns.items c.args.column c.index.result.now
    (short c) c.index.ensures []

long : (c : goal.After-index) → c.self.inside.in_columns ≤ length
    (get_or c.self.inside.columns.items c.args.column [])
long c = c.self.invariant.0 c.args.column [] (short c)

below : (c : goal.After-index)
    → All (λ (row : ℕ). row < c.self.inside.in_columns) c.args.rows.items
below c =
    subst (λ (rows : List ℕ). All (λ (row : ℕ). row < c.self.inside.in_columns) rows)
    c.as_slice.ensures.value
    (c.are_below.ensures c.if-not-are_below.false)

pub at-requires : goal.at-requires
at-requires c = λ k d h. omega (arith, below c k d h, long c, ap length (read c))

pub returns : goal.returns
returns c =
    let inside = c.self.inside in
    let here = c.before in
    let gives : List Cell → Type 0 = λ cells. cells
    ≡ map (λ (row : ℕ). get_or (row_at c.args.self.now row) c.args.column (cell.Bool false))
    c.args.rows.items in
    IfOk-weaker c.at.result (λ found. IfSome found
    (λ (cells : List Cell). cells ≡ cells_at c.index.result.now c.args.rows.items))
    (λ found. IfSome found gives)
    (λ found is. IfSome_then found is (λ cells e. e
    ∙ ap (λ (l : List Cell). cells_at l c.args.rows.items) (read here)
    ∙ cells_of_rows inside.columns.items inside.in_columns inside.behind c.args.self.now
    c.self.view_is
    c.args.column (short here) (long here) c.args.rows.items (below here)))
    c.at.ensures
