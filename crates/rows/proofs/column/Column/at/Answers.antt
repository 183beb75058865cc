use Rattle.std.proofs.Common.{◌≡◌, ◌<◌, ◌∙◌, ℕ, All, List, ap, sym, subst, length}
use Rattle.std.proofs.Common.{map, get_or, replicate, arith}
use Rattle.nq_model.specs.CellRefs.{cell_seen}
use Rattle.nq_model.specs.declared.table.Cell.{Cell}
use Rattle.rows.specs.Held.{ArePlacesIn, cells_at, held_cells, number_cells}
use Rattle.rows.proofs.PlacedCells.{as_many, composed_cells, number_cells_at, numbers_many}
use Rattle.rows.proofs.PlacedCells.{repeated_cells}
use Rattle.rows.proofs.column.Column.at.Goals as goal

pub returns-in_ok-column-in-Placed : goal.returns-in_ok-column-in-Placed
returns-in_ok-column-in-Placed c =
    let cells = c.in-Placed.cells.value in
    let own = c.in-Placed.own.items in
    let seen : cells_at cells own ≡ c.args.self.now =
    ap held_cells (sym c.in-Placed.is) ∙ c.self.view_is in
    let within : All (λ (place : ℕ). place < length own) c.args.places.items =
    λ k d h. omega (arith, c.requires k d h, as_many cells own, ap length seen) in
    c.in_ok-column-in-Placed.ensures
    ∙ ap (cells_at cells) c.composed.ensures
    ∙ ap (λ (l : List ℕ). cells_at cells
    (map (λ (place : ℕ). get_or l place 0) c.args.places.items)) c.as_slice.ensures.value
    ∙ composed_cells cells own c.args.places.items within
    ∙ ap (λ (l : List Cell). cells_at l c.args.places.items) seen

pub returns-in_ok-column-in-Repeated : goal.returns-in_ok-column-in-Repeated
returns-in_ok-column-in-Repeated c =
    let cell = c.in-Repeated.cell in
    let places = c.args.places.items in
    let seen : replicate c.in-Repeated.count cell ≡ c.args.self.now =
    ap held_cells (sym c.in-Repeated.is) ∙ c.self.view_is in
    let many : c.len.result ≡ length places = omega (arith, c.len.ensures, c.args.places.ok) in
    c.in_ok-column-in-Repeated.ensures
    ∙ ap (λ (n : ℕ). replicate n (cell_seen c.as_ref.result)) many
    ∙ ap (replicate (length places)) c.as_ref.ensures
    ∙ sym (repeated_cells cell c.in-Repeated.count places
    (subst (λ (l : List Cell). ArePlacesIn l places) (sym seen) c.requires))
    ∙ ap (λ (l : List Cell). cells_at l places) seen

pub returns-in-Numbers : goal.returns-in-Numbers
returns-in-Numbers c =
    let own = c.in-Numbers.own.items in
    let places = c.args.places.items in
    let seen : number_cells own ≡ c.args.self.now =
    ap held_cells (sym c.in-Numbers.is) ∙ c.self.view_is in
    let within : All (λ (place : ℕ). place < length own) places =
    λ k d h. omega (arith, c.requires k d h, ap length seen, numbers_many own) in
    c.numbers.ensures
    ∙ ap number_cells c.composed-numbers.ensures
    ∙ ap (λ (l : List ℕ). number_cells (map (λ (place : ℕ). get_or l place 0) places))
    c.as_slice-in-Numbers.ensures.value
    ∙ sym (number_cells_at own places within)
    ∙ ap (λ (l : List Cell). cells_at l places) seen
