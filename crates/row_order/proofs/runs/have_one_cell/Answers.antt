use Rattle.std.proofs.Common.{◌≡◌, true, ◌∙◌, rules, sym, ap}
use Rattle.std.proofs.lemmas.List.{take_all}
use Rattle.std.proofs.lemmas.List.Elements.{All-more, All-same}
use Rattle.nq_model.specs.CellRefs.{cell_seen}
use Rattle.nq_model.specs.Cells.{cell_eq}
use Rattle.nq_model.proofs.Sameness.{cell_Decides}
use Rattle.rows.specs.Places.{row_at}
use Rattle.row_order.specs.declared.ranks.Ranked.{Ranked}
use Rattle.row_order.specs.Keys.{cell_at}
use Rattle.row_order.proofs.runs.have_one_cell.Goals as goal

pub loop-ranked-preserved : goal.loop-ranked-preserved
loop-ranked-preserved c =
    let rows = c.args.rows.now in
    let column = c.args.column in
    let any : Ranked = record { head = 0; place = 0 } in
    let P : Ranked → Type 0 = λ ranked. cell_at column (row_at rows ranked.place) ≡ cell_seen c.cell_at-cell.result in
    let equal : cell_eq (cell_seen c.cell_at.result) (cell_seen c.cell_at-cell.result) ≡ true = search rules in
    let same : cell_seen c.cell_at.result ≡ cell_seen c.cell_at-cell.result = (cell_Decides (cell_seen c.cell_at.result) (cell_seen c.cell_at-cell.result)).0 equal in
    All-more P c.args.ranks.now c.loop-ranked.ranked-index any c.loop-ranked-test.true c.loop-ranked.invariant
    (ap (λ place. cell_at column (row_at rows place)) (sym c.place-in-loop-ranked.ensures) ∙ sym c.cell_at.ensures ∙ same)

pub returns : goal.returns
returns c = λ _.
    let P : Ranked → Type 0 = λ ranked. cell_at c.args.column (row_at c.args.rows.now ranked.place) ≡ cell_seen c.cell_at-cell.result in
    (cell_seen c.cell_at-cell.result, All-same P c.args.ranks.now _ (sym (take_all c.loop-ranked.ranked-index c.args.ranks.now c.loop-ranked-test.false)) c.loop-ranked.invariant)
