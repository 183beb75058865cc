use Rattle.std.proofs.Common.{ℕ, List, ◌<◌, ◌-◌, ◌∙◌, pos, length, get_or, ap, sym, arith}
use Rattle.std.proofs.lemmas.List.{get_or_read}
use Rattle.nq_model.specs.declared.table.Cell.{Cell}
use Rattle.nq_model.specs.declared.table.Cell.TheVariants as cell
use Rattle.rows.proofs.ColumnCells.{past_integers, text_there, rest_there, rest_within}
use Rattle.rows.proofs.cells.Cells.get.Goals as goal

pub returns-then-at-len-2 : goal.returns-then-at-len-2
returns-then-at-len-2 c =
    let past = past_integers c.self.inside.integers c.args.at c.get.result c.get.ensures c.in_default.is in
    ap cell.Text c.get-then-at-len-2.ensures
    ∙ sym (text_there c.self.inside.integers c.self.inside.truths.items c.self.inside.texts c.self.inside.rest c.args.self.now c.self.view_is c.args.at c.behind-at.result c.len-2.result
    past c.behind-at.ensures (omega (arith, c.len-2.ensures)) (cell.Int (pos 0)) (omega arith) (omega (arith, c.len-3.ensures)))

within : (c : goal.After-len-4) → c.behind-at.result - c.len-2.result - c.len-4.result < length c.self.inside.rest
within c =
    let past = past_integers c.self.inside.integers c.args.at c.get.result c.get.ensures c.in_default.is in
    let there = rest_within c.self.inside.integers c.self.inside.truths.items c.self.inside.texts c.self.inside.rest c.args.self.now c.self.view_is c.args.at c.behind-at.result c.len-2.result
    past c.behind-at.ensures (omega (arith, c.len-2.ensures)) c.requires (omega arith) (omega (arith, c.len-3.ensures)) in
    omega (arith, there, c.len-4.ensures)

pub bounds-as_slice-at : goal.bounds-as_slice-at
bounds-as_slice-at c = omega (arith, within c, ap length c.as_slice.ensures)

pub returns : goal.returns
returns c =
    let past = past_integers c.self.inside.integers c.args.at c.get.result c.get.ensures c.in_default.is in
    c.as_ref.ensures
    ∙ get_or_read c.self.inside.rest (c.behind-at.result - c.len-2.result - c.len-4.result) c.index-as_slice-at.result (within c.before.before)
    (c.index-as_slice-at.is ∙ ap (λ (cells : List Cell). get_or cells (c.behind-at.result - c.len-2.result - c.len-4.result) c.index-as_slice-at.result) c.as_slice.ensures) (cell.Int (pos 0))
    ∙ ap (λ (n : ℕ). get_or c.self.inside.rest n (cell.Int (pos 0))) (omega (arith, c.len-4.ensures))
    ∙ sym (rest_there c.self.inside.integers c.self.inside.truths.items c.self.inside.texts c.self.inside.rest c.args.self.now c.self.view_is c.args.at c.behind-at.result c.len-2.result
    past c.behind-at.ensures (omega (arith, c.len-2.ensures)) (cell.Int (pos 0)) (omega arith) (omega (arith, c.len-3.ensures)))
