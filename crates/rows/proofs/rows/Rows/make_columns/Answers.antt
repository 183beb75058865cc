use Rattle.std.proofs.Common.{◌≡◌, ◌++◌, ◌∙◌, List, length, sym, ap, ap₂, refl, arith}
use Rattle.std.proofs.lemmas.List.{nil_from_length}
use Rattle.nq_model.specs.declared.table.Cell.{Cell}
use Rattle.rows.specs.Columns.{rows_over}
use Rattle.rows.proofs.ColumnRows.{no_cells}
use Rattle.rows.proofs.rows.Rows.make_columns.Goals as goal

none : (c : goal.After-self-1) → (c.self.inside.in_columns ≡ 0) × (length c.self.inside.behind ≡ 0)
none c = (omega (arith, c.self.invariant.1), omega (arith, c.self.invariant.1))

pub invariant_of-self : goal.invariant_of-self
invariant_of-self c =
    let cells = no_cells c.in_ok-self-inside.field-0.items c.args.row.now c.self.inside.in_columns c.in_ok-self-inside.ensures (none c).0 in
    (cells.0, c.self.invariant.1, λ t. (cells.1, nil_from_length c.self.inside.behind (none c).1))

pub returns : goal.returns
returns c =
    ap₂ (λ (rows behind : List (List Cell)). rows ++ behind)
    (ap (rows_over c.in_ok-self-inside.field-0.items) (none c).0 ∙ sym (ap (rows_over c.self.inside.columns.items) (none c).0)) refl
    ∙ c.self.view_is
