use Rattle.std.proofs.Common.{◌≡◌, [], map, None, ◌∙◌}
use Rattle.std.proofs.lemmas.Result.{err_from_is_err_and}
use Rattle.nq_model.specs.SchemaTexts.{column_names}
use Rattle.schema_reader.specs.Shapes.{columns_fault, keys_fault}
use Rattle.schema_reader.specs.Views.{name_view, column_view}
use Rattle.schema_reader.specs.Reading.{table_view}
use Rattle.schema_reader.proofs.Told.{tells_same, made_names, shape_left, shape_made}
use Rattle.schema_reader.proofs.shapes.shape.Goals as goal

pub returns-in_err-key : goal.returns-in_err-key
returns-in_err-key c =
    let p = err_from_is_err_and c.from_residual-in_err-key.result c.from_residual-in_err-key.ensures.1 in
    let t = c.args.table.now in
    let made = made_names c.in_ok-columns.columns c.as_slice.result.now t.columns c.in_ok-columns.ensures.1 c.as_slice.ensures in
    let right : columns_fault [] (map column_view t.columns) ≡ None = rw c.as_slice.ensures at c.in_ok-columns.ensures.0 in
    let h = rw (c.as_slice-2.ensures, made, c.as_slice-3.ensures) at c.in_err-key.ensures in
    rw (p.1, p.2)
    (tells_same c.in_err-key.field-0.0 (keys_fault (column_names (map column_view t.columns)) [] (map name_view t.key)) _ h
    (shape_left (map (λ s. s.name) c.args.tables.now) (table_view t) c.in_ok-judge_table.ensures right))

pub returns : goal.returns
returns c =
    let t = c.args.table.now in
    let made = made_names c.in_ok-columns.columns c.as_slice.result.now t.columns c.in_ok-columns.ensures.1 c.as_slice.ensures in
    let right : columns_fault [] (map column_view t.columns) ≡ None = rw c.as_slice.ensures at c.in_ok-columns.ensures.0 in
    let h = rw (c.as_slice-2.ensures, made, c.as_slice-3.ensures) at c.in_ok-key.ensures.0 in (
      shape_left (map (λ s. s.name) c.args.tables.now) (table_view t) c.in_ok-judge_table.ensures right ∙ h,
      shape_made (table_view t) c.in_ok-name.name c.in_ok-columns.columns c.in_ok-key.key c.in_ok-name.ensures
          (rw c.as_slice.ensures at c.in_ok-columns.ensures.1) (rw c.as_slice-3.ensures at c.in_ok-key.ensures.1),
    )
