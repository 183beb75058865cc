use Rattle.std.proofs.Common.{◌≤◌, ap, sym, ◌∙◌, subst, Some}
use Rattle.rows.specs.Places.{rows_at}
use Rattle.serde_json.specs.Data.{Data, depth}
use Rattle.serde_json.specs.Read.{max_depth}
use Rattle.serde_json.specs.Written.{has_float}
use Rattle.nq_json.specs.Json.{json_line}
use Rattle.nq_json.specs.Rows.{json_rows_text}
use Rattle.nq_json.proofs.RowForms.{no_float_rows, shallow}
use Rattle.nq_json.proofs.row_arrays.write_json_rows.Goals as goal

pub write_line-requires : goal.write_line-requires
write_line-requires c = ap has_float c.in_ok-form.ensures ∙ no_float_rows (rows_at c.args.rows.now c.args.places.now)

pub returns-clause-text : goal.returns-clause-text
unfolding json_rows_text
returns-clause-text c = c.in_ok-text.ensures.text ∙ ap json_line c.in_ok-form.ensures

pub returns-clause-reads_back : goal.returns-clause-reads_back
returns-clause-reads_back c =
    let is = c.in_ok-form.ensures in
    let low = subst (λ (d : Data). depth d ≤ max_depth) (sym is) (shallow (rows_at c.args.rows.now c.args.places.now)) in
    c.in_ok-text.ensures.reads_back low ∙ ap Some is
