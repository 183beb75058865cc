use Rattle.std.proofs.Common.{ap, ap₂, ◌∙◌, ◌++◌, codes}
use Rattle.nq_model.specs.Tables.{Columns}
use Rattle.database_scripts.specs.Columns.{around, columns_text}
use Rattle.database_scripts.specs.declared.columns.Form.{Form}
use Rattle.database_scripts.specs.declared.columns.Form.TheVariants.{Named}
use Rattle.database_scripts.specs.Loads.{inserted_text, read_form}
use Rattle.database_scripts.proofs.Pieces.{on_ok, put_five}
use Rattle.database_scripts.proofs.load.put_inserted.Goals as goal

pub returns : goal.returns
unfolding inserted_text
returns c =
    let shape = c.args.shape.now in
    let lent = c.as_slice-columns.ensures in
    on_ok c.extend_from_slice-2.result (put_five c.args.text.now _ _ _ _ _ (around (codes "INSERT INTO ") shape.name (codes " (")) (columns_text Named (codes ", ") shape.columns)
    (codes ") SELECT ") (columns_text (read_form shape.columns) (codes ", ") shape.columns) (codes " FROM \"cells of csv\";\nDROP TABLE \"cells of csv\";\n")
    c.in_ok-put_around.ensures
    (c.in_ok-put_columns.ensures ∙ ap (λ (cs : Columns). c.put_around.new.text ++ columns_text Named (codes ", ") cs) lent)
    c.in_ok-extend_from_slice.ensures.ok
    (c.in_ok-put_columns-2.ensures ∙ ap₂ (λ (form : Form) (cs : Columns). c.extend_from_slice.new.self ++ columns_text form (codes ", ") cs) (c.read_form.ensures ∙ ap read_form lent) lent)) c.extend_from_slice-2.ensures.ok
