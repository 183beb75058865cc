use Rattle.std.proofs.Common.{ap, ◌∙◌, ◌++◌, List, ℕ, codes}
use Rattle.nq_model.specs.Tables.{Columns}
use Rattle.database_scripts.specs.Columns.{around, columns_text, listed}
use Rattle.database_scripts.specs.declared.columns.Form.TheVariants.{Made}
use Rattle.database_scripts.specs.Loads.{made_text}
use Rattle.database_scripts.proofs.Pieces.{on_ok, put_four}
use Rattle.database_scripts.proofs.load.put_made.Goals as goal

pub returns : goal.returns
unfolding made_text
returns c =
    let shape = c.args.shape.now in
    on_ok c.extend_from_slice.result (put_four c.args.text.now _ _ _ _ (around (codes "CREATE TABLE ") shape.name (codes " (\n  ")) (columns_text (Made c.args.database) (codes ",\n  ") shape.columns)
    (listed (codes ",\n  PRIMARY KEY (") shape.key) (codes "\n);\n")
    c.in_ok-put_around.ensures
    (c.in_ok-put_columns.ensures ∙ ap (λ (cs : Columns). c.put_around.new.text ++ columns_text (Made c.args.database) (codes ",\n  ") cs) c.as_slice.ensures)
    (c.in_ok-put_listed.ensures ∙ ap (λ (ns : List (List ℕ)). c.put_columns.new.text ++ listed (codes ",\n  PRIMARY KEY (") ns) c.as_slice-2.ensures)) c.extend_from_slice.ensures.ok
