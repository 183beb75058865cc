use Rattle.std.proofs.Common.{ap, ◌∙◌, ◌++◌, List, ℕ, codes}
use Rattle.nq_model.specs.Tables.{Columns}
use Rattle.database_scripts.specs.Columns.{columns_text}
use Rattle.database_scripts.specs.declared.columns.Form.TheVariants.{Staged}
use Rattle.database_scripts.specs.Loads.{staged_text}
use Rattle.database_scripts.proofs.Pieces.{on_ok, put_five}
use Rattle.database_scripts.proofs.load.put_staged.Goals as goal

pub returns : goal.returns
unfolding staged_text
returns c =
    let shape = c.args.shape.now in
    on_ok c.extend_from_slice-4.result (put_five c.args.text.now _ _ _ _ _ (codes "CREATE TABLE \"cells of csv\" (") (columns_text Staged (codes ", ") shape.columns)
    (codes ");\n.import --csv --skip 1 ") shape.name (codes ".csv \"cells of csv\"\n")
    c.in_ok-extend_from_slice.ensures.ok
    (c.in_ok-put_columns.ensures ∙ ap (λ (cs : Columns). c.extend_from_slice.new.self ++ columns_text Staged (codes ", ") cs) c.as_slice.ensures)
    c.in_ok-extend_from_slice-2.ensures.ok
    (c.in_ok-extend_from_slice-3.ensures.ok ∙ ap (λ (l : List ℕ). c.extend_from_slice-2.new.self ++ l) (c.as_bytes.ensures.value ∙ c.as_str.ensures.value))) c.extend_from_slice-4.ensures.ok
