use Rattle.std.proofs.Common.{ap, ◌∙◌, ◌++◌, List, ℕ, codes}
use Rattle.nq_model.specs.Tables.{Columns}
use Rattle.database_scripts.specs.Columns.{around, columns_text, listed}
use Rattle.database_scripts.specs.declared.columns.Form.TheVariants.{Named}
use Rattle.database_scripts.specs.Loads.{copied_text, never_null}
use Rattle.database_scripts.proofs.Pieces.{on_ok, put_seven}
use Rattle.database_scripts.proofs.load.put_copied.Goals as goal

pub returns : goal.returns
unfolding copied_text
returns c =
    let shape = c.args.shape.now in
    let head : List ℕ = codes ", FORCE_NOT_NULL (" in
    on_ok c.extend_from_slice-4.result (put_seven c.args.text.now _ _ _ _ _ _ _ (around (codes "\\copy ") shape.name (codes " (")) (columns_text Named (codes ", ") shape.columns)
    (codes ") FROM '") shape.name (codes ".csv' WITH (FORMAT csv, HEADER true") (listed head (never_null shape.columns)) (codes ")\n")
    c.in_ok-put_around.ensures
    (c.in_ok-put_columns.ensures ∙ ap (λ (cs : Columns). c.put_around.new.text ++ columns_text Named (codes ", ") cs) c.as_slice-columns.ensures)
    c.in_ok-extend_from_slice.ensures.ok
    (c.in_ok-extend_from_slice-2.ensures.ok ∙ ap (λ (l : List ℕ). c.extend_from_slice.new.self ++ l) (c.as_bytes.ensures.value ∙ c.as_str.ensures.value))
    c.in_ok-extend_from_slice-3.ensures.ok
    (c.in_ok-put_listed.ensures ∙ ap (λ (ns : List (List ℕ)). c.extend_from_slice-3.new.self ++ listed head ns)
    (c.as_slice.ensures ∙ c.in_ok-names.ensures ∙ ap never_null c.as_slice-columns.ensures))) c.extend_from_slice-4.ensures.ok
