use Rattle.std.proofs.Common.{◌≡◌, ◌++◌, string_bytes, drop}
use Rattle.nq_model.specs.Values.{fields_of, fields_view}
use Rattle.lineage.specs.TracedTexts.{rows_written}
use Rattle.lineage.proofs.text.write_all_rows.Given as goal

abbrev pub invariant-loop-part : goal.invariant-loop-part
invariant-loop-part l =
    string_bytes l.text ++ rows_written (fields_of (fields_view (drop l.part-index l.parts)))
    ≡ string_bytes l.initial.text ++ rows_written (fields_of (fields_view l.parts))
