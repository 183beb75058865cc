use Rattle.std.proofs.Common.{◌≡◌, ◌++◌, string_bytes, map, drop}
use Rattle.nq_model.specs.Values.{nested, fields_of, elements_of, fields_view}
use Rattle.lineage.specs.TracedTexts.{fields_written, elements_written}
use Rattle.lineage.proofs.text.+write.Given as goal

abbrev pub invariant-write_fields-loop-place : goal.invariant-write_fields-loop-place
invariant-write_fields-loop-place l =
    string_bytes l.text ++ fields_written l.place (fields_of (fields_view (drop l.place l.fields)))
    ≡ string_bytes l.initial.text ++ fields_written 0 (fields_of (fields_view l.fields))

abbrev pub invariant-write_elements-loop-place : goal.invariant-write_elements-loop-place
invariant-write_elements-loop-place l =
    string_bytes l.text ++ elements_written l.place
    (elements_of (map nested (drop l.place l.elements)))
    ≡ string_bytes l.initial.text ++ elements_written 0 (elements_of (map nested l.elements))
