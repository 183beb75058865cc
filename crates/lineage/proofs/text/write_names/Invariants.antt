use Rattle.std.proofs.Common.{◌≡◌, ◌++◌, string_bytes, map, drop}
use Rattle.nq_model.specs.Values.{nested}
use Rattle.lineage.specs.TracedTexts.{names_text}
use Rattle.lineage.proofs.text.write_names.Given as goal

abbrev pub invariant-loop-place : goal.invariant-loop-place
invariant-loop-place l =
    string_bytes l.text ++ names_text l.place (map nested (drop l.place l.rows))
    ≡ string_bytes l.initial.text ++ names_text 0 (map nested l.rows)
