use Rattle.std.proofs.Common.{◌≡◌, [], ◌++◌, codes, drop, string_bytes}
use Rattle.normal_printer.proofs.Joined.{field_type_text, joined}
use Rattle.normal_printer.proofs.types.+put_type.Given as goal

abbrev pub invariant-put_field_types-loop-place : goal.invariant-put_field_types-loop-place
invariant-put_field_types-loop-place l =
    string_bytes l.text ++ joined field_type_text [] (codes ", ") l.place (drop l.place l.fields)
    ≡ string_bytes l.initial.text ++ joined field_type_text [] (codes ", ") 0 l.fields
