use Rattle.std.proofs.Common.{◌≡◌, [], ◌++◌, codes, drop, length, string_bytes}
use Rattle.normal_printer.specs.Parts.{whole_term}
use Rattle.normal_printer.proofs.Joined.{field_text, joined, part_at}
use Rattle.normal_printer.proofs.text.+put_form.Given as goal

abbrev pub invariant-put_record-loop-place : goal.invariant-put_record-loop-place
invariant-put_record-loop-place l =
    string_bytes l.text ++ joined field_text [] (codes ", ") l.place (drop l.place l.fields)
    ≡ string_bytes l.initial.text ++ joined field_text [] (codes ", ") 0 l.fields

abbrev pub invariant-put_form-loop-place : goal.invariant-put_form-loop-place
invariant-put_form-loop-place l =
    string_bytes l.text ++ joined (part_at whole_term 2 (length l.comp-items)) [] (codes " ++ ") l.place (drop l.place l.comp-items)
    ≡ string_bytes l.initial.text ++ joined (part_at whole_term 2 (length l.comp-items)) [] (codes " ++ ") 0 l.comp-items
