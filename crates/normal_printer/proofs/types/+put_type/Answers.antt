use Rattle.std.proofs.Common.{[], ◌++◌, codes, string_bytes, ap, ◌∙◌}
use Rattle.normal_printer.proofs.Joined.{field_type_text, parts_end, three_pieces, types_joined}
use Rattle.normal_printer.proofs.types.+put_type.Goals as goal

pub put_field_types-returns : goal.put_field_types-returns
put_field_types-returns t c =
    let fields = c.args.fields.now in
    three_pieces _ _ _ _ _ _ _ c.in_ok-push_str.ensures.bytes
    (parts_end field_type_text [] (codes ", ") c.loop-place.place fields (string_bytes c.loop-place.text) _ c.loop-place-test.false c.loop-place.invariant) c.in_ok-push_str-4.ensures.bytes
    ∙ ap (λ l. string_bytes c.args.text.now ++ l) (types_joined fields)
