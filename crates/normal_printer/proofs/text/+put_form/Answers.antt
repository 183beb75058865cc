use Rattle.std.proofs.Common.{◌≡◌, [], ◌++◌, codes, true, false, length, string_bytes, refl, ap, ◌∙◌}
use Rattle.nq_ir.specs.Trees.{body_tree, conds_tree}
use Rattle.nq_ir.specs.Printed.{named_body}
use Rattle.normal_printer.specs.Parts.{gens_text, where_text, whole_term}
use Rattle.normal_printer.proofs.Joined.{comps_written, field_text, fields_joined, head_text, part_at, parts_end, three_pieces}
use Rattle.normal_printer.proofs.text.+put_form.Goals as goal

pub put_comp-returns : goal.put_comp-returns
put_comp-returns t c =
    let x = c.args.comp.now in
    head_text x.gens (conds_tree x.conds) (named_body (body_tree x.body)) _ _ _ _ _
    (c.in_ok-put_gens.ensures ∙ ap (λ g. string_bytes c.args.text.now ++ gens_text g) c.as_slice.ensures)
    (c.in_ok-put_where.ensures ∙ ap (λ b. string_bytes c.put_gens.new.text ++ where_text (conds_tree b)) c.as_slice-2.ensures)
    (three_pieces _ _ _ _ _ _ _ c.in_ok-push_str.ensures.bytes c.in_ok-put_body.ensures c.in_ok-push_str-2.ensures.bytes) refl

pub put_form-returns : goal.put_form-returns
put_form-returns t c =
    let comps = c.as_slice-comp-items.result.now in
    parts_end (part_at whole_term 2 (length comps)) [] (codes " ++ ") c.loop-place.place comps (string_bytes c.loop-place.text) _ c.loop-place-test.false c.loop-place.invariant
    ∙ ap (λ l. string_bytes c.args.text.now ++ l) (comps_written c.args.normal.now comps c.as_slice-comp-items.ensures (λ e. let w : false ≡ true = c.if-is_empty.ensures.1 e in cc))

pub put_record-returns : goal.put_record-returns
put_record-returns t c =
    let fields = c.args.fields.now in
    three_pieces _ _ _ _ _ _ _ c.in_ok-push_str.ensures.bytes
    (parts_end field_text [] (codes ", ") c.loop-place.place fields (string_bytes c.loop-place.text) _ c.loop-place-test.false c.loop-place.invariant) c.in_ok-push_str-4.ensures.bytes
    ∙ ap (λ l. string_bytes c.args.text.now ++ l) (fields_joined fields)
