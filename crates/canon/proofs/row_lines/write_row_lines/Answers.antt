use Rattle.std.proofs.Common.{◌≡◌, ◌++◌, ◌∙◌, ℕ, List, length, ap, codes, decimal, append_assoc, rules, string_bytes}
use Rattle.std.specs.List.{flat_map}
use Rattle.rows.specs.Places.{rows_at}
use Rattle.canon.specs.RowTexts.{row_line, rows_text}
use Rattle.canon.proofs.row_lines.write_row_lines.Goals as goal

pub returns : goal.returns
unfolding rows_text
returns c =
    let rows = c.args.rows.now in
    let lines = ap (flat_map row_line) (ap (rows_at rows) c.as_slice.ensures.value
    ∙ c.in_ok-places.ensures.order) in
    let bytes : c.into_bytes.result.items ≡ string_bytes c.write_lines.new.text = search rules in
    c.from_vec.ensures ∙ bytes ∙ c.in_ok-write_lines.ensures
    ∙ ap (λ (head : List ℕ). head ++ flat_map row_line (rows_at rows c.as_slice.result.now))
    (c.in_ok-text.ensures.ok ∙ ap (λ (n : ℕ). codes "rows "
    ++ (decimal n ++ codes "\n")) c.len.ensures)
    ∙ ap (λ (l : List ℕ). (codes "rows " ++ (decimal (length rows) ++ codes "\n")) ++ l) lines
    ∙ simp append_assoc
