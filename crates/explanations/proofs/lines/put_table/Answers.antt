use Rattle.std.proofs.Common.{◌++◌, ap, ◌∙◌, codes}
use Rattle.explanations.specs.Explanations.{table_line}
use Rattle.explanations.proofs.Pieces.{on_ok, put_three}
use Rattle.explanations.proofs.lines.put_table.Goals as goal

pub returns : goal.returns
unfolding table_line
returns c =
    on_ok c.extend_from_slice-3.result
    (put_three c.args.text.now c.extend_from_slice.new.self c.extend_from_slice-2.new.self
    c.extend_from_slice-3.new.self (codes "write: table ") c.args.name.now (codes "\n")
    c.in_ok-extend_from_slice.ensures.ok
    (c.in_ok-extend_from_slice-2.ensures.ok
    ∙ ap (λ l. c.extend_from_slice.new.self ++ l) c.as_bytes.ensures.value))
    c.extend_from_slice-3.ensures.ok
