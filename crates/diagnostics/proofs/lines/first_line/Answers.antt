use Rattle.std.proofs.Common.{◌≡◌, ◌∙◌, ap, sym, false, drop, arith}
use Rattle.std.proofs.lemmas.List.{take_rest}
use Rattle.diagnostics.specs.Lines.{ends_line}
use Rattle.diagnostics.proofs.LineSteps.{first_line_more}
use Rattle.diagnostics.proofs.lines.first_line.Goals as goal

pub loop-at-preserved : goal.loop-at-preserved
loop-at-preserved c =
    let goes_on : ends_line (drop c.loop-at.at c.args.bytes.now) ≡ false
    = ap ends_line (sym (take_rest c.args.bytes.now c.loop-at.at)) ∙ sym c.ends_line.ensures
    ∙ c.if-ends_line.false in
    sym (first_line_more c.args.bytes.now c.loop-at.at (omega arith) goes_on) ∙ c.loop-at.invariant
