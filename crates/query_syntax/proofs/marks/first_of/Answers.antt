use Rattle.std.proofs.Common.{◌∙◌, ap, sym, add-one, drop, arith}
use Rattle.nq_model.specs.QueryTokens.{begins_with, symbol_front}
use Rattle.query_syntax.specs.Fronts.{table_view}
use Rattle.lexical.proofs.Fronts.{begins}
use Rattle.query_syntax.proofs.Fronts.{row_here, row_later}
use Rattle.query_syntax.proofs.marks.first_of.Goals as goal

pub returns-then-starts_with : goal.returns-then-starts_with
returns-then-starts_with c =
    let table = c.args.table.now in
    let bytes = c.args.bytes.now in
    let i = c.loop-row.row-index in
    let test = ap (λ cs. begins_with cs bytes) (sym c.as_bytes.ensures.value) ∙ sym (begins c.as_bytes.result.now bytes) ∙ sym c.starts_with.ensures.value ∙ c.if-starts_with.true in
    c.takes.ensures ∙ row_here table bytes i _ (omega arith) test ∙ c.loop-row.invariant

pub loop-row-preserved : goal.loop-row-preserved
loop-row-preserved c =
    let table = c.args.table.now in
    let bytes = c.args.bytes.now in
    let i = c.loop-row.row-index in
    let test = ap (λ cs. begins_with cs bytes) (sym c.as_bytes.ensures.value) ∙ sym (begins c.as_bytes.result.now bytes) ∙ sym c.starts_with.ensures.value ∙ c.if-starts_with.false in
    ap (λ k. symbol_front (table_view (drop k table)) bytes) (add-one i) ∙ row_later table bytes i _ (omega arith) test ∙ c.loop-row.invariant
