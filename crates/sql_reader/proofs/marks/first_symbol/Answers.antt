use Rattle.std.proofs.Common.{◌∙◌, ap, sym, add-one, drop, arith}
use Rattle.sql_profile.specs.Tokens.{begins_with, symbol_front}
use Rattle.sql_reader.specs.Fronts.{table_view}
use Rattle.lexical.proofs.Fronts.{begins}
use Rattle.sql_reader.proofs.Fronts.{same_begins, symbol_here, symbol_later}
use Rattle.sql_reader.proofs.marks.first_symbol.Goals as goal

pub returns-then-starts_with : goal.returns-then-starts_with
returns-then-starts_with c =
    let table = c.args.table.now in
    let bytes = c.args.bytes.now in
    let i = c.loop-row.row-index in
    let test = ap (λ cs. begins_with cs bytes) (sym c.as_bytes.ensures.value) ∙ sym (begins c.as_bytes.result.now bytes ∙ same_begins c.as_bytes.result.now bytes) ∙ sym c.starts_with.ensures.value ∙ c.if-starts_with.true in
    symbol_here table i _ (omega arith) bytes test ∙ c.loop-row.invariant

pub loop-row-preserved : goal.loop-row-preserved
loop-row-preserved c =
    let table = c.args.table.now in
    let bytes = c.args.bytes.now in
    let i = c.loop-row.row-index in
    let test = ap (λ cs. begins_with cs bytes) (sym c.as_bytes.ensures.value) ∙ sym (begins c.as_bytes.result.now bytes ∙ same_begins c.as_bytes.result.now bytes) ∙ sym c.starts_with.ensures.value ∙ c.if-starts_with.false in
    ap (λ k. symbol_front (table_view (drop k table)) bytes) (add-one i) ∙ symbol_later table i _ (omega arith) bytes test ∙ c.loop-row.invariant
