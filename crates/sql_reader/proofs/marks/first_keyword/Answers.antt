use Rattle.std.proofs.Common.{◌∙◌, ap, sym, add-one, drop, map, arith}
use Rattle.sql_profile.specs.Tokens.{capital, same_bytes, word_front}
use Rattle.sql_reader.specs.Fronts.{table_view}
use Rattle.sql_reader.proofs.Fronts.{keyword_here, keyword_later}
use Rattle.sql_reader.proofs.marks.first_keyword.Goals as goal

pub returns-then-is_keyword : goal.returns-then-is_keyword
returns-then-is_keyword c =
    let table = c.args.table.now in
    let word = c.args.word.now in
    let i = c.loop-row.row-index in
    let test = ap (λ cs. same_bytes cs (map capital word)) (sym c.as_bytes.ensures.value) ∙ sym c.is_keyword.ensures ∙ c.if-is_keyword.true in
    keyword_here table i _ (omega arith) word test ∙ c.loop-row.invariant

pub loop-row-preserved : goal.loop-row-preserved
loop-row-preserved c =
    let table = c.args.table.now in
    let word = c.args.word.now in
    let i = c.loop-row.row-index in
    let test = ap (λ cs. same_bytes cs (map capital word)) (sym c.as_bytes.ensures.value) ∙ sym c.is_keyword.ensures ∙ c.if-is_keyword.false in
    ap (λ k. word_front (table_view (drop k table)) word) (add-one i) ∙ keyword_later table i _ (omega arith) word test ∙ c.loop-row.invariant
