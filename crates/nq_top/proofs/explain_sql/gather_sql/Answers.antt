use Rattle.std.proofs.Common.{List, ℕ, rules, subst}
use Rattle.nq_top.specs.Judging.{at_once, columns_or_explained}
use Rattle.nq_top.specs.Limits.{text_limit}
use Rattle.nq_top.specs.Reading.{Reading}
use Rattle.nq_top.specs.Steps.{Says}
use Rattle.nq_top.proofs.Explainings.{text_goes, text_says}
use Rattle.nq_top.proofs.Steps.{memory_stops}
use Rattle.nq_top.proofs.explain_sql.gather_sql.Goals as goal

pub returns-in_err-made-clause-tells : goal.returns-in_err-made-clause-tells
returns-in_err-made-clause-tells g c =
    let judged = λ (reading : Reading) (text : List ℕ).
    at_once (columns_or_explained c.args.schema.now c.args.name.now text
    (reading.sqls.says text)) in
    text_goes text_limit _ _ c.args.name.now c.in_ok-text.text c.as_slice.result.now
    (λ reading files text. judged reading text) _ _ _ _ c.as_slice.ensures
    c.in_ok-text.ensures.same c.in_ok-text.ensures.says c.in_ok-text.ensures.names
    (memory_stops _ (λ reading files. judged reading c.as_slice.result.now) _ _ (search rules))

pub returns-clause-tells : goal.returns-clause-tells
returns-clause-tells g c =
    let named = λ (reading : Reading) (name : List ℕ).
    Says (columns_or_explained c.args.schema.now name c.as_slice.result.now
    (reading.sqls.says c.as_slice.result.now)) c.in_ok-made.made in
    text_says text_limit _ c.args.name.now c.in_ok-text.text c.as_slice.result.now
    (λ reading text. columns_or_explained c.args.schema.now c.args.name.now text
    (reading.sqls.says text)) _ _ c.in_ok-made.made c.as_slice.ensures
    c.in_ok-text.ensures.says c.in_ok-text.ensures.names
    (λ reading. subst (named reading) c.as_bytes.ensures.value
    (c.in_ok-made.ensures reading.sqls))
