use Rattle.std.proofs.Common.{◌≡◌, ◌∙◌, ap, sym, add-one, take, drop, ◌++◌, true, false, arith}
use Rattle.std.specs.Ordering.{is_gt}
use Rattle.nq_model.specs.Meaning.{put_field}
use Rattle.nq_model.specs.Orders.{label_cmp}
use Rattle.nq_model.specs.Values.{fields_view}
use Rattle.reference_terms.proofs.Fields.{belongs_behind, belongs_here, is_greater, is_not_greater}
use Rattle.reference_terms.proofs.records.place_of.Goals as goal

pub loop-at-preserved : goal.loop-at-preserved
loop-at-preserved c =
    let label = c.args.label.now in
    let seen = fields_view c.args.fields.now in
    let x = c.index-fields-at.result in
    let test : is_gt (label_cmp label x.0) ≡ true =
    ap is_gt (sym (c.cmp.ensures ∙ ap (label_cmp label) c.as_str.ensures.value)) ∙ is_greater c.cmp.result (sym c.ne.ensures ∙ c.if-ne.false) in
    λ v.
    ap (λ i. take i seen ++ put_field label v (drop i seen)) (add-one c.loop-at.at)
    ∙ belongs_behind label v c.args.fields.now c.loop-at.at x c.index-fields-at.is (omega arith) test
    ∙ c.loop-at.invariant v

pub returns-then-ne-clause-put : goal.returns-then-ne-clause-put
returns-then-ne-clause-put c =
    let label = c.args.label.now in
    let x = c.index-fields-at.result in
    let test : is_gt (label_cmp label x.0) ≡ false =
    ap is_gt (sym (c.cmp.ensures ∙ ap (label_cmp label) c.as_str.ensures.value)) ∙ is_not_greater c.cmp.result (sym c.ne.ensures ∙ c.if-ne.true) in
    λ v. belongs_here label v c.args.fields.now c.loop-at.at x c.index-fields-at.is (omega arith) test ∙ c.loop-at.invariant v
