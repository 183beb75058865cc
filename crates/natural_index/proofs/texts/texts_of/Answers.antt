use Rattle.std.proofs.Common.{ℕ, ◌<◌, get_or, refl, ◌∙◌, length}
use Rattle.sql_profile.specs.Trees.{sql_tree}
use Rattle.stitcher.specs.Schemes.{element_of}
use Rattle.natural_keys.specs.Layouts.{layout_at}
use Rattle.natural_keys.specs.NaturalKeys.{element_columns, index_columns}
use Rattle.natural_index.specs.Trees.{HasNumbers, elements_of, parts_of, tree_in}
use Rattle.natural_index.proofs.TextMore.{below_more, made_more, numbers_are, text_is}
use Rattle.natural_index.proofs.texts.texts_of.Goals as goal

pub loop-at-preserved : goal.loop-at-preserved
loop-at-preserved c =
    let S = c.args.schema.now.tables in
    let outers = c.args.outers.now in
    let inners = c.args.inners.now in
    let forms = c.args.forms.now in
    let k = c.loop-at.at in
    let within : k < length forms = c.loop-at-test.true in
    let few = numbers_are outers inners forms k within (get_or forms k c.index-forms-at.result)
    c.index-forms-at.result refl c.as_slice.result.now
    (c.as_slice.ensures ∙ c.in_ok-columns.ensures)
    (c.has_numbers.ensures c.if-not-has_numbers.false) in
    let form = c.index-forms-at-in-loop-at.result in
    record {
      are = made_more (tree_in S outers inners (elements_of forms)
          (parts_of forms)) c.loop-at.texts c.push.new.self c.in_ok-text_at.field-0 k
          c.loop-at.invariant.are c.in_ok-push.ensures.ok
          (text_is outers inners forms k within form form c.index-forms-at-in-loop-at.is S
          (sql_tree c.in_ok-text_at.field-0) c.in_ok-text_at.ensures);
      numbered = below_more (λ (q : ℕ). HasNumbers (layout_at outers q)
          (element_columns (index_columns (layout_at inners q)) (element_of (elements_of forms) q)))
          k c.loop-at.invariant.numbered few;
    }
