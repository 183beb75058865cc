use Rattle.std.proofs.Common.{◌≡◌, ◌<◌, ◌∙◌, List, ap, arith, length, rules, slice_index_or}
use Rattle.std.proofs.lemmas.List.{length-map}
use Rattle.nq_ir.specs.Shredded.{shredded_tree}
use Rattle.nq_ir.specs.declared.shredded.Shredded.{Shredded}
use Rattle.nq_model.specs.declared.table.ColumnType.{ColumnType}
use Rattle.shred_types.specs.Columns.{answer_columns}
use Rattle.nq_compile.proofs.Forms.{columns_of_form, texts_more, spelled_more, spelled_all}
use Rattle.nq_compile.proofs.normal.texts_of.Goals as goal

pub bounds-as_slice-at-in-loop-at : goal.bounds-as_slice-at-in-loop-at
bounds-as_slice-at-in-loop-at c =
    let below : c.loop-at.at < length c.args.forms.now = search rules in
    let same : length c.as_slice-in-loop-at.result.now ≡ length c.args.forms.now = ap length (c.as_slice-in-loop-at.ensures ∙ c.requires.columns) ∙ length-map c.args.forms.now (λ (f : Shredded). answer_columns (shredded_tree f).element) in
    omega (arith, below, same)

pub text_of-requires-clause-columns : goal.text_of-requires-clause-columns
text_of-requires-clause-columns c =
    let k = c.loop-at.at in
    let form = c.index-as_slice-at.result in
    let own = c.index-as_slice-at-in-loop-at.result in
    let below : k < length c.args.forms.now = search rules in
    let here : form ≡ slice_index_or c.args.forms.now k form = c.index-as_slice-at.is ∙ ap (λ (l : List Shredded). slice_index_or l k form) c.as_slice.ensures in
    let at : own ≡ slice_index_or c.args.columns.now k own = c.index-as_slice-at-in-loop-at.is ∙ ap (λ (l : List (List ColumnType)). slice_index_or l k own) c.as_slice-in-loop-at.ensures in
    c.as_slice-in-loop-at-2.ensures ∙ columns_of_form c.args.columns.now c.args.forms.now k own form c.requires.columns below here at

pub loop-at-preserved : goal.loop-at-preserved
loop-at-preserved c =
    let schema = c.args.schema.now in
    let k = c.loop-at.at in
    let form = c.index-as_slice-at.result in
    let below : k < length c.args.forms.now = search rules in
    let here : form ≡ slice_index_or c.args.forms.now k form = c.index-as_slice-at.is ∙ ap (λ (l : List Shredded). slice_index_or l k form) c.as_slice.ensures in (
      texts_more schema c.args.forms.now k form below here c.loop-at.texts c.push.new.self c.in_ok-text.text c.loop-at.invariant.0 c.in_ok-text.ensures.is c.in_ok-push.ensures.ok,
      spelled_more schema c.args.forms.now k form below here c.loop-at.invariant.1 c.in_ok-text.ensures.spells,
    )

pub returns-clause-spell : goal.returns-clause-spell
returns-clause-spell c = spelled_all c.args.schema.now c.args.forms.now c.loop-at.at (search rules) c.loop-at.invariant.1
