use Rattle.std.proofs.Common.{◌<◌, ◌∙◌, List, All, length, sym, subst, rules}
use Rattle.nq_model.specs.Types.{TypeTree, type_tree}
use Rattle.nq_model.specs.declared.table.ColumnType.{ColumnType}
use Rattle.nq_ir.specs.NormalForms.{element_type}
use Rattle.nq_ir.specs.Parts.{element_types}
use Rattle.nq_execute.specs.Plans.{writing_view}
use Rattle.nq_execute.specs.Serving.{Fit}
use Rattle.stitcher.specs.FlatNumbers.{flat_numbers}
use Rattle.stitcher.specs.Stitching.{rows_of, AreAnswersOf}
use Rattle.nq_top.specs.Judging.{stitch_judged}
use Rattle.nq_top.specs.Plans.{draft_view}
use Rattle.nq_top.specs.Steps.{typed_view}
use Rattle.nq_top.proofs.Steps.{memory_stops}
use Rattle.nq_top.proofs.Stitches.{of_bag, have_two, can_finish, are_answers, answers_all, stitch_stops, stitch_refuses, stitch_goes}
use Rattle.nq_top.proofs.stitch.gather_stitched.Goals as goal

pub gather_answers-requires-clause-two : goal.gather_answers-requires-clause-two
gather_answers-requires-clause-two g c =
    subst (λ (cs : List (List ColumnType)). All (λ (types : List ColumnType). 1 < length types) cs) (sym c.as_slice-columns.ensures)
    (have_two c.args.schema.now (typed_view c.args.query) (writing_view c.args.writing) (draft_view c.in_ok-draft.draft) c.requires c.in_ok-draft.ensures.is)

pub linked_text-requires-clause-bag : goal.linked_text-requires-clause-bag
linked_text-requires-clause-bag g c = (
  element_type (type_tree c.args.query.ty),
  c.in_ok-of.ensures ∙ sym (of_bag c.args.schema.now (typed_view c.args.query) (writing_view c.args.writing) (draft_view c.in_ok-draft.draft) c.requires c.in_ok-draft.ensures.is),
)

pub linked_text-requires-clause-answers : goal.linked_text-requires-clause-answers
linked_text-requires-clause-answers g c =
    subst (λ (a : TypeTree). AreAnswersOf (flat_numbers (element_types a)) a (rows_of c.in_ok-answers.answers)) (sym c.in_ok-of.ensures)
    (are_answers c.args.schema.now (typed_view c.args.query) (writing_view c.args.writing) (draft_view c.in_ok-draft.draft) c.requires c.in_ok-draft.ensures.is c.in_ok-answers.answers
    (subst (λ (cs : List (List ColumnType)). Fit cs c.in_ok-answers.answers) c.as_slice-columns.ensures
    (answers_all c.new-done.result c.in_ok-answers.answers c.as_slice-columns.result.now c.new-done.ensures c.in_ok-answers.ensures.reads)))

pub linked_text-requires-clause-finishable : goal.linked_text-requires-clause-finishable
linked_text-requires-clause-finishable g c =
    can_finish c.args.schema.now (typed_view c.args.query) (writing_view c.args.writing) (draft_view c.in_ok-draft.draft) c.requires c.in_ok-draft.ensures.is

pub linked_text-requires-clause-fit : goal.linked_text-requires-clause-fit
linked_text-requires-clause-fit g c =
    subst (λ (cs : List (List ColumnType)). Fit cs c.in_ok-answers.answers) c.as_slice-columns.ensures
    (answers_all c.new-done.result c.in_ok-answers.answers c.as_slice-columns.result.now c.new-done.ensures c.in_ok-answers.ensures.reads)

pub returns-in_err-of-clause-tells : goal.returns-in_err-of-clause-tells
returns-in_err-of-clause-tells g c =
    memory_stops _ (λ reading files. stitch_judged (writing_view c.args.writing) reading.plain files c.args.folder.now c.args.schema.now (typed_view c.args.query)) _ _ (search rules)

pub returns-in_err-draft-clause-tells : goal.returns-in_err-draft-clause-tells
returns-in_err-draft-clause-tells g c =
    memory_stops _ (λ reading files. stitch_judged (writing_view c.args.writing) reading.plain files c.args.folder.now c.args.schema.now (typed_view c.args.query)) _ _ (search rules)

pub returns-in_err-answers-clause-tells : goal.returns-in_err-answers-clause-tells
returns-in_err-answers-clause-tells g c =
    stitch_stops _ c.args.folder.now c.args.schema.now (typed_view c.args.query) (writing_view c.args.writing) (draft_view c.in_ok-draft.draft) c.as_slice-columns.result.now c.new-done.result
    c.in_ok-draft.ensures.is c.as_slice-columns.ensures c.new-done.ensures _ _ c.in_err-answers.field-0.0 _ (search rules) c.in_err-answers.ensures.leads

pub returns-in_err-text-clause-tells : goal.returns-in_err-text-clause-tells
returns-in_err-text-clause-tells g c =
    stitch_refuses _ c.args.folder.now c.args.schema.now (typed_view c.args.query) (writing_view c.args.writing) (draft_view c.in_ok-draft.draft) c.as_slice-columns.result.now c.new-done.result
    c.in_ok-draft.ensures.is c.as_slice-columns.ensures c.new-done.ensures (type_tree c.in_ok-of.of) c.in_ok-answers.answers _ _ c.in_ok-of.ensures c.in_ok-answers.ensures.leads
    c.in_err-text.field-0.0 _ (search rules) c.in_err-text.ensures.refused

pub returns-clause-tells : goal.returns-clause-tells
returns-clause-tells g c =
    stitch_goes _ c.args.folder.now c.args.schema.now (typed_view c.args.query) (writing_view c.args.writing) (draft_view c.in_ok-draft.draft) c.as_slice-columns.result.now c.new-done.result
    c.in_ok-draft.ensures.is c.as_slice-columns.ensures c.new-done.ensures (type_tree c.in_ok-of.of) c.in_ok-answers.answers _ _ c.in_ok-of.ensures c.in_ok-answers.ensures.leads
    c.in_ok-text.text c.in_ok-text.ensures.linked c.in_ok-text.ensures.text c.in_ok-draft.ensures.sound c.in_ok-draft.ensures.linked
