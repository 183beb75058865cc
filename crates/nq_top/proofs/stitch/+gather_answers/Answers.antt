use Rattle.std.proofs.Common.{◌≡◌, ◌+◌, ◌-◌, [], ◌∷◌, ℕ, List, Result, Ok, Err, length, ap, sym, subst, rules}
use Rattle.std.proofs.lemmas.List.{nil_from_length}
use Rattle.nq_model.specs.declared.table.ColumnType.{ColumnType}
use Rattle.sql_profile.specs.declared.answer.Answer.{Answer}
use Rattle.command_line.specs.declared.refusal.InputRefusal.{InputRefusal}
use Rattle.command_line.specs.declared.refusal.InputRefusal.TheVariants as input
use Rattle.nq_top.proofs.AnswerReadings.{AnswersTold, answers_end, answers_want, two_later, counted_later, answer_unfetched, answer_stops, answer_wants, answer_goes}
use Rattle.nq_top.proofs.stitch.+gather_answers.Goals as goal

pub returns-in_default-clause-leads : goal.returns-in_default-clause-leads
returns-in_default-clause-leads g t c =
    let empty : length c.args.columns.now ≡ 0 = search rules in
    let none : c.args.columns.now ≡ [] = nil_from_length c.args.columns.now empty in
    let Tell : List (List ColumnType) → Type 0 = λ all. AnswersTold (g.I.Inputs.held c.args.inputs.now) c.args.folder.now all c.args.left c.args.done (g.I.Inputs.fetched c.args.inputs.now) (g.I.Inputs.fetched c.args.inputs.now) (Ok c.args.done) in
    subst Tell (sym none) (answers_end _ c.args.folder.now c.args.left c.args.done _)

pub returns-in_err-name-clause-leads : goal.returns-in_err-name-clause-leads
returns-in_err-name-clause-leads g t c =
    let at : c.from_residual.result ≡ Err input.Memory = search rules in
    let Tell : Result (List Answer) InputRefusal → Type 0 = λ r. AnswersTold (g.I.Inputs.held c.args.inputs.now) c.args.folder.now c.args.columns.now c.args.left c.args.done (g.I.Inputs.fetched c.args.inputs.now) (g.I.Inputs.fetched c.args.inputs.now) r in
    subst Tell (sym at) (answers_want _ c.args.folder.now c.args.columns.now c.args.left c.args.done _)

pub returns-in_err-text-clause-leads : goal.returns-in_err-text-clause-leads
returns-in_err-text-clause-leads g t c =
    let columns_are : c.args.columns.now ≡ c.in-Some.types.now ∷ c.in-Some.later.now = search rules in
    let at : c.from_residual-in_err-text.result ≡ Err c.in_err-text.field-0.0 = search rules in
    let Tell : List (List ColumnType) → Result (List Answer) InputRefusal → Type 0 = λ all r. AnswersTold (g.I.Inputs.held c.args.inputs.now) c.args.folder.now all c.args.left c.args.done (g.I.Inputs.fetched c.args.inputs.now) (g.I.Inputs.fetched c.fetch_input.new.inputs) r in
    let told : Tell (c.in-Some.types.now ∷ c.in-Some.later.now) (Err c.in_err-text.field-0.0) = answer_unfetched c.args.folder.now c.in_ok-name.name _ c.in-Some.types.now c.in-Some.later.now c.args.left c.args.done
    (ap (λ (n : ℕ). n + 1) c.len.ensures) c.in_ok-name.ensures _ _ _ c.in_err-text.field-0.0 c.in_err-text.ensures.says c.in_err-text.ensures.names in
    subst (λ (r : Result (List Answer) InputRefusal). Tell c.args.columns.now r) (sym at) (subst (λ (all : List (List ColumnType)). Tell all (Err c.in_err-text.field-0.0)) (sym columns_are) told)

pub returns-in_err-answer-clause-leads : goal.returns-in_err-answer-clause-leads
returns-in_err-answer-clause-leads g t c =
    let columns_are : c.args.columns.now ≡ c.in-Some.types.now ∷ c.in-Some.later.now = search rules in
    let at : c.from_residual-in_err-answer.result ≡ Err c.in_err-answer.field-0.0 = search rules in
    let Tell : List (List ColumnType) → Result (List Answer) InputRefusal → Type 0 = λ all r. AnswersTold (g.I.Inputs.held c.args.inputs.now) c.args.folder.now all c.args.left c.args.done (g.I.Inputs.fetched c.args.inputs.now) (g.I.Inputs.fetched c.fetch_input.new.inputs) r in
    let told : Tell (c.in-Some.types.now ∷ c.in-Some.later.now) (Err c.in_err-answer.field-0.0) = answer_stops c.args.folder.now c.in_ok-name.name _ c.in-Some.types.now c.in-Some.later.now c.args.left c.args.done
    (ap (λ (n : ℕ). n + 1) c.len.ensures) c.in_ok-name.ensures c.in_ok-text.text _ _ _ c.in_err-answer.field-0.0 c.in_ok-text.ensures.says c.in_ok-text.ensures.names (search rules) in
    subst (λ (r : Result (List Answer) InputRefusal). Tell c.args.columns.now r) (sym at) (subst (λ (all : List (List ColumnType)). Tell all (Err c.in_err-answer.field-0.0)) (sym columns_are) told)

pub returns-in_err-answers-clause-leads : goal.returns-in_err-answers-clause-leads
returns-in_err-answers-clause-leads g t c =
    let columns_are : c.args.columns.now ≡ c.in-Some.types.now ∷ c.in-Some.later.now = search rules in
    let at : c.from_residual-in_err-answers.result ≡ Err input.Memory = search rules in
    let Tell : List (List ColumnType) → Result (List Answer) InputRefusal → Type 0 = λ all r. AnswersTold (g.I.Inputs.held c.args.inputs.now) c.args.folder.now all c.args.left c.args.done (g.I.Inputs.fetched c.args.inputs.now) (g.I.Inputs.fetched c.fetch_input.new.inputs) r in
    let told : Tell (c.in-Some.types.now ∷ c.in-Some.later.now) (Err input.Memory) = answer_wants c.args.folder.now c.in_ok-name.name _ c.in-Some.types.now c.in-Some.later.now c.args.left c.args.done
    (ap (λ (n : ℕ). n + 1) c.len.ensures) c.in_ok-name.ensures c.in_ok-text.text _ _ _ c.in_ok-text.ensures.says c.in_ok-text.ensures.names in
    subst (λ (r : Result (List Answer) InputRefusal). Tell c.args.columns.now r) (sym at) (subst (λ (all : List (List ColumnType)). Tell all (Err input.Memory)) (sym columns_are) told)

pub returns-clause-leads : goal.returns-clause-leads
returns-clause-leads g t c =
    let columns_are : c.args.columns.now ≡ c.in-Some.types.now ∷ c.in-Some.later.now = search rules in
    let Tell : List (List ColumnType) → Type 0 = λ all. AnswersTold (g.I.Inputs.held c.args.inputs.now) c.args.folder.now all c.args.left c.args.done (g.I.Inputs.fetched c.args.inputs.now) (g.I.Inputs.fetched c.gather_answers.new.inputs) c.gather_answers.result in
    subst Tell (sym columns_are) (answer_goes c.args.folder.now c.in_ok-name.name _ c.in-Some.types.now c.in-Some.later.now c.args.left c.args.done
    (ap (λ (n : ℕ). n + 1) c.len.ensures) c.in_ok-name.ensures c.in_ok-text.text _ _ _ c.in_ok-answers.answers c.in_ok-answer.answer _ _ _ c.gather_answers.result
    c.in_ok-text.ensures.same c.in_ok-text.ensures.says c.in_ok-text.ensures.names (search rules)
    (ap (λ (n : ℕ). c.args.left - n) c.len-2.ensures) c.in_ok-answers.ensures c.gather_answers.ensures.leads)

pub gather_answers-requires : goal.gather_answers-requires
gather_answers-requires g t c κs within =
    let columns_are : c.args.columns.now ≡ c.in-Some.types.now ∷ c.in-Some.later.now = search rules in
    let two = two_later c.in-Some.types.now c.in-Some.later.now c.args.columns.now columns_are c.requires.1.1.1.0 in
    let counted = counted_later _ c.args.done c.in_ok-answers.answers c.in_ok-answer.answer c.in-Some.types.now c.in-Some.later.now c.args.columns.now c.in_ok-answers.ensures columns_are c.requires.1.1.1.1 in
    (search rules, (search rules, (two, counted)))
