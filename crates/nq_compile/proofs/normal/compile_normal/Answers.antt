use Rattle.std.proofs.Common.{◌≡◌, ℕ, List, map, ap, ap₂, sym, ◌∙◌, subst}
use Rattle.nq_model.specs.Types.{TypeTree, bag}
use Rattle.nq_ir.specs.Paths.{paths}
use Rattle.nq_ir.specs.declared.path.Step.{Step}
use Rattle.nq_ir.specs.Trees.{FormTree, form_tree}
use Rattle.shred_types.specs.Columns.{columns_at}
use Rattle.nq_compile.specs.Links.{AnswersLink}
use Rattle.nq_compile.specs.Reading.{TagAndNumberRead}
use Rattle.nq_compile.specs.Shreds.{Shreds, form_means}
use Rattle.nq_compile.proofs.Forms.{all_shredded, columns_same, texts_same, forms_read, forms_link, forms_shred}
use Rattle.nq_compile.proofs.normal.compile_normal.Goals as goal

pub texts_of-requires-clause-forms : goal.texts_of-requires-clause-forms
texts_of-requires-clause-forms c =
    all_shredded c.args.schema.now (form_tree c.args.normal.now) c.requires.well_formed c.in_ok-forms.forms (c.in_ok-forms.ensures c.args.schema.now c.requires.well_formed)

pub texts_of-requires-clause-columns : goal.texts_of-requires-clause-columns
texts_of-requires-clause-columns c =
    let form : FormTree = form_tree c.args.normal.now in
    let own : c.in_ok-columns.columns ≡ map (columns_at (bag form.element)) (paths (bag form.element)) =
    c.in_ok-columns.ensures ∙ ap₂ (λ (a : TypeTree) (ps : List (List Step)). map (columns_at a) ps) c.in_ok-result.ensures (c.in_ok-paths.ensures ∙ ap paths c.in_ok-result.ensures) in
    own ∙ columns_same form (paths (bag form.element)) c.in_ok-forms.forms (c.in_ok-forms.ensures c.args.schema.now c.requires.well_formed)

pub returns-clause-texts : goal.returns-clause-texts
returns-clause-texts c =
    c.in_ok-texts.ensures.are ∙ texts_same c.args.schema.now (form_tree c.args.normal.now) c.in_ok-forms.forms (c.in_ok-forms.ensures c.args.schema.now c.requires.well_formed)

pub returns-clause-read : goal.returns-clause-read
returns-clause-read c =
    let schema = c.args.schema.now in
    let form : FormTree = form_tree c.args.normal.now in
    let at = c.in_ok-forms.ensures schema c.requires.well_formed in
    let texts = c.in_ok-texts.ensures.are ∙ texts_same schema form c.in_ok-forms.forms at in
    let P : List (List ℕ) → Type 0 = λ ts. TagAndNumberRead schema form ts in
    subst P (sym texts) (forms_read schema form c.requires.proper c.requires.well_formed c.in_ok-forms.forms at c.in_ok-texts.ensures.spell)

pub returns-clause-shreds : goal.returns-clause-shreds
returns-clause-shreds c =
    let schema = c.args.schema.now in
    let form : FormTree = form_tree c.args.normal.now in
    let at = c.in_ok-forms.ensures schema c.requires.well_formed in
    let texts = c.in_ok-texts.ensures.are ∙ texts_same schema form c.in_ok-forms.forms at in
    let P : List (List ℕ) → Type 0 = λ ts. Shreds schema form.element ts (form_means form) in
    subst P (sym texts) (forms_shred schema form c.requires.proper c.requires.well_formed c.in_ok-forms.forms at c.in_ok-texts.ensures.spell)

pub returns-clause-linked : goal.returns-clause-linked
returns-clause-linked c =
    let schema = c.args.schema.now in
    let form : FormTree = form_tree c.args.normal.now in
    let at = c.in_ok-forms.ensures schema c.requires.well_formed in
    let texts = c.in_ok-texts.ensures.are ∙ texts_same schema form c.in_ok-forms.forms at in
    let P : List (List ℕ) → Type 0 = λ ts. AnswersLink schema (bag form.element) ts in
    let Q : TypeTree → Type 0 = λ t. AnswersLink schema t c.in_ok-texts.texts in
    subst Q (sym c.in_ok-result.ensures) (subst P (sym texts) (forms_link schema form c.requires.proper c.requires.well_formed c.in_ok-forms.forms at c.in_ok-texts.ensures.spell))
