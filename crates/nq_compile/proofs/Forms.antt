-- The shredded forms at the paths of a form, as the program has them.
use Rattle.std.proofs.Common.{◌≡◌, ◌<◌, ◌+◌, ◌++◌, ℕ, List, [], ◌∷◌, length, map, take, slice_index_or, All, refl, sym, ap, ap₂, ◌∙◌, subst, arith}
use Rattle.std.specs.List.{AllByRecursion as Each}
use Rattle.std.proofs.lemmas.List.{take_more, take_all, map_more, get_or-map}
use Rattle.std.proofs.lemmas.List.Elements.{recursion_from_All, All-from_recursion, All-push}
use Rattle.nq_model.specs.Tables.{IsProperSchema}
use Rattle.nq_model.specs.Types.{bag}
use Rattle.nq_model.specs.declared.table.ColumnType.{ColumnType}
use Rattle.nq_model.specs.declared.table.Schema.{Schema}
use Rattle.nq_ir.specs.Among.{Among, first, later}
use Rattle.nq_ir.specs.Paths.{paths}
use Rattle.nq_ir.specs.Shredded.{ShreddedTree, IsShreddedOf, shredded, shredded_tree}
use Rattle.nq_ir.specs.Trees.{FormTree}
use Rattle.nq_ir.specs.WellFormed.{IsWellFormed}
use Rattle.nq_ir.specs.declared.path.Step.{Step}
use Rattle.nq_ir.specs.declared.shredded.Shredded.{Shredded}
use Rattle.shred_types.specs.Columns.{columns_at, answer_columns}
use Rattle.nq_compile.specs.Links.{AnswersLink}
use Rattle.nq_compile.specs.Reading.{TagAndNumberRead}
use Rattle.nq_compile.specs.Shreds.{Shreds, form_means}
use Rattle.sql_profile.specs.Printed.{printed}
use Rattle.sql_profile.specs.Texts.{Spells}
use Rattle.sql_profile.specs.Tokens.{First}
use Rattle.sql_profile.specs.Trees.{PlacedSql, SqlTree, bare}
use Rattle.nq_compile.specs.Texts.{tree_of, text_of, texts_of, SpellsItself}
use Rattle.nq_compile.proofs.Shredding.{texts_read, texts_shred, texts_link}

-- forms whose trees are these
abbrev AreAt : FormTree → List (List Step) → List Shredded → Type 0
AreAt form ps forms = map shredded_tree forms ≡ map (shredded form) ps

each_shredded : (schema : Schema) (form : FormTree) → IsWellFormed schema.tables form → (ps : List (List Step)) → ((p : List Step) → Among p ps → Among p (paths (bag form.element))) →
    (forms : List Shredded) → AreAt form ps forms → Each (λ f. IsShreddedOf schema (shredded_tree f)) forms
each_shredded schema form well ps within [] e = tt
each_shredded schema form well [] within (f ∷ forms) e = absurd (cc)
each_shredded schema form well (p ∷ ps) within (f ∷ forms) e =
    let here : shredded_tree f ≡ shredded form p = cc in
    let rest : AreAt form ps forms = cc in
    let P : ShreddedTree → Type 0 = λ s. IsShreddedOf schema s in
    (subst P (sym here) (record { form = form; well_formed = well; at_path = within p first; is = refl }), each_shredded schema form well ps (λ q among. within q (later among)) forms rest)

pub all_shredded : (schema : Schema) (form : FormTree) → IsWellFormed schema.tables form → (forms : List Shredded) → AreAt form (paths (bag form.element)) forms → All (λ f. IsShreddedOf schema (shredded_tree f)) forms
all_shredded schema form well forms e =
    All-from_recursion (λ f. IsShreddedOf schema (shredded_tree f)) forms (each_shredded schema form well (paths (bag form.element)) (λ p among. among) forms e)

pub columns_same : (form : FormTree) (ps : List (List Step)) (forms : List Shredded) → AreAt form ps forms → map (columns_at (bag form.element)) ps ≡ map (λ f. answer_columns (shredded_tree f).element) forms
columns_same form [] [] e = refl
columns_same form [] (f ∷ forms) e = absurd (cc)
columns_same form (p ∷ ps) [] e = absurd (cc)
columns_same form (p ∷ ps) (f ∷ forms) e =
    let here : shredded_tree f ≡ shredded form p = cc in
    let rest : AreAt form ps forms = cc in
    ap₂ (λ (c : List ColumnType) cs. c ∷ cs) (ap (λ (s : ShreddedTree). answer_columns s.element) (sym here)) (columns_same form ps forms rest)

-- the columns at a place are those of the form there
pub columns_of_form : (columns : List (List ColumnType)) (forms : List Shredded) (k : ℕ) (own : List ColumnType) (form : Shredded) →
    columns ≡ map (λ f. answer_columns (shredded_tree f).element) forms → k < length forms → form ≡ slice_index_or forms k form → own ≡ slice_index_or columns k own →
    own ≡ answer_columns (shredded_tree form).element
columns_of_form columns forms k own form same below here at =
    at ∙ ap (λ (l : List (List ColumnType)). slice_index_or l k own) same ∙ get_or-map (λ f. answer_columns (shredded_tree f).element) forms k form own below
    ∙ ap (λ (f : Shredded). answer_columns (shredded_tree f).element) (sym here)

texts_mapped : (schema : Schema) (forms : List Shredded) → map (λ f. text_of schema (shredded_tree f)) forms ≡ map (text_of schema) (map shredded_tree forms)
texts_mapped schema [] = refl
texts_mapped schema (f ∷ forms) = ap (λ ts. text_of schema (shredded_tree f) ∷ ts) (texts_mapped schema forms)

pub texts_same : (schema : Schema) (form : FormTree) (forms : List Shredded) → AreAt form (paths (bag form.element)) forms → map (λ f. text_of schema (shredded_tree f)) forms ≡ texts_of schema form
texts_same schema form forms e = texts_mapped schema forms ∙ ap (map (text_of schema)) e

spell_mapped : (schema : Schema) (forms : List Shredded) → Each (λ f. SpellsItself schema (shredded_tree f)) forms → Each (SpellsItself schema) (map shredded_tree forms)
spell_mapped schema [] h = tt
spell_mapped schema (f ∷ forms) h = (h.0, spell_mapped schema forms h.1)

spell_at : (schema : Schema) (form : FormTree) (forms : List Shredded) → AreAt form (paths (bag form.element)) forms → All (λ f. SpellsItself schema (shredded_tree f)) forms →
    Each (SpellsItself schema) (map (shredded form) (paths (bag form.element)))
spell_at schema form forms e spell =
    let P : List ShreddedTree → Type 0 = λ l. Each (SpellsItself schema) l in
    subst P e (spell_mapped schema forms (recursion_from_All (λ f. SpellsItself schema (shredded_tree f)) forms spell))

pub forms_read : (schema : Schema) (form : FormTree) → IsProperSchema schema → IsWellFormed schema.tables form → (forms : List Shredded) → AreAt form (paths (bag form.element)) forms →
    All (λ f. SpellsItself schema (shredded_tree f)) forms → TagAndNumberRead schema form (texts_of schema form)
forms_read schema form proper well forms e spell = texts_read schema proper form well (spell_at schema form forms e spell)

pub forms_link : (schema : Schema) (form : FormTree) → IsProperSchema schema → IsWellFormed schema.tables form → (forms : List Shredded) → AreAt form (paths (bag form.element)) forms →
    All (λ f. SpellsItself schema (shredded_tree f)) forms → AnswersLink schema (bag form.element) (texts_of schema form)
forms_link schema form proper well forms e spell = texts_link schema proper form well (spell_at schema form forms e spell)

pub forms_shred : (schema : Schema) (form : FormTree) → IsProperSchema schema → IsWellFormed schema.tables form → (forms : List Shredded) → AreAt form (paths (bag form.element)) forms →
    All (λ f. SpellsItself schema (shredded_tree f)) forms → Shreds schema form.element (texts_of schema form) (form_means form)
forms_shred schema form proper well forms e spell = texts_shred schema proper form well (spell_at schema form forms e spell)

-- printed bytes of a form's tree that spell the tree they are printed from
pub spells_itself : (schema : Schema) (s : ShreddedTree) (tree : SqlTree) (bytes : List ℕ) → tree ≡ tree_of schema s → bytes ≡ printed tree →
    (p : PlacedSql) × Spells First (length bytes) bytes p × (bare p ≡ tree) → SpellsItself schema s
spells_itself schema s tree bytes same printed_as spells =
    let is : bytes ≡ text_of schema s = printed_as ∙ ap printed same in
    let P : List ℕ → Type 0 = λ b. Spells First (length b) b spells.0 in
    (spells.0, subst P is spells.1, spells.2 ∙ same)

-- the texts of one form more
pub texts_more : (schema : Schema) (forms : List Shredded) (k : ℕ) (form : Shredded) → k < length forms → form ≡ slice_index_or forms k form →
    (texts more : List (List ℕ)) (text : List ℕ) → texts ≡ map (λ f. text_of schema (shredded_tree f)) (take k forms) → text ≡ text_of schema (shredded_tree form) → more ≡ texts ++ text ∷ [] →
    more ≡ map (λ f. text_of schema (shredded_tree f)) (take (k + 1) forms)
texts_more schema forms k form below here texts more text are is pushed =
    pushed ∙ ap₂ (λ (a : List (List ℕ)) b. a ++ b ∷ []) are (is ∙ ap (λ (f : Shredded). text_of schema (shredded_tree f)) here) ∙ sym (map_more (λ f. text_of schema (shredded_tree f)) forms k form below)

pub spelled_more : (schema : Schema) (forms : List Shredded) (k : ℕ) (form : Shredded) → k < length forms → form ≡ slice_index_or forms k form →
    All (λ f. SpellsItself schema (shredded_tree f)) (take k forms) → SpellsItself schema (shredded_tree form) → All (λ f. SpellsItself schema (shredded_tree f)) (take (k + 1) forms)
spelled_more schema forms k form below here before own =
    let P : Shredded → Type 0 = λ f. SpellsItself schema (shredded_tree f) in
    subst (All P) (sym (take_more forms k form below)) (All-push P (take k forms) (slice_index_or forms k form) before (subst P here own))

pub spelled_all : (schema : Schema) (forms : List Shredded) (k : ℕ) → k ≡ length forms → All (λ f. SpellsItself schema (shredded_tree f)) (take k forms) → All (λ f. SpellsItself schema (shredded_tree f)) forms
spelled_all schema forms k end before = subst (All (λ f. SpellsItself schema (shredded_tree f))) (take_all k forms (omega (arith, end))) before

pub ruleset text_rules = (take_all)
