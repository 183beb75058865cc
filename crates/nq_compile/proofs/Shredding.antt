-- The texts of a normal form shred it: the laws of the passes in a row.
use Rattle.std.proofs.Common.{◌≡◌, ℕ, zero, suc, ◌<◌, ◌^◌, List, [], ◌∷◌, map, length, get_or, refl, sym, ap, ◌∙◌, subst}
use Rattle.std.specs.List.{AllByRecursion as Each}
use Rattle.nq_model.specs.Databases.{FilledTable, database}
use Rattle.nq_model.specs.SchemaTables.{AreTablesOf}
use Rattle.nq_model.specs.Tables.{IsProperSchema}
use Rattle.nq_model.specs.Types.{TypeTree, bag}
use Rattle.nq_model.specs.Values.{Nested, Same}
use Rattle.nq_model.proofs.Sameness.{same_trans}
use Rattle.nq_model.specs.declared.table.Cell.{Cell}
use Rattle.nq_model.specs.declared.table.Schema.{Schema}
use Rattle.nq_ir.specs.Among.{Among, first, later}
use Rattle.nq_ir.specs.Lets.{FlatRow, FormGives, IsLetFormOf, insert_lets}
use Rattle.nq_ir.specs.Meanings.{EachBoth, rows_in}
use Rattle.nq_ir.specs.Parts.{element_types}
use Rattle.nq_ir.specs.Paths.{paths, element_at}
use Rattle.nq_ir.specs.Shredded.{ShreddedTree, IsShreddedOf, shredded}
use Rattle.nq_ir.specs.Trees.{FormTree}
use Rattle.nq_ir.specs.WellFormed.{IsWellFormed, column_names}
use Rattle.nq_ir.specs.declared.path.Step.{Step}
use Rattle.nq_ir.proofs.Paths.{elements_are, proper}
use Rattle.shred_types.specs.Columns.{columns_at, answer_columns, row_cells}
use Rattle.sql_profile.specs.AllowedAnswers.{TreeAllows}
use Rattle.sql_profile.specs.Scope.{IsWellScoped, shapes_of_schema}
use Rattle.sql_profile.specs.Servers.{held_of}
use Rattle.sql_profile.specs.Spellable.{IsSpellable}
use Rattle.sql_profile.specs.Texts.{TextAllows}
use Rattle.sql_profile.specs.Tokens.{First}
use Rattle.sql_profile.specs.Trees.{SqlTree, bare}
use Rattle.sql_profile.specs.declared.server.Loaded.{Loaded}
use Rattle.sql_profile.proofs.TextLaws.{at_most_one_tree}
use Rattle.flatten.specs.Emitted.{answer_shape}
use Rattle.flatten.proofs.Allowed.{allowed_rows}
use Rattle.flatten.proofs.Spellable.{tree_spellable}
use Rattle.flatten.proofs.ScopeTree.{tree_scoped, types_named}
use Rattle.stitcher.specs.FlatNumbers.{flat_numbers, AreLaidOut}
use Rattle.stitcher.specs.Linked.{IsLinked}
use Rattle.stitcher.specs.Schemes.{AnswerRows, Reads, stitched}
use Rattle.stitcher.proofs.Stitched.{read_is_mean, flat_reads}
use Rattle.nq_compile.specs.Links.{AnswersLink}
use Rattle.nq_compile.specs.Reading.{TagAndNumberRead}
use Rattle.nq_compile.specs.Shreds.{IsScopedText, Shreds, form_means}
use Rattle.nq_compile.specs.Texts.{tree_of, text_of, texts_of, SpellsItself}
use Rattle.nq_compile.proofs.Linking.{lets_linked}

-- SQL allows to the text of a shredded form what it allows to its tree
tree_allows : (schema : Schema) (s : ShreddedTree) (held : List Loaded) (rows : List (List Cell)) → SpellsItself schema s → TextAllows First held (text_of schema s) rows → TreeAllows held (tree_of schema s) rows
tree_allows schema s held rows spells allows =
    let text = text_of schema s in
    let same = at_most_one_tree First (length text) (length text) text allows.tree spells.0 allows.spelled spells.1 in
    let P : SqlTree → Type 0 = λ t. TreeAllows held t rows in
    subst P (ap bare same ∙ spells.2) allows.allowed

-- the let form of a shredded form
pub let_form_of : (schema : Schema) (s : ShreddedTree) → IsShreddedOf schema s → IsLetFormOf schema (insert_lets s)
let_form_of schema s shredded = record { of = s; shredded = shredded; is = refl }

-- a text can spell its tree
pub let_form_spellable : (schema : Schema) (s : ShreddedTree) → IsProperSchema schema → IsShreddedOf schema s → length (insert_lets s).lets < 2 ^ 63 → length (answer_columns s.element) < 2 ^ 63 → IsSpellable (tree_of schema s)
let_form_spellable schema s proper shredded few narrow = tree_spellable schema (insert_lets s) proper (let_form_of schema s shredded) few narrow

-- an answer that holds rows, before those that do
laid_more : (element : TypeTree) (elements : List TypeTree) (rows : List FlatRow) (more : List (List FlatRow)) (answer : AnswerRows) (answers : List AnswerRows) →
    answer ≡ map (row_cells element) rows → AreLaidOut elements more answers → AreLaidOut (element ∷ elements) (rows ∷ more) (answer ∷ answers)
laid_more element elements rows more answer answers h g zero = h
laid_more element elements rows more answer answers h g (suc q) = g q

module _ (schema : Schema) (proper_schema : IsProperSchema schema) (form : FormTree) (well : IsWellFormed schema.tables form) where
  is_shredded : (path : List Step) → Among path (paths (bag form.element)) → IsShreddedOf schema (shredded form path)
  is_shredded path among = record { form = form; well_formed = well; at_path = among; is = refl }

  is_let_form : (path : List Step) → Among path (paths (bag form.element)) → IsLetFormOf schema (insert_lets (shredded form path))
  is_let_form path among = record { of = shredded form path; shredded = is_shredded path among; is = refl }

  -- these paths are paths of the form's type
  abbrev Within : List (List Step) → Type 0
  Within ps = (path : List Step) → Among path ps → Among path (paths (bag form.element))

  abbrev Spell : List (List Step) → Type 0
  Spell ps = Each (SpellsItself schema) (map (shredded form) ps)

  abbrev texts : List (List Step) → List (List ℕ)
  texts ps = map (text_of schema) (map (shredded form) ps)

  text_scoped : (path : List Step) → Among path (paths (bag form.element)) → SpellsItself schema (shredded form path) → IsScopedText schema (columns_at (bag form.element) path) (text_of schema (shredded form path))
  text_scoped path among spells =
      let types = columns_at (bag form.element) path in
      let P : SqlTree → Type 0 = λ t. IsWellScoped (shapes_of_schema schema.tables) t (answer_shape types) in
      record {
        tree = spells.0;
        spelled = spells.1;
        columns = answer_shape types;
        scoped = subst P (sym spells.2) (tree_scoped schema (insert_lets (shredded form path)) proper_schema (is_let_form path among));
        typed = types_named 0 types;
      }

  texts_scoped : (ps : List (List Step)) → Within ps → Spell ps → EachBoth (λ path text. IsScopedText schema (columns_at (bag form.element) path) text) ps (texts ps)
  texts_scoped [] within spell = refl
  texts_scoped (p ∷ ps) within spell = (text_scoped p (within p first) spell.0, texts_scoped ps (λ path among. within path (later among)) spell.1)

  module _ (tables : List (List (List Cell))) (stored : AreTablesOf schema.tables tables) where
    abbrev Gives : List Step → List FlatRow → Type 0
    Gives path rows = FormGives (column_names schema.tables) (rows_in (database schema.tables tables)) (insert_lets (shredded form path)) rows

    abbrev Allow : List (List ℕ) → List AnswerRows → Type 0
    Allow all answers = EachBoth (TextAllows First (held_of schema.tables tables)) all answers

    -- rows that the let forms at these paths allow, which the answers hold in cells
    record HoldsRows (ps : List (List Step)) (answers : List AnswerRows) : Type 0 where
      rows : List (List FlatRow)
      give : EachBoth Gives ps rows
      laid : AreLaidOut (map (element_at (bag form.element)) ps) rows answers

    text_gives : (path : List Step) (answer : AnswerRows) → Among path (paths (bag form.element)) → SpellsItself schema (shredded form path) → TextAllows First (held_of schema.tables tables) (text_of schema (shredded form path)) answer →
        (rows : List FlatRow) × Gives path rows × (answer ≡ map (row_cells (element_at (bag form.element) path)) rows)
    text_gives path answer among spells allows =
        allowed_rows schema tables (insert_lets (shredded form path)) answer proper_schema stored (is_let_form path among)
        (tree_allows schema (shredded form path) (held_of schema.tables tables) answer spells allows)

    texts_give : (ps : List (List Step)) (answers : List AnswerRows) → Within ps → Spell ps → Allow (texts ps) answers → HoldsRows ps answers
    texts_give [] answers within spell allows =
        record { rows = []; give = refl; laid = λ q. let P : List AnswerRows → Type 0 = λ a. get_or a q [] ≡ [] in subst P (sym allows) refl }
    texts_give (p ∷ ps) [] within spell allows = absurd allows
    texts_give (p ∷ ps) (answer ∷ answers) within spell allows =
        let here = text_gives p answer (within p first) spell.0 allows.0 in
        let rest = texts_give ps answers (λ path among. within path (later among)) spell.1 allows.1 in
        record {
          rows = here.0 ∷ rest.rows;
          give = (here.1, rest.give);
          laid = laid_more (element_at (bag form.element) p) (map (element_at (bag form.element)) ps) here.0 rest.rows answer answers here.2 rest.laid;
        }

    -- those of all texts
    whole_rows : (answers : List AnswerRows) → Spell (paths (bag form.element)) → Allow (texts_of schema form) answers → HoldsRows (paths (bag form.element)) answers
    whole_rows answers spell allows = texts_give (paths (bag form.element)) answers (λ path among. among) spell allows

    whole_laid : (answers : List AnswerRows) (spell : Spell (paths (bag form.element))) (allows : Allow (texts_of schema form) answers) → AreLaidOut (element_types (bag form.element)) (whole_rows answers spell allows).rows answers
    whole_laid answers spell allows =
        let all = whole_rows answers spell allows in
        let P : List TypeTree → Type 0 = λ types. AreLaidOut types all.rows answers in
        subst P (elements_are form.element (proper form.element well.labels_rise)) all.laid

    answers_read : (answers : List AnswerRows) → Spell (paths (bag form.element)) → Allow (texts_of schema form) answers →
        Reads (flat_numbers (element_types (bag form.element))) answers form (rows_in (database schema.tables tables))
    answers_read answers spell allows =
        let all = whole_rows answers spell allows in
        flat_reads schema form tables all.rows answers proper_schema well stored all.give (whole_laid answers spell allows)

    answers_linked : (answers : List AnswerRows) → Spell (paths (bag form.element)) → Allow (texts_of schema form) answers → IsLinked (bag form.element) answers
    answers_linked answers spell allows =
        let all = whole_rows answers spell allows in
        lets_linked schema form (rows_in (database schema.tables tables)) all.rows answers proper_schema well all.give (whole_laid answers spell allows)

  -- tag and number read the answers to the texts
  pub texts_read : Spell (paths (bag form.element)) → TagAndNumberRead schema form (texts_of schema form)
  texts_read spell tables stored answers allows = answers_read tables stored answers spell allows

  -- the answers to the texts are linked
  pub texts_link : Spell (paths (bag form.element)) → AnswersLink schema (bag form.element) (texts_of schema form)
  texts_link spell tables stored answers allows = answers_linked tables stored answers spell allows

  -- the texts shred the form
  pub texts_shred : Spell (paths (bag form.element)) → Shreds schema form.element (texts_of schema form) (form_means form)
  texts_shred spell = record {
    scoped = texts_scoped (paths (bag form.element)) (λ path among. among) spell;
    stitched = λ tables stored answers allows v means.
        let scheme = flat_numbers (element_types (bag form.element)) in
        let P : Nested → Type 0 = λ w. Same (stitched scheme form.element answers) w in
        subst P (sym means) (read_is_mean scheme schema form (rows_in (database schema.tables tables)) answers well (answers_read tables stored answers spell allows));
  }

-- texts that shred what means the same shred this too
pub shreds_same : (schema : Schema) (element : TypeTree) (texts : List (List ℕ)) (means others : List FilledTable → Nested → Type 0) →
    ((tables : List (List (List Cell))) → AreTablesOf schema.tables tables → (v : Nested) → means (database schema.tables tables) v → (w : Nested) × others (database schema.tables tables) w × Same w v) →
    Shreds schema element texts others → Shreds schema element texts means
shreds_same schema element texts means others same shreds = record {
  scoped = shreds.scoped;
  stitched = λ tables stored answers allows v m.
      let other = same tables stored v m in
      same_trans (stitched (flat_numbers (element_types (bag element))) element answers) other.0 v (shreds.stitched tables stored answers allows other.0 other.1) other.2;
}
