use Rattle.std.proofs.Common.{◌≡◌, ◌<◌, ◌^◌, List, length, ap₂, sym, ◌∙◌, subst, rules}
use Rattle.nq_model.specs.declared.table.ColumnType.{ColumnType}
use Rattle.nq_ir.specs.Lets.{LetFormTree, let_form_tree, insert_lets}
use Rattle.nq_ir.specs.Shredded.{ShreddedTree, shredded_tree}
use Rattle.nq_ir.specs.WellFormed.{column_names}
use Rattle.shred_types.specs.Columns.{answer_columns}
use Rattle.sql_profile.specs.Spellable.{IsSpellable}
use Rattle.sql_profile.specs.Trees.{SqlTree, sql_tree}
use Rattle.flatten.specs.Emitted.{emitted}
use Rattle.nq_compile.specs.Texts.{tree_of}
use Rattle.nq_compile.proofs.Forms.{spells_itself}
use Rattle.nq_compile.proofs.Shredding.{let_form_spellable}
use Rattle.nq_compile.proofs.normal.text_of.Goals as goal

pub returns-clause-spells : goal.returns-clause-spells
returns-clause-spells c =
    let schema = c.args.schema.now in
    let s : ShreddedTree = shredded_tree c.args.form.now in
    let form : LetFormTree = let_form_tree c.in_ok-lets.lets in
    let lets : form ≡ insert_lets s = c.in_ok-lets.ensures in
    let columns : c.args.columns.now ≡ answer_columns s.element = c.requires.columns in
    let built : sql_tree c.in_ok-tree.tree ≡ emitted (column_names schema.tables) c.args.columns.now form = c.in_ok-tree.ensures.is in
    let whole : sql_tree c.in_ok-tree.tree ≡ tree_of schema s = built ∙ ap₂ (λ (cs : List ColumnType) (f : LetFormTree). emitted (column_names schema.tables) cs f) columns lets in
    let numbers : (length form.lets < 2 ^ 63) × (length c.args.columns.now < 2 ^ 63) = search rules in
    let few : length (insert_lets s).lets < 2 ^ 63 = let P : LetFormTree → Type 0 = λ f. length f.lets < 2 ^ 63 in subst P lets numbers.0 in
    let narrow : length (answer_columns s.element) < 2 ^ 63 = let P : List ColumnType → Type 0 = λ cs. length cs < 2 ^ 63 in subst P columns numbers.1 in
    let P : SqlTree → Type 0 = λ t. IsSpellable t in
    let spellable : IsSpellable (sql_tree c.in_ok-tree.tree) = subst P (sym whole) (let_form_spellable schema s c.requires.proper c.requires.form few narrow) in
    spells_itself schema s (sql_tree c.in_ok-tree.tree) c.in_ok-text.text whole c.in_ok-text.ensures.is (c.in_ok-text.ensures.spells spellable)
