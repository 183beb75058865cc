use Rattle.std.proofs.Common.{◌≡◌, List, None, Some, map, refl, sym, ap, ◌∙◌, subst, length}
use Rattle.std.proofs.Common.{flat_map}
use Rattle.nq_model.specs.Types.{TypeTree, type_tree}
use Rattle.nq_model.proofs.Numberings.{length_map}
use Rattle.nq_ir.specs.Shredded.{ShreddedTree, shredded_tree}
use Rattle.nq_ir.specs.Trees.{FormTree, form_tree}
use Rattle.nq_ir.specs.declared.shredded.Shredded.{Shredded}
use Rattle.sql_profile.specs.Trees.{SqlTree, sql_tree}
use Rattle.stitcher.specs.Linked.{homes}
use Rattle.natural_keys.specs.declared.layout.Layout.{Layout}
use Rattle.natural_keys.specs.Layouts.{layout_of, outer_by}
use Rattle.natural_keys.specs.NaturalKeys.{natural_scheme}
use Rattle.nq_ir.specs.Parts.{element_types}
use Rattle.natural_index.specs.Naming.{keyless, least, naming_at}
use Rattle.natural_index.specs.Reading.{AreScopedTrees, KeysRead}
use Rattle.natural_index.specs.Trees.{natural_trees}
use Rattle.natural_index.proofs.Answering.{made_from, numbers_from, trees_made, trees_spellable}
use Rattle.natural_index.proofs.Forms.{inners_count, inners_long, none_keyless, one_keyless, outers_count, outers_long, scheme_is}
use Rattle.natural_index.proofs.KeysRead.{keys_read}
use Rattle.natural_index.proofs.Whole.{trees_scoped}
use Rattle.natural_index.proofs.texts.natural_texts.Goals as goal

pub returns-in-Some-clause-fault : goal.returns-in-Some-clause-fault
returns-in-Some-clause-fault c =
    let schema = c.args.schema.now in
    let form : FormTree = form_tree c.args.normal.now in
    let w = c.requires.well_formed in
    let forms : List Shredded = c.in_ok-forms.forms in
    let are = c.in_ok-forms.ensures schema w in
    let found : Some c.in-Some.generator.now ≡ least (keyless schema.tables
    (flat_map (λ (f : ShreddedTree). naming_at f.element f.parts)
    (map shredded_tree forms))) =
    c.in-Some.ensures ∙ ap (λ (l : List Shredded). least
    (keyless schema.tables (flat_map (λ (f : ShreddedTree). naming_at f.element f.parts)
    (map shredded_tree l)))) c.as_slice.ensures in
    one_keyless schema form w (map shredded_tree forms) are
    (Some c.in-Some.generator.now) c.in-Some.generator.now c.in_ok-table.table found refl
    c.in_ok-table.ensures

pub new-requires-clause-outers : goal.new-requires-clause-outers
new-requires-clause-outers c =
    let schema = c.args.schema.now in
    let form : FormTree = form_tree c.args.normal.now in
    let w = c.requires.well_formed in
    let forms : List Shredded = c.in_ok-forms.forms in
    let are = c.in_ok-forms.ensures schema w in
    let type : TypeTree = type_tree c.in_ok-result.result in
    let inner : c.in_ok-inners.inners ≡ map (λ (f : ShreddedTree). layout_of schema.tables f.parts)
    (map shredded_tree forms) =
    c.in_ok-inners.ensures ∙ ap (λ (l : List Shredded). map
    (λ (f : ShreddedTree). layout_of schema.tables f.parts)
    (map shredded_tree l)) c.as_slice-2.ensures in
    let outer : c.in_ok-outers.outers ≡ outer_by c.in_ok-inners.inners (homes type) =
    c.in_ok-outers.ensures ∙ ap (λ (l : List Layout). outer_by l
    (homes type)) c.as_slice-3.ensures in
    ap length c.as_slice-4.ensures ∙ outers_long schema form w
    (map shredded_tree forms) are type c.in_ok-outers.outers c.in_ok-inners.inners
    c.in_ok-result.ensures inner outer

pub new-requires-clause-inners : goal.new-requires-clause-inners
new-requires-clause-inners c =
    let schema = c.args.schema.now in
    let form : FormTree = form_tree c.args.normal.now in
    let w = c.requires.well_formed in
    let forms : List Shredded = c.in_ok-forms.forms in
    let are = c.in_ok-forms.ensures schema w in
    let type : TypeTree = type_tree c.in_ok-result.result in
    let inner : c.in_ok-inners.inners ≡ map (λ (f : ShreddedTree). layout_of schema.tables f.parts)
    (map shredded_tree forms) =
    c.in_ok-inners.ensures ∙ ap (λ (l : List Shredded). map
    (λ (f : ShreddedTree). layout_of schema.tables f.parts)
    (map shredded_tree l)) c.as_slice-2.ensures in
    let outer : c.in_ok-outers.outers ≡ outer_by c.in_ok-inners.inners (homes type) =
    c.in_ok-outers.ensures ∙ ap (λ (l : List Layout). outer_by l
    (homes type)) c.as_slice-3.ensures in
    ap length c.as_slice-5.ensures ∙ inners_long schema form w
    (map shredded_tree forms) are type c.in_ok-outers.outers c.in_ok-inners.inners
    c.in_ok-result.ensures inner outer

pub texts_of-requires-clause-outers : goal.texts_of-requires-clause-outers
texts_of-requires-clause-outers c =
    let schema = c.args.schema.now in
    let form : FormTree = form_tree c.args.normal.now in
    let w = c.requires.well_formed in
    let forms : List Shredded = c.in_ok-forms.forms in
    let are = c.in_ok-forms.ensures schema w in
    let type : TypeTree = type_tree c.in_ok-result.result in
    let inner : c.in_ok-inners.inners ≡ map (λ (f : ShreddedTree). layout_of schema.tables f.parts)
    (map shredded_tree forms) =
    c.in_ok-inners.ensures ∙ ap (λ (l : List Shredded). map
    (λ (f : ShreddedTree). layout_of schema.tables f.parts)
    (map shredded_tree l)) c.as_slice-2.ensures in
    let outer : c.in_ok-outers.outers ≡ outer_by c.in_ok-inners.inners (homes type) =
    c.in_ok-outers.ensures ∙ ap (λ (l : List Layout). outer_by l
    (homes type)) c.as_slice-3.ensures in
    ap length c.as_slice-6.ensures ∙ outers_count schema form w
    (map shredded_tree forms) are type c.in_ok-outers.outers c.in_ok-inners.inners
    c.in_ok-result.ensures inner outer ∙ length_map shredded_tree forms
    ∙ sym (ap length c.as_slice-8.ensures)

pub texts_of-requires-clause-inners : goal.texts_of-requires-clause-inners
texts_of-requires-clause-inners c =
    let schema = c.args.schema.now in
    let form : FormTree = form_tree c.args.normal.now in
    let w = c.requires.well_formed in
    let forms : List Shredded = c.in_ok-forms.forms in
    let are = c.in_ok-forms.ensures schema w in
    let type : TypeTree = type_tree c.in_ok-result.result in
    let inner : c.in_ok-inners.inners ≡ map (λ (f : ShreddedTree). layout_of schema.tables f.parts)
    (map shredded_tree forms) =
    c.in_ok-inners.ensures ∙ ap (λ (l : List Shredded). map
    (λ (f : ShreddedTree). layout_of schema.tables f.parts)
    (map shredded_tree l)) c.as_slice-2.ensures in
    let outer : c.in_ok-outers.outers ≡ outer_by c.in_ok-inners.inners (homes type) =
    c.in_ok-outers.ensures ∙ ap (λ (l : List Layout). outer_by l
    (homes type)) c.as_slice-3.ensures in
    ap length c.as_slice-7.ensures ∙ inners_count schema form w
    (map shredded_tree forms) are type c.in_ok-outers.outers c.in_ok-inners.inners
    c.in_ok-result.ensures inner outer ∙ length_map shredded_tree forms
    ∙ sym (ap length c.as_slice-8.ensures)

pub returns-clause-named : goal.returns-clause-named
returns-clause-named c =
    let schema = c.args.schema.now in
    let form : FormTree = form_tree c.args.normal.now in
    let w = c.requires.well_formed in
    let forms : List Shredded = c.in_ok-forms.forms in
    let are = c.in_ok-forms.ensures schema w in
    let found : None ≡ least (keyless schema.tables (flat_map
    (λ (f : ShreddedTree). naming_at f.element f.parts) (map shredded_tree forms))) =
    c.in_default.ensures ∙ ap (λ (l : List Shredded). least
    (keyless schema.tables (flat_map (λ (f : ShreddedTree). naming_at f.element f.parts)
    (map shredded_tree l)))) c.as_slice.ensures in
    none_keyless schema form w (map shredded_tree forms) are None found refl

pub returns-clause-keys : goal.returns-clause-keys
returns-clause-keys c =
    let schema = c.args.schema.now in
    let form : FormTree = form_tree c.args.normal.now in
    let w = c.requires.well_formed in
    let forms : List Shredded = c.in_ok-forms.forms in
    let are = c.in_ok-forms.ensures schema w in
    let type : TypeTree = type_tree c.in_ok-result.result in
    let inner : c.in_ok-inners.inners ≡ map (λ (f : ShreddedTree). layout_of schema.tables f.parts)
    (map shredded_tree forms) =
    c.in_ok-inners.ensures ∙ ap (λ (l : List Shredded). map
    (λ (f : ShreddedTree). layout_of schema.tables f.parts)
    (map shredded_tree l)) c.as_slice-2.ensures in
    let outer : c.in_ok-outers.outers ≡ outer_by c.in_ok-inners.inners (homes type) =
    c.in_ok-outers.ensures ∙ ap (λ (l : List Layout). outer_by l
    (homes type)) c.as_slice-3.ensures in
    c.in_ok-keys.ensures
    ∙ (λ t. natural_scheme (element_types type) (c.as_slice-4.ensures t) (c.as_slice-5.ensures t))
    ∙ scheme_is schema form w (map shredded_tree forms) are type c.in_ok-outers.outers
    c.in_ok-inners.inners c.in_ok-result.ensures inner outer

pub returns-clause-texts : goal.returns-clause-texts
returns-clause-texts c =
    let schema = c.args.schema.now in
    let form : FormTree = form_tree c.args.normal.now in
    let w = c.requires.well_formed in
    let forms : List Shredded = c.in_ok-forms.forms in
    let are = c.in_ok-forms.ensures schema w in
    let type : TypeTree = type_tree c.in_ok-result.result in
    let inner : c.in_ok-inners.inners ≡ map (λ (f : ShreddedTree). layout_of schema.tables f.parts)
    (map shredded_tree forms) =
    c.in_ok-inners.ensures ∙ ap (λ (l : List Shredded). map
    (λ (f : ShreddedTree). layout_of schema.tables f.parts)
    (map shredded_tree l)) c.as_slice-2.ensures in
    let outer : c.in_ok-outers.outers ≡ outer_by c.in_ok-inners.inners (homes type) =
    c.in_ok-outers.ensures ∙ ap (λ (l : List Layout). outer_by l
    (homes type)) c.as_slice-3.ensures in
    let made = made_from schema form w forms are type c.in_ok-outers.outers c.in_ok-inners.inners
    c.in_ok-result.ensures inner outer c.as_slice-6.result.now c.as_slice-7.result.now
    c.as_slice-8.result.now c.as_slice-6.ensures c.as_slice-7.ensures c.as_slice-8.ensures
    (map sql_tree c.in_ok-texts.texts) c.in_ok-texts.ensures.are in
    trees_made schema form w forms are type c.in_ok-outers.outers c.in_ok-inners.inners
    c.in_ok-result.ensures inner outer (map sql_tree c.in_ok-texts.texts) made

pub returns-clause-spellable : goal.returns-clause-spellable
returns-clause-spellable c =
    let schema = c.args.schema.now in
    let form : FormTree = form_tree c.args.normal.now in
    let w = c.requires.well_formed in
    let forms : List Shredded = c.in_ok-forms.forms in
    let are = c.in_ok-forms.ensures schema w in
    let type : TypeTree = type_tree c.in_ok-result.result in
    let inner : c.in_ok-inners.inners ≡ map (λ (f : ShreddedTree). layout_of schema.tables f.parts)
    (map shredded_tree forms) =
    c.in_ok-inners.ensures ∙ ap (λ (l : List Shredded). map
    (λ (f : ShreddedTree). layout_of schema.tables f.parts)
    (map shredded_tree l)) c.as_slice-2.ensures in
    let outer : c.in_ok-outers.outers ≡ outer_by c.in_ok-inners.inners (homes type) =
    c.in_ok-outers.ensures ∙ ap (λ (l : List Layout). outer_by l
    (homes type)) c.as_slice-3.ensures in
    let made = made_from schema form w forms are type c.in_ok-outers.outers c.in_ok-inners.inners
    c.in_ok-result.ensures inner outer c.as_slice-6.result.now c.as_slice-7.result.now
    c.as_slice-8.result.now c.as_slice-6.ensures c.as_slice-7.ensures c.as_slice-8.ensures
    (map sql_tree c.in_ok-texts.texts) c.in_ok-texts.ensures.are in
    let few = numbers_from schema form w forms are type c.in_ok-outers.outers c.in_ok-inners.inners
    c.in_ok-result.ensures inner outer c.as_slice-6.result.now c.as_slice-7.result.now
    c.as_slice-8.result.now c.as_slice-6.ensures c.as_slice-7.ensures c.as_slice-8.ensures
    c.in_ok-texts.ensures.numbered in
    trees_spellable schema form w forms are type c.in_ok-outers.outers c.in_ok-inners.inners
    c.in_ok-result.ensures inner outer c.requires.proper
    (map sql_tree c.in_ok-texts.texts) made few

pub returns-clause-scoped : goal.returns-clause-scoped
returns-clause-scoped c =
    let schema = c.args.schema.now in
    let form : FormTree = form_tree c.args.normal.now in
    let w = c.requires.well_formed in
    let forms : List Shredded = c.in_ok-forms.forms in
    let are = c.in_ok-forms.ensures schema w in
    let type : TypeTree = type_tree c.in_ok-result.result in
    let inner : c.in_ok-inners.inners ≡ map (λ (f : ShreddedTree). layout_of schema.tables f.parts)
    (map shredded_tree forms) =
    c.in_ok-inners.ensures ∙ ap (λ (l : List Shredded). map
    (λ (f : ShreddedTree). layout_of schema.tables f.parts)
    (map shredded_tree l)) c.as_slice-2.ensures in
    let outer : c.in_ok-outers.outers ≡ outer_by c.in_ok-inners.inners (homes type) =
    c.in_ok-outers.ensures ∙ ap (λ (l : List Layout). outer_by l
    (homes type)) c.as_slice-3.ensures in
    let made = made_from schema form w forms are type c.in_ok-outers.outers c.in_ok-inners.inners
    c.in_ok-result.ensures inner outer c.as_slice-6.result.now c.as_slice-7.result.now
    c.as_slice-8.result.now c.as_slice-6.ensures c.as_slice-7.ensures c.as_slice-8.ensures
    (map sql_tree c.in_ok-texts.texts) c.in_ok-texts.ensures.are in
    let texts : map sql_tree c.in_ok-texts.texts ≡ natural_trees schema.tables form
    = trees_made schema form w forms are type c.in_ok-outers.outers c.in_ok-inners.inners
    c.in_ok-result.ensures inner outer (map sql_tree c.in_ok-texts.texts) made in
    subst (λ (trees : List SqlTree). AreScopedTrees schema form trees) (sym texts)
    (trees_scoped schema c.requires.proper form w)

pub returns-clause-read : goal.returns-clause-read
returns-clause-read c =
    let schema = c.args.schema.now in
    let form : FormTree = form_tree c.args.normal.now in
    let w = c.requires.well_formed in
    let forms : List Shredded = c.in_ok-forms.forms in
    let are = c.in_ok-forms.ensures schema w in
    let type : TypeTree = type_tree c.in_ok-result.result in
    let inner : c.in_ok-inners.inners ≡ map (λ (f : ShreddedTree). layout_of schema.tables f.parts)
    (map shredded_tree forms) =
    c.in_ok-inners.ensures ∙ ap (λ (l : List Shredded). map
    (λ (f : ShreddedTree). layout_of schema.tables f.parts)
    (map shredded_tree l)) c.as_slice-2.ensures in
    let outer : c.in_ok-outers.outers ≡ outer_by c.in_ok-inners.inners (homes type) =
    c.in_ok-outers.ensures ∙ ap (λ (l : List Layout). outer_by l
    (homes type)) c.as_slice-3.ensures in
    let found : None ≡ least (keyless schema.tables (flat_map
    (λ (f : ShreddedTree). naming_at f.element f.parts) (map shredded_tree forms))) =
    c.in_default.ensures ∙ ap (λ (l : List Shredded). least
    (keyless schema.tables (flat_map (λ (f : ShreddedTree). naming_at f.element f.parts)
    (map shredded_tree l)))) c.as_slice.ensures in
    let made = made_from schema form w forms are type c.in_ok-outers.outers c.in_ok-inners.inners
    c.in_ok-result.ensures inner outer c.as_slice-6.result.now c.as_slice-7.result.now
    c.as_slice-8.result.now c.as_slice-6.ensures c.as_slice-7.ensures c.as_slice-8.ensures
    (map sql_tree c.in_ok-texts.texts) c.in_ok-texts.ensures.are in
    let texts : map sql_tree c.in_ok-texts.texts ≡ natural_trees schema.tables form
    = trees_made schema form w forms are type c.in_ok-outers.outers c.in_ok-inners.inners
    c.in_ok-result.ensures inner outer (map sql_tree c.in_ok-texts.texts) made in
    let named = none_keyless schema form w (map shredded_tree forms) are None found refl in
    subst (λ (trees : List SqlTree). KeysRead schema form trees) (sym texts)
    (keys_read schema form c.requires.proper w named)
