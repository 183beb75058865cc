-- The draft of the lineage of a query: it may be served over the tables with numbers, and is sound
-- for the traced meaning.
use Rattle.std.proofs.Common.{◌≡◌, ◌<◌, ◌^◌, ℕ, List, [], ◌∷◌, All, length, map, refl, sym, ap, ap₂}
use Rattle.std.proofs.Common.{◌∙◌, subst}
use Rattle.std.proofs.lemmas.List.Elements.{All-nil, All-cons, All-head, All-tail}
use Rattle.nq_model.specs.Databases.{FilledTable, database}
use Rattle.nq_model.specs.SchemaTables.{AreTablesOf}
use Rattle.nq_model.specs.Tables.{IsProperSchema}
use Rattle.nq_model.specs.Terms.{PlacedTerm, bare}
use Rattle.nq_model.specs.Types.{TypeTree, bag, type_tree}
use Rattle.nq_model.specs.Typing.{IsAccepted}
use Rattle.nq_model.specs.Unfolding.{Unfolds}
use Rattle.nq_model.specs.Values.{Nested, Same}
use Rattle.nq_model.specs.declared.table.Cell.{Cell}
use Rattle.nq_model.specs.declared.table.ColumnType.{ColumnType}
use Rattle.nq_model.specs.declared.table.Schema.{Schema}
use Rattle.nq_model.specs.declared.table.TableShape.{TableShape}
use Rattle.nq_compile.specs.Shreds.{IsScopedText}
use Rattle.nq_execute.specs.Plans.{Finish, Indexes, Writing, ArePathsOf, AsksFor, value_text}
use Rattle.nq_execute.specs.Plans.{trace_text_by}
use Rattle.nq_execute.specs.declared.plan.TraceWriting.{TraceWriting}
use Rattle.nq_ir.specs.Meanings.{EachBoth}
use Rattle.nq_ir.specs.NormalForms.{element_type, normal_form}
use Rattle.nq_ir.specs.Parts.{element_types}
use Rattle.nq_ir.specs.Trees.{FormTree, form_tree}
use Rattle.shred_types.specs.Columns.{answer_columns}
use Rattle.sql_profile.proofs.HeldTables.{held_filled}
use Rattle.sql_profile.specs.Servers.{filled_of, held_of}
use Rattle.sql_profile.specs.Texts.{TextAllows}
use Rattle.sql_profile.specs.Tokens.{First}
use Rattle.sql_profile.specs.declared.server.Loaded.{Loaded}
use Rattle.stitcher.specs.FlatNumbers.{flat_numbers}
use Rattle.stitcher.specs.Schemes.{stitched}
use Rattle.stitcher.specs.Stitching.{rows_of}
use Rattle.traced_meaning.specs.Laws.{NumberedTablesFit}
use Rattle.traced_meaning.specs.NumberedTables.{numbered_schema, numbered_shape, numbered_rows}
use Rattle.traced_meaning.specs.NumberedTables.{numbered_tables}
use Rattle.traced_meaning.specs.Traces.{trace}
use Rattle.lineage.specs.Decoding.{form_decoded}
use Rattle.lineage.specs.ListedTables.{ByTag, listed}
use Rattle.lineage.specs.TraceForms.{form_traced}
use Rattle.lineage_compile.specs.Tables.{HaveFewRows, with_numbers}
use Rattle.lineage_compile.specs.Texts.{IsLineage}
use Rattle.lineage_compile.specs.declared.compiled.TracedTexts.{TracedTexts}
use Rattle.unfold.proofs.Whole.{is_unfolding}
use Rattle.unfold.specs.Hereditary.{unfolded}
use Rattle.nq_top.specs.Plans.{AreReadFor, Draft}
use Rattle.nq_top.specs.Reading.{PlainReading, TypedTerm}
use Rattle.nq_top.specs.Shown.{shown_form}
use Rattle.nq_top.specs.Steps.{IsQuery}
use Rattle.nq_top.specs.Traced.{CanServeNumbered, IsSoundNumbered, lineage_draft, traced_draft}
use Rattle.nq_top.proofs.NaturalTexts.{each_both}
use Rattle.nq_top.proofs.Showings.{read_accepted, bag_again}
use Rattle.nq_top.proofs.Soundness.{asks_for, both_rows, columns_are, read_loadable, read_shapes}

-- 1. the tables with numbers

-- they are those of the schema with numbers
held_numbered : (shapes : List TableShape) (rows : List (List (List Cell)))
    → with_numbers (held_of shapes rows)
    ≡ held_of (map numbered_shape shapes) (numbered_tables rows)
held_numbered [] rows = refl
held_numbered (s ∷ shapes) [] = refl
held_numbered (s ∷ shapes) (r ∷ rows) =
    ap (λ (ts : List Loaded). record {
      name = s.name;
      columns = (numbered_shape s).columns;
      rows = numbered_rows r;
    } ∷ ts) (held_numbered shapes rows)

abbrev IsFew : List (List Cell) → Type 0
IsFew rows = length rows < 2 ^ 63

-- tables with few rows each
few_rows : (shapes : List TableShape) (rows : List (List (List Cell))) → AreTablesOf shapes rows
    → HaveFewRows (held_of shapes rows) → All IsFew rows
few_rows [] [] h few = All-nil IsFew
few_rows [] (r ∷ rows) h few = absurd h
few_rows (s ∷ shapes) [] h few = absurd h
few_rows (s ∷ shapes) (r ∷ rows) h few =
    let Q : Loaded → Type 0 = λ t. length t.rows < 2 ^ 63 in
    let own : Loaded = record { name = s.name; columns = s.columns; rows = r } in
    All-cons IsFew r rows (All-head Q own (held_of shapes rows) few)
    (few_rows shapes rows h.1 (All-tail Q own (held_of shapes rows) few))

module _ (fit : NumberedTablesFit) (schema : Schema) (proper : IsProperSchema schema)
    (tables : List Loaded) (read : AreReadFor schema.tables tables) (few : HaveFewRows tables) where
  few_read : All IsFew read.rows
  few_read = few_rows schema.tables read.rows read.stored
      (subst (λ (ts : List Loaded). HaveFewRows ts) read.is few)

  read_numbered : AreReadFor (numbered_schema schema).tables (with_numbers tables)
  read_numbered = record {
    rows = numbered_tables read.rows;
    stored = fit schema proper read.rows read.stored few_read;
    is = ap with_numbers read.is ∙ held_numbered schema.tables read.rows;
  }

-- 2. the draft

same_draft : (a b : TypeTree) (cs ds : List (List ColumnType)) (ss ts : List (List ℕ))
    (es gs : ByTag) (f h : FormTree) (way : TraceWriting) → a ≡ b → cs ≡ ds → ss ≡ ts → es ≡ gs
    → f ≡ h
    → ◌≡◌ {A = Draft} (record {
      texts = ss;
      columns = cs;
      finish = Finish.value a Indexes.numbers (Writing.traced way es f);
    }) (record {
      texts = ts;
      columns = ds;
      finish = Finish.value b Indexes.numbers (Writing.traced way gs h);
    })
same_draft a b cs ds ss ts es gs f h way p q r s t = cc

module _ (fit : NumberedTablesFit) (schema : Schema) (query : TypedTerm)
    (is_query : IsQuery schema query) (made : TracedTexts)
    (compiled : (element : TypeTree) (plain : PlacedTerm)
    → IsAccepted schema (bare query.term) (bag element) → Unfolds query.term plain
    → IsLineage schema (normal_form schema.tables element (bare plain)) (bare plain) made)
    (writing : TraceWriting) where
  accepted : IsAccepted schema (bare query.term) query.type
  accepted = read_accepted schema query.term query.type is_query.typed

  accepted_bag : IsAccepted schema (bare query.term) (bag (element_type query.type))
  accepted_bag = subst (λ (a : TypeTree). IsAccepted schema (bare query.term) a)
      (sym (bag_again query.type accepted.plain_bag)) accepted

  -- the plain term to which the query unfolds, and its normal form
  abbrev plain : PlacedTerm
  plain = unfolded query.term

  abbrev form : FormTree
  form = normal_form schema.tables (element_type query.type) (bare plain)

  unfolds : Unfolds query.term plain
  unfolds = (is_unfolding schema query.term query.type accepted).unfolds

  own : IsLineage schema form (bare plain) made
  own = compiled (element_type query.type) plain accepted_bag unfolds

  abbrev own_draft : Draft
  own_draft = record {
    texts = made.texts;
    columns = made.columns;
    finish = Finish.value (type_tree made.result) Indexes.numbers
        (Writing.traced writing made.form.tables (form_tree made.form.normal));
  }

  abbrev element : TypeTree
  element = (form_traced form).element

  at_paths : ArePathsOf (type_tree made.result) Indexes.numbers made.columns
  at_paths = record {
    of_bag = subst (λ (a : TypeTree). a ≡ bag (element_type a)) (sym own.result) refl;
    of_type = tt;
    at_paths = own.columns ∙ columns_are element own.well_formed.labels_rise
        ∙ ap (λ (a : TypeTree). map answer_columns (element_types a)) (sym own.result);
  }

  -- over all tables of the schema, with numbers, it may be served
  pub traced_servable : CanServeNumbered schema own_draft
  traced_servable tables read few =
      let over = numbered_schema schema in
      let held = with_numbers tables in
      let numbered = read_numbered fit schema is_query.proper_schema tables read few in
      record {
        loadable = read_loadable over held own.proper numbered;
        finishable = at_paths;
        askable = each_both (IsScopedText over) (AsksFor held)
            (asks_for over held (read_shapes over held numbered)) made.columns made.texts
            own.scoped;
      }

  -- and it is sound for the traced meaning of the query
  pub traced_sound :
      ((v w : Nested) → Same v w → trace_text_by writing v ≡ trace_text_by writing w)
      → IsSoundNumbered writing schema own_draft query.term
  unfolding value_text read_numbered
  traced_sound one_text tables read few answers allowed =
      let numbered = read_numbered fit schema is_query.proper_schema tables read few in
      let Q : List Loaded → Type 0 = λ ts.
      EachBoth (TextAllows First ts) made.texts (rows_of answers) in
      let each = subst Q numbered.is
      (both_rows (TextAllows First (with_numbers tables)) made.texts answers allowed) in
      let V : ByTag → FormTree → TypeTree → Nested = λ es f a. form_decoded es f
      (stitched (flat_numbers (element_types a)) (element_type a) (rows_of answers)) in
      let T : ByTag → FormTree → TypeTree → List ℕ = λ es f a. trace_text_by writing (V es f a) in
      let traced : Nested = trace (database schema.tables read.rows) [] (bare plain) in
      let told = own.tells read.rows read.stored
      (few_read fit schema is_query.proper_schema tables read few) (rows_of answers) each in
      let filled : map filled_of tables ≡ database schema.tables read.rows =
      ap (map filled_of) read.is ∙ held_filled schema.tables read.rows in (
        refl,
        record {
          plain = plain;
          unfolds = unfolds;
          is = ap (λ (es : ByTag). T es (form_tree made.form.normal) (type_tree made.result))
              own.tables
              ∙ ap (λ (f : FormTree). T (listed form.comps) f (type_tree made.result)) own.normal
              ∙ ap (T (listed form.comps) (form_traced form)) own.result
              ∙ one_text (V (listed form.comps) (form_traced form) (bag element)) traced told
              ∙ ap (λ (d : List FilledTable). trace_text_by writing (trace d [] (bare plain)))
              (sym filled);
        },
      )

  -- it is the draft that the query comes to
  pub traced_is : (reader : PlainReading) → own_draft ≡ lineage_draft writing reader schema query
  unfolding lineage_draft
  traced_is reader =
      let here = compiled (element_type query.type) (reader.says query.term) accepted_bag
      (reader.right schema query.term query.type accepted) in
      let shown : FormTree = shown_form reader schema query.term query.type in
      let goal = traced_draft writing schema shown in
      same_draft (type_tree made.result) (bag (form_traced shown).element) made.columns goal.columns
      made.texts goal.texts made.form.tables (listed shown.comps) (form_tree made.form.normal)
      (form_traced shown) writing here.result here.columns here.texts here.tables here.normal
