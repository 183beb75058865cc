-- A compiled query over the tables that were read is the plan of the query, may be served, and is sound; and so is the
-- plan of an SQL text.
use Rattle.std.proofs.Common.{◌≡◌, ℕ, List, [], ◌∷◌, map, length, Ok, All, refl, sym, ap, ◌∙◌, subst, arith}
use Rattle.std.proofs.lemmas.List.Elements.{All-nil, All-cons, All-head, All-tail}
use Rattle.std.proofs.lemmas.Simd.{map-map}
use Rattle.nq_model.specs.Cells.{RowFits}
use Rattle.nq_model.specs.Databases.{FilledTable, database}
use Rattle.nq_model.specs.Meaning.{meaning}
use Rattle.nq_model.specs.Orders.{AreDistinct}
use Rattle.nq_model.specs.Proper.{IsOrdered, IsProperTerm}
use Rattle.nq_model.specs.QueryMeaning.{Means}
use Rattle.nq_model.specs.SchemaTables.{AreTablesOf}
use Rattle.nq_model.specs.Tables.{IsProperSchema, IsProperShape, names_of, types_of}
use Rattle.nq_model.specs.Terms.{PlacedTerm, bare}
use Rattle.nq_model.specs.Types.{TypeTree, bag}
use Rattle.nq_model.specs.Typing.{IsAccepted}
use Rattle.nq_model.specs.Values.{Same}
use Rattle.nq_model.specs.declared.table.Cell.{Cell}
use Rattle.nq_model.specs.declared.table.ColumnType.{ColumnType}
use Rattle.nq_model.specs.declared.table.Schema.{Schema}
use Rattle.nq_model.specs.declared.table.TableShape.{TableShape}
use Rattle.nq_model.proofs.ProperTypes.{ordered_type}
use Rattle.nq_model.proofs.Unfolding.{reached_once}
use Rattle.nq_model.proofs.ValueTypes.{one_meaning}
use Rattle.traced_meaning.specs.Traces.{trace}
use Rattle.nq_execute.specs.Plans.{trace_text_by}
use Rattle.nq_execute.specs.declared.plan.TraceWriting.{TraceWriting}
use Rattle.nq_compile.specs.Shreds.{IsScopedText, Shreds}
use Rattle.nq_compile.specs.Texts.{texts_of}
use Rattle.nq_ir.specs.Meanings.{EachBoth}
use Rattle.nq_ir.specs.NormalForms.{element_type, normal_form}
use Rattle.nq_ir.specs.Parts.{element_types}
use Rattle.nq_ir.specs.Paths.{paths, element_at}
use Rattle.nq_ir.proofs.Paths.{elements_are, proper}
use Rattle.shred_types.specs.Columns.{columns_at, answer_columns}
use Rattle.sql_profile.specs.Scope.{IsWellScoped, Shapes, shapes_of, shapes_of_schema}
use Rattle.sql_profile.specs.Servers.{filled_of, held_of, table_names}
use Rattle.sql_profile.specs.Texts.{TextAllows}
use Rattle.sql_profile.specs.Tokens.{First}
use Rattle.sql_profile.specs.Trees.{bare as bare_sql}
use Rattle.sql_profile.specs.declared.answer.Answer.{Answer}
use Rattle.sql_profile.specs.declared.server.Loaded.{Loaded}
use Rattle.sql_profile.proofs.HeldTables.{shapes_same, held_filled}
use Rattle.stitcher.specs.FlatNumbers.{flat_numbers}
use Rattle.stitcher.specs.Schemes.{AnswerRows, stitched}
use Rattle.stitcher.specs.Stitching.{rows_of}
use Rattle.unfold.specs.Hereditary.{unfolded}
use Rattle.unfold.proofs.Whole.{is_unfolding}
use Rattle.nq_execute.specs.Loading.{CanLoad}
use Rattle.nq_execute.specs.Plans.{Finish, Indexes, Writing, RowWriting, value_by, text_by, value_text, finished, AsksFor, ArePathsOf}
use Rattle.nq_execute.specs.Serving.{Allowed}
use Rattle.nq_execute.proofs.Writings.{text_same}
use Rattle.nq_top.specs.Plans.{AreReadFor, Draft, draft_to, sql_draft, Question, IsTraced}
use Rattle.nq_top.specs.Plans.{IsWritten, IsAllowed, CanServeOver, IsSoundOver, ReadBy}
use Rattle.nq_top.specs.Reading.{PlainReading, type_read}
use Rattle.nq_top.specs.Shown.{shown_texts}
use Rattle.nq_top.proofs.Showings.{ResultIs, TextsAre, TextsShred, read_accepted, bag_again}

as_many : (shapes : List TableShape) (rows : List (List (List Cell))) → AreTablesOf shapes rows → length rows ≡ length shapes
as_many [] [] h = refl
as_many [] (r ∷ rs) h = absurd h
as_many (s ∷ ss) [] h = absurd h
as_many (s ∷ ss) (r ∷ rs) h = let e = as_many ss rs h.1 in omega (arith, e)

held_names : (shapes : List TableShape) (rows : List (List (List Cell))) → AreTablesOf shapes rows → table_names (held_of shapes rows) ≡ map (λ shape. shape.name) shapes
held_names [] [] h = refl
held_names [] (r ∷ rs) h = absurd h
held_names (s ∷ ss) [] h = absurd h
held_names (s ∷ ss) (r ∷ rs) h = ap (λ (ns : List (List ℕ)). s.name ∷ ns) (held_names ss rs h.1)

held_differ : (shapes : List TableShape) (rows : List (List (List Cell))) → All IsProperShape shapes → All (λ (t : Loaded). AreDistinct (names_of t.columns)) (held_of shapes rows)
held_differ [] rows h = All-nil (λ (t : Loaded). AreDistinct (names_of t.columns))
held_differ (s ∷ ss) [] h = All-nil (λ (t : Loaded). AreDistinct (names_of t.columns))
held_differ (s ∷ ss) (r ∷ rs) h =
    All-cons (λ (t : Loaded). AreDistinct (names_of t.columns)) (record { name = s.name; columns = s.columns; rows = r }) (held_of ss rs)
    ((All-head IsProperShape s ss h).columns_differ) (held_differ ss rs (All-tail IsProperShape s ss h))

held_fit : (shapes : List TableShape) (rows : List (List (List Cell))) → AreTablesOf shapes rows → All (λ (t : Loaded). All (RowFits (types_of t.columns)) t.rows) (held_of shapes rows)
held_fit [] rows h = All-nil (λ (t : Loaded). All (RowFits (types_of t.columns)) t.rows)
held_fit (s ∷ ss) [] h = absurd h
held_fit (s ∷ ss) (r ∷ rs) h =
    All-cons (λ (t : Loaded). All (RowFits (types_of t.columns)) t.rows) (record { name = s.name; columns = s.columns; rows = r }) (held_of ss rs)
    (h.0.fit) (held_fit ss rs h.1)

-- tables that were read for a proper schema may be loaded
can_load : (schema : Schema) → IsProperSchema schema → (rows : List (List (List Cell))) → AreTablesOf schema.tables rows → CanLoad [] (held_of schema.tables rows)
can_load schema proper_schema rows stored = record {
  names_differ = subst (λ (ns : List (List ℕ)). AreDistinct ns) (sym (held_names schema.tables rows stored)) proper_schema.tables_differ;
  columns_differ = held_differ schema.tables rows proper_schema.proper;
  fit = held_fit schema.tables rows stored;
}

-- what holds of pairs holds of what each is made of
both_mapped : {A B C : Type 0} (P : A → C → Type 0) (Q : B → C → Type 0) (f : A → B) → ((a : A) (c : C) → P a c → Q (f a) c) → (xs : List A) (ys : List C) → EachBoth P xs ys → EachBoth Q (map f xs) ys
both_mapped P Q f go [] ys h = h
both_mapped P Q f go (x ∷ xs) [] h = absurd h
both_mapped P Q f go (x ∷ xs) (y ∷ ys) h = (go x y h.0, both_mapped P Q f go xs ys h.1)

pub both_rows : (P : List ℕ → AnswerRows → Type 0) (texts : List (List ℕ))
    (answers : List Answer) → EachBoth (λ text answer. P text answer.rows) texts answers
    → EachBoth P texts (rows_of answers)
both_rows P [] answers h = ap rows_of h
both_rows P (t ∷ ts) [] h = absurd h
both_rows P (t ∷ ts) (a ∷ answers) h = (h.0, both_rows P ts answers h.1)

-- a text that is scoped over the schema may be asked over its tables
pub asks_for : (schema : Schema) (tables : List Loaded) → shapes_of tables
    ≡ shapes_of_schema schema.tables → (types : List ColumnType) (text : List ℕ)
    → IsScopedText schema types text → AsksFor tables types text
asks_for schema tables shapes types text scoped = record {
  asked = record {
    tree = scoped.tree;
    spelled = scoped.spelled;
    columns = scoped.columns;
    scoped = let P : Shapes → Type 0 = λ s. IsWellScoped s (bare_sql scoped.tree) scoped.columns in subst P (sym shapes) scoped.scoped;
  };
  typed = scoped.typed;
}

-- the columns at the paths of a type are those of its bags' elements
pub columns_are : (element : TypeTree) → IsOrdered element → map (columns_at (bag element)) (paths (bag element)) ≡ map answer_columns (element_types (bag element))
columns_are element ordered =
    sym (map-map answer_columns (element_at (bag element)) (paths (bag element)))
    ∙ ap (map answer_columns) (elements_are element (proper element ordered))

-- what a query means over the tables
meant : (schema : Schema) (term : PlacedTerm) (type : TypeTree) (tables : List FilledTable) → IsAccepted schema (bare term) type → Means tables term (meaning tables [] (bare (unfolded term)))
meant schema term type tables accepted =
    let reached = is_unfolding schema term type accepted in
    record { plain_term = unfolded term; unfolds = reached.unfolds; plain = reached.plain; is = refl }

pub read_shapes : (schema : Schema) (tables : List Loaded) → AreReadFor schema.tables tables
    → shapes_of tables ≡ shapes_of_schema schema.tables
read_shapes schema tables read =
    ap shapes_of read.is ∙ shapes_same schema.tables read.rows (as_many schema.tables read.rows read.stored)

pub read_loadable : (schema : Schema) (tables : List Loaded) → IsProperSchema schema
    → AreReadFor schema.tables tables → CanLoad [] tables
read_loadable schema tables proper_schema read =
    subst (λ (ts : List Loaded). CanLoad [] ts) (sym read.is) (can_load schema proper_schema read.rows read.stored)

-- the draft of an SQL text, over the tables of the schema
module _ (writing : RowWriting) (schema : Schema) (text : List ℕ) (types : List ColumnType) (proper_schema : IsProperSchema schema) where
  pub sql_servable : IsScopedText schema types text → CanServeOver schema (sql_draft writing text types)
  sql_servable scoped tables read = record {
    loadable = read_loadable schema tables proper_schema read;
    finishable = record { types = types; is = refl };
    askable = (asks_for schema tables (read_shapes schema tables read) types text scoped, refl);
  }

  pub sql_sound : IsSoundOver schema (sql_draft writing text types) (λ tables. Question.sql writing text)
  sql_sound tables read answers allowed = go answers allowed
    where
      go : (given : List Answer) → Allowed tables (text ∷ []) given → IsAllowed writing tables text (finished (Finish.rows writing) (rows_of given))
      go [] none = absurd none
      go (a ∷ given) some = record { answer = a.rows; allowed = some.0; is = refl }

-- Texts that are so read are a sound draft for the query's value, however it is written.
pub written_sound : (schema : Schema) (term : PlacedTerm) (type : TypeTree) (indexes : Indexes) (writing : Writing) (texts : List (List ℕ)) (columns : List (List ColumnType))
    → IsAccepted schema (bare term) type → ReadBy schema indexes type texts term
    → IsSoundOver schema (record { texts = texts; columns = columns; finish = Finish.value type indexes writing }) (λ tables. Question.value writing type term)
unfolding value_text
written_sound schema term type indexes writing texts columns accepted reads tables read answers allowed =
    let filled = database schema.tables read.rows in
    let value = meaning filled [] (bare (unfolded term)) in
    let here : map filled_of tables ≡ filled = ap (map filled_of) read.is ∙ held_filled schema.tables read.rows in
    let means = meant schema term type filled accepted in
    let M : List FilledTable → Type 0 = λ ts. Means ts term value in
    let Q : List Loaded → Type 0 = λ ts. EachBoth (TextAllows First ts) texts (rows_of answers) in
    let over : Q (held_of schema.tables read.rows) = subst Q read.is (both_rows (TextAllows First tables) texts answers allowed) in
    record {
      value = value;
      means = subst M (sym here) means;
      is = text_same writing type (value_by indexes type (rows_of answers)) value (reads read.rows read.stored (rows_of answers) over value means);
    }

module _ (schema : Schema) (term : PlacedTerm) (type : TypeTree) (texts : List (List ℕ)) (columns : List (List ColumnType))
    (proper_schema : IsProperSchema schema) (proper_term : IsProperTerm (bare term))
    (shred : TextsShred schema term type texts) (result_is : ResultIs schema term type texts) (columns_of : columns ≡ map (columns_at type) (paths type))
    (own : TypeTree) (typed : type_read schema term ≡ Ok own) where
  same_own : type ≡ own
  same_own = result_is own (read_accepted schema term own typed)

  accepted : IsAccepted schema (bare term) type
  accepted = subst (λ (a : TypeTree). IsAccepted schema (bare term) a) (sym same_own) (read_accepted schema term own typed)

  abbrev element : TypeTree
  element = element_type type

  of_bag : bag element ≡ type
  of_bag = bag_again type accepted.plain_bag

  shreds : Shreds schema element texts (λ filled value. Means filled term value)
  shreds = shred element (subst (λ (a : TypeTree). IsAccepted schema (bare term) a) (sym of_bag) accepted)

  ordered : IsOrdered type
  ordered = ordered_type schema proper_schema [] (bare term) type tt proper_term accepted.typed

  abbrev draft : Writing → Draft
  draft writing = record { texts = texts; columns = columns; finish = Finish.value type Indexes.numbers writing }

  at_bag : columns ≡ map (columns_at (bag element)) (paths (bag element))
  at_bag = columns_of ∙ ap (λ (a : TypeTree). map (columns_at a) (paths a)) (sym of_bag)

  at_paths : ArePathsOf type Indexes.numbers columns
  at_paths = record {
    of_bag = sym of_bag;
    of_type = tt;
    at_paths = at_bag ∙ columns_are element (subst (λ (a : TypeTree). IsOrdered a) (sym of_bag) ordered) ∙ ap (λ (a : TypeTree). map answer_columns (element_types a)) of_bag;
  }

  -- over all tables of the schema it may be served
  pub servable : (writing : Writing) → CanServeOver schema (draft writing)
  servable writing tables read = record {
    loadable = read_loadable schema tables proper_schema read;
    finishable = at_paths;
    askable = subst (λ (cs : List (List ColumnType)). EachBoth (AsksFor tables) cs texts) (sym at_bag)
        (both_mapped (λ path text. IsScopedText schema (columns_at (bag element) path) text) (AsksFor tables) (columns_at (bag element))
        (λ path text scoped. asks_for schema tables (read_shapes schema tables read) (columns_at (bag element) path) text scoped) (paths (bag element)) texts shreds.scoped);
  }

  -- the answers stitch to what the query means
  reads : ReadBy schema Indexes.numbers type texts term
  reads rows stored answers each v means =
      let S : TypeTree → Type 0 = λ a. Same (stitched (flat_numbers (element_types a)) element answers) v in
      subst S of_bag (shreds.stitched rows stored answers each v means)

  -- and it is sound for the query
  pub sound : (writing : Writing) → IsSoundOver schema (draft writing) (λ tables. Question.value writing own term)
  sound writing =
      let P : TypeTree → Type 0 = λ a. IsSoundOver schema (draft writing) (λ tables. Question.value writing a term) in
      subst P same_own (written_sound schema term type Indexes.numbers writing texts columns accepted reads)

  -- the draft is the one that the query comes to
  pub draft_is : (writing : Writing) → TextsAre schema term type texts → (plain : PlainReading) → draft writing ≡ draft_to writing plain schema term own
  unfolding draft_to shown_texts
  draft_is writing texts_are plain =
      let here : IsAccepted schema (bare term) (bag element) = subst (λ (a : TypeTree). IsAccepted schema (bare term) a) (sym of_bag) accepted in
      let shown : texts ≡ texts_of schema (normal_form schema.tables (element_type own) (bare (plain.says term))) =
      texts_are element (plain.says term) here (plain.right schema term type accepted) ∙ ap (λ (a : TypeTree). texts_of schema (normal_form schema.tables (element_type a) (bare (plain.says term)))) same_own in
      same_draft columns (map (columns_at own) (paths own)) texts (texts_of schema (normal_form schema.tables (element_type own) (bare (plain.says term)))) (columns_of ∙ ap (λ (a : TypeTree). map (columns_at a) (paths a)) same_own) shown same_own
    where
      same_draft : (cs ds : List (List ColumnType)) (ss ts : List (List ℕ)) → cs ≡ ds → ss ≡ ts → type ≡ own
          → ◌≡◌ {A = Draft} (record { texts = ss; columns = cs; finish = Finish.value type Indexes.numbers writing }) (record { texts = ts; columns = ds; finish = Finish.value own Indexes.numbers writing })
      same_draft cs ds ss ts e f g = cc

-- one text is written of a query over given tables, and one of its lineage
pub one_text : (writing : Writing) (type : TypeTree) (tables : List Loaded) (term : PlacedTerm) (text other : List ℕ)
    → IsWritten writing type tables term text → IsWritten writing type tables term other → text ≡ other
one_text writing type tables term text other a b =
    a.is ∙ ap (text_by writing type) (one_meaning (map filled_of tables) term a.value b.value a.means b.means) ∙ sym b.is

pub one_trace : (writing : TraceWriting) (tables : List Loaded) (term : PlacedTerm)
    (text other : List ℕ) → IsTraced writing tables term text → IsTraced writing tables term other
    → text ≡ other
one_trace writing tables term text other a b =
    a.is ∙ ap (λ (t : PlacedTerm).
    trace_text_by writing (trace (map filled_of tables) [] (bare t)))
    (reached_once a.unfolds b.unfolds) ∙ sym b.is
