-- What a draft comes to, from the tables that are read for it.
use Rattle.std.proofs.Common.{◌≡◌, ℕ, List, [], Option, Some, None, Result, Ok, Err, IfSome, refl, sym, ap, ◌∙◌, subst}
use Rattle.nq_edge.specs.Edge.{Files}
use Rattle.nq_model.specs.Tables.{IsProperSchema}
use Rattle.nq_model.specs.declared.table.ColumnType.{ColumnType}
use Rattle.nq_model.specs.declared.table.Schema.{Schema}
use Rattle.nq_model.specs.declared.table.TableShape.{TableShape}
use Rattle.sql_profile.specs.declared.server.Loaded.{Loaded}
use Rattle.command_line.specs.Commands.{Showing, Aim, run, run_json, run_json_tables, show_types, show_paths, show_texts}
use Rattle.command_line.specs.Paths.{paths_text}
use Rattle.command_line.specs.declared.refusal.InputRefusal.{InputRefusal}
use Rattle.nq_execute.specs.Plans.{Writing, RowWriting, Plan, plan_view, IsServable}
use Rattle.nq_execute.specs.declared.plan.Plan.{Plan as Asked}
use Rattle.nq_top.specs.Gathering.{Told, RefusalTells}
use Rattle.nq_top.specs.Judging.{Judgement, Verdict, written, shown, planned, at_once, tables_judged, draft_judged, run_judged, aim_judged, rows_judged}
use Rattle.nq_top.specs.Limits.{tables_limit}
use Rattle.nq_top.specs.Lines.{type_line}
use Rattle.nq_top.specs.Plans.{AreReadFor, Draft, drafted, Question, draft_to, question_to, sql_draft, CanServeOver, IsSoundOver}
use Rattle.nq_top.specs.Reading.{PlainReading, Reading, TypedTerm}
use Rattle.nq_top.specs.Shown.{Shows, shown_texts}
use Rattle.nq_top.specs.Steps.{Accepts, ComesTo, HoldsPlan, GatherTells, TablesTell, ReadsBehind}
use Rattle.nq_top.specs.declared.gather.Gathered.{Gathered}
use Rattle.nq_top.specs.declared.gather.Gathered.TheVariants as gathered
use Rattle.nq_top.specs.declared.tables.TableTexts.{TableTexts}
use Rattle.nq_top.specs.declared.tables.TableTexts.TheVariants.{Csv, Json}
use Rattle.nq_top.proofs.Soundness.{sql_sound}
use Rattle.nq_top.proofs.Steps.{tells_nothing}
use Rattle.nq_top.proofs.TableReadings.{reads_all}

-- What the reading of the tables tells.
abbrev pub TablesTold : Option Files → TableTexts → List ℕ → List TableShape → List Loaded → Told → Told → Result (List Loaded) InputRefusal → Type 0
TablesTold held kind folder shapes done old new result =
    IfSome held (λ files. (next : List Loaded → Verdict) → TablesTell (tables_judged files kind folder shapes tables_limit done next) next old new result)

-- Whatever comes of the tables, what is told of their reading is told of all of it.
module _ (files : Files) (kind : TableTexts) (folder : List ℕ) (schema : Schema) (shapes : List TableShape) (done : List Loaded) (same : shapes ≡ schema.tables) (empty : done ≡ []) (old new : Told) (next : List Loaded → Verdict) where
  abbrev OfAll : (Judgement → Type 0) → Type 0
  OfAll P = P (tables_judged files kind folder schema.tables tables_limit [] next)

  pub of_all : (P : Judgement → Type 0)
      → P (tables_judged files kind folder shapes tables_limit done next) → OfAll P
  of_all P told =
      subst (λ (d : List Loaded). P (tables_judged files kind folder schema.tables tables_limit d next)) empty
      (subst (λ (s : List TableShape). P (tables_judged files kind folder s tables_limit done next)) same told)

  -- a table text is refused, or an input fails
  pub tables_stop : (r : InputRefusal)
      → RefusalTells (tables_judged files kind folder shapes tables_limit done next) old new r
      → OfAll (λ j. RefusalTells j old new r)
  tables_stop r told = of_all (λ j. RefusalTells j old new r) told

  -- the plan is the one that the tables come to
  pub tables_go : (tables : List Loaded) (plan : Plan) (question : Question) (asked : Asked)
      → TablesTell (tables_judged files kind folder shapes tables_limit done next) next old new
      (Ok tables)
      → next tables ≡ planned plan question → HoldsPlan plan question asked
      → OfAll (λ j. Accepts j (gathered.Plan asked) old new)
  tables_go tables plan question asked told comes holds =
      let judges = of_all (λ j. TablesTell j next old new (Ok tables)) told in
      record {
        comes_to = subst (λ (v : Verdict). ComesTo v (gathered.Plan asked)) (sym (judges.comes_to ∙ comes)) holds;
        fetched = judges.fetched;
      }

-- What the reading of a draft's tables is to tell.
abbrev pub DraftTold : Option Files → TableTexts → List ℕ → Schema → Draft → Told → Told → Result Gathered InputRefusal → Type 0
DraftTold held kind folder schema draft old new result =
    IfSome held (λ files. (question : List Loaded → Question) → IsSoundOver schema draft question → GatherTells (draft_judged files kind folder schema draft question) old new result)

module _ (held : Option Files) (kind : TableTexts) (folder : List ℕ) (schema : Schema) (draft : Draft) (shapes : List TableShape) (done : List Loaded) (same : shapes ≡ schema.tables) (empty : done ≡ []) where
  abbrev Next : (List Loaded → Question) → List Loaded → Verdict
  Next question tables = planned (drafted draft tables) (question tables)

  -- a table text is refused, or an input fails
  pub draft_stops : (old new : Told) (r : InputRefusal) → TablesTold held kind folder shapes done old new (Err r) → DraftTold held kind folder schema draft old new (Err r)
  draft_stops old new r told = go held told
    where
      go : (h : Option Files) → TablesTold h kind folder shapes done old new (Err r) → DraftTold h kind folder schema draft old new (Err r)
      go None told = tt
      go (Some files) told = λ question sound. tables_stop files kind folder schema shapes done same empty old new (Next question) r (told (Next question))

  module _ (tables : List Loaded) (asked : Asked) (reads : ReadsBehind done shapes tables) (is : plan_view asked ≡ drafted draft tables) where
    read : AreReadFor schema.tables tables
    read = subst (λ (s : List TableShape). AreReadFor s tables) same (reads_all done tables shapes empty reads)

    -- the plan may be served
    pub draft_servable : CanServeOver schema draft → IsServable (plan_view asked)
    draft_servable servable = subst (λ (p : Plan). IsServable p) (sym is) (servable tables read)

    -- and it is that of the draft
    pub draft_goes : (old new : Told) → TablesTold held kind folder shapes done old new (Ok tables) → DraftTold held kind folder schema draft old new (Ok (gathered.Plan asked))
    draft_goes old new told = go held told
      where
        go : (h : Option Files) → TablesTold h kind folder shapes done old new (Ok tables) → DraftTold h kind folder schema draft old new (Ok (gathered.Plan asked))
        go None told = tt
        go (Some files) told = λ question sound.
            tables_go files kind folder schema shapes done same empty old new (Next question) tables (drafted draft tables) (question tables) asked (told (Next question)) refl
            (record { is = is; sound = sound tables read })

-- the draft of a query that is run
pub aim_runs : (held : Option Files) (aim given : Aim) (writing : Writing) (kind : TableTexts) (folder : List ℕ) (schema : Schema) (query : TypedTerm) (draft : Draft) (old new : Told) (result : Result Gathered InputRefusal)
    → aim ≡ given → ((plain : PlainReading) (files : Files) → aim_judged plain files given schema query ≡ run_judged writing kind plain files folder schema query)
    → ((plain : PlainReading) → draft ≡ draft_to writing plain schema query.term query.type)
    → IsSoundOver schema draft (λ tables. question_to writing query) → DraftTold held kind folder schema draft old new result
    → IfSome held (λ files. (reading : Reading) → GatherTells (aim_judged reading.plain files aim schema query) old new result)
aim_runs None aim given writing kind folder schema query draft old new result is judged same sound told = tt
aim_runs (Some files) aim given writing kind folder schema query draft old new result is judged same sound told = λ reading.
    let here = ap (λ (a : Aim). aim_judged reading.plain files a schema query) is ∙ judged reading.plain files in
    let A : Judgement → Type 0 = λ j. GatherTells j old new result in
    let D : Draft → Type 0 = λ d. GatherTells (draft_judged files kind folder schema d (λ tables. question_to writing query)) old new result in
    subst A (sym here) (subst D (same reading.plain) (told (λ tables. question_to writing query) sound))

pub text_judged : (plain : PlainReading) (files : Files) (folder : List ℕ) (schema : Schema) (query : TypedTerm) → aim_judged plain files (run folder) schema query ≡ run_judged Writing.text Csv plain files folder schema query
unfolding aim_judged
text_judged plain files folder schema query = refl

pub json_judged : (plain : PlainReading) (files : Files) (folder : List ℕ) (schema : Schema) (query : TypedTerm) → aim_judged plain files (run_json folder) schema query ≡ run_judged Writing.json Csv plain files folder schema query
unfolding aim_judged
json_judged plain files folder schema query = refl

pub json_tables_judged : (plain : PlainReading) (files : Files) (folder : List ℕ) (schema : Schema) (query : TypedTerm) → aim_judged plain files (run_json_tables folder) schema query ≡ run_judged Writing.json Json plain files folder schema query
unfolding aim_judged
json_tables_judged plain files folder schema query = refl

-- a text that is written of a query
pub aim_writes : (held : Option Files) (aim given : Aim) (schema : Schema) (query : TypedTerm) (said text : List ℕ) (old : Told) → aim ≡ given
    → ((plain : PlainReading) (files : Files) → aim_judged plain files given schema query ≡ at_once (written said)) → text ≡ said
    → IfSome held (λ files. (reading : Reading) → GatherTells (aim_judged reading.plain files aim schema query) old old (Ok (gathered.Text text)))
aim_writes None aim given schema query said text old is judged same = tt
aim_writes (Some files) aim given schema query said text old is judged same = λ reading.
    let here = ap (λ (a : Aim). aim_judged reading.plain files a schema query) is ∙ judged reading.plain files in
    let P : Judgement → Type 0 = λ j. Accepts j (gathered.Text text) old old in
    subst P (sym here) (record { comes_to = same; fetched = tells_nothing old old refl })

pub types_judged : (plain : PlainReading) (files : Files) (schema : Schema) (query : TypedTerm) → aim_judged plain files show_types schema query ≡ at_once (written (type_line query.type))
unfolding aim_judged
types_judged plain files schema query = refl

pub paths_judged : (plain : PlainReading) (files : Files) (schema : Schema) (query : TypedTerm) → aim_judged plain files show_paths schema query ≡ at_once (written (paths_text query.type))
unfolding aim_judged
paths_judged plain files schema query = refl

-- the SQL texts that are shown of a query
texts_judged : (showing : Showing) (plain : PlainReading) (files : Files) (schema : Schema) (query : TypedTerm)
    → aim_judged plain files (show_texts showing) schema query ≡ at_once (shown showing (shown_texts plain schema query.term query.type))
unfolding aim_judged
texts_judged showing plain files schema query = refl

pub aim_shows : (held : Option Files) (aim : Aim) (showing : Showing) (schema : Schema) (query : TypedTerm) (text : List ℕ) (old : Told) → aim ≡ show_texts showing
    → ((plain : PlainReading) → Shows showing text (shown_texts plain schema query.term query.type))
    → IfSome held (λ files. (reading : Reading) → GatherTells (aim_judged reading.plain files aim schema query) old old (Ok (gathered.Text text)))
aim_shows None aim showing schema query text old is shows = tt
aim_shows (Some files) aim showing schema query text old is shows = λ reading.
    let here = ap (λ (a : Aim). aim_judged reading.plain files a schema query) is ∙ texts_judged showing reading.plain files schema query in
    let P : Judgement → Type 0 = λ j. Accepts j (gathered.Text text) old old in
    subst P (sym here) (record { comes_to = shows reading.plain; fetched = tells_nothing old old refl })

-- the draft of an SQL text
pub rows_told : (writing : RowWriting) (held : Option Files) (folder : List ℕ) (schema : Schema) (text : List ℕ) (types : List ColumnType) (draft : Draft) (old new : Told) (result : Result Gathered InputRefusal)
    → draft ≡ sql_draft writing text types → IsProperSchema schema → DraftTold held Csv folder schema draft old new result
    → IfSome held (λ files. (reading : Reading) → GatherTells (rows_judged writing files folder schema (text, types)) old new result)
rows_told writing None folder schema text types draft old new result is proper told = tt
rows_told writing (Some files) folder schema text types draft old new result is proper told = λ reading.
    let P : Draft → Type 0 = λ d. GatherTells (draft_judged files Csv folder schema d (λ tables. Question.sql writing text)) old new result in
    let S : Draft → Type 0 = λ d. IsSoundOver schema d (λ tables. Question.sql writing text) in
    subst P is (told (λ tables. Question.sql writing text) (subst S (sym is) (sql_sound writing schema text types proper)))
