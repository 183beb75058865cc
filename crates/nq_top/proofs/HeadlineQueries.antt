-- What the judgement of a query's inputs comes to, in the words of the headline: they are given, refused or missing.
use Rattle.std.proofs.Common.{◌≡◌, ◌≢◌, ◌⊎◌, ◌-◌, ℕ, List, [], length, map, Some, None, Option, Result, Ok, Err, IfSome, refl, sym, ap, ap₂, subst, ◌∙◌, inl, inr}
use Rattle.std.specs.List.{sum}
use Rattle.nq_model.specs.Judging.{BrokenRule, broken, program_judged}
use Rattle.nq_model.specs.QueryTexts.{Fault, Spells, HasFault}
use Rattle.nq_model.specs.SchemaTexts as schemas
use Rattle.nq_model.specs.Terms.{PlacedTerm, bare}
use Rattle.nq_model.specs.Types.{TypeTree, bag}
use Rattle.nq_model.specs.Typing.{IsAccepted}
use Rattle.nq_model.proofs.Unfolding.{reached_once}
use Rattle.nq_model.specs.declared.table.Schema.{Schema}
use Rattle.nq_model.specs.declared.table.TableShape.{TableShape}
use Rattle.nq_model.proofs.Judging.{accepted_judged, judged_accepted}
use Rattle.nq_edge.specs.Edge.{Files, bytes_at, IsLonger}
use Rattle.sql_profile.specs.Servers.{held_of}
use Rattle.sql_profile.specs.declared.server.Loaded.{Loaded}
use Rattle.nq_ir.specs.NormalForms.{element_type, normal_form}
use Rattle.natural_index.specs.Naming.{no_key}
use Rattle.nq_parser.specs.Parsing.{Parsed}
use Rattle.query_syntax.specs.declared.fault.SyntaxFault.{SyntaxFault}
use Rattle.query_syntax.specs.declared.fault.SyntaxFault.TheVariants as syntax
use Rattle.schema_reader.proofs.Verdicts as reader
use Rattle.schema_reader.specs.Answers.{fault_view, HasCause, Reads}
use Rattle.schema_reader.specs.declared.fault.SchemaFault.{SchemaFault}
use Rattle.schema_reader.specs.declared.fault.SchemaFault.TheVariants as code
use Rattle.table_reader.specs.Faults.{HasFault as HasTableFault}
use Rattle.table_reader.specs.Records.{records_of}
use Rattle.table_reader.specs.declared.TableFault.{TableFault}
use Rattle.command_line.specs.declared.refusal.Refused.{Refused}
use Rattle.command_line.specs.declared.refusal.Refused.TheVariants.{TooLong}
use Rattle.command_line.specs.declared.refusal.Refused.TheVariants.{Schema as SchemaRefused}
use Rattle.command_line.specs.declared.refusal.Refused.TheVariants.{Query as QueryRefused, IllTyped}
use Rattle.command_line.specs.declared.refusal.Refused.TheVariants.{NoKey, Table as TableRefused}
use Rattle.command_line.specs.declared.refusal.Refused.TheVariants.{Sql, IllScoped, JsonTable}
use Rattle.command_line.specs.declared.refusal.Refused.TheVariants.{Answer, Links}
use Rattle.command_line.specs.Commands.{Showing, Aim, run, run_natural, lineage, show_natural}
use Rattle.command_line.specs.Commands.{show_texts, of_query}
use Rattle.lineage_compile.specs.Tables.{with_numbers}
use Rattle.nq_execute.specs.declared.plan.TraceWriting.{TraceWriting}
use Rattle.nq_top.specs.Headline.{Naming, numbers, keys, Names, HeldWithin, GivenSchema, GivenQuery}
use Rattle.nq_top.specs.Headline.{Accepted, Keyless, HasKeys, LacksKey, GivenKeys, GivenTables}
use Rattle.nq_top.specs.Headline.{GivenRun, NextTable, LooksFor, AreRefused}
use Rattle.nq_top.specs.Judging.{Judgement, Verdict, missing, refused, keyed, planned, at_once}
use Rattle.nq_top.specs.Judging.{after, fetched_then, read_then, text_then, query_then}
use Rattle.nq_top.specs.Judging.{draft_judged, aim_judged, tables_judged, command_judged}
use Rattle.nq_top.specs.Limits.{text_limit, tables_limit, depth_limit}
use Rattle.nq_top.specs.Lines.{file_of}
use Rattle.nq_top.specs.Natural.{Natural, keyed_as, natural_draft, natural_of, natural_read}
use Rattle.nq_top.specs.Plans.{Draft, drafted, Question, query_draft, query_question}
use Rattle.nq_top.specs.Reading.{PlainReading, Reading, ReadsQuery, TypedTerm, refused_as}
use Rattle.nq_top.specs.Reading.{schema_read, term_read, type_read, typed_as, typed_over}
use Rattle.nq_top.specs.Reading.{query_read, ill_typed, rows_read}
use Rattle.nq_top.specs.Shown.{shown_form}
use Rattle.nq_top.specs.Traced.{lineage_draft}
use Rattle.nq_top.specs.declared.tables.TableTexts.TheVariants.{Csv}
use Rattle.nq_top.proofs.Steps.{read_next}
use Rattle.nq_top.proofs.QueryReadings.{fault_of, says_term, says_fault}
use Rattle.nq_top.proofs.SchemaTexts.{same_fault}
use Rattle.nq_top.proofs.Showings.{bag_again}
use Rattle.nq_top.proofs.HeadlineTables.{held_next, missing_text, long_text, Held, none, long, short, held_at, rows_faulty, table_next, tables_given, tables_reach, Stops, tables_or_stop}

-- 1. what a text is read as

-- a fault that is not want of memory, with its place
record SchemaFaulty (text : List ℕ) (e : SchemaFault) : Type 0 where
  kind : schemas.Fault
  place : ℕ
  view : fault_view e ≡ Some (kind, place)
  has : schemas.HasFault text kind place

schema_faulty : (text : List ℕ) (e : SchemaFault) → e ≢ code.Memory → HasCause text e → SchemaFaulty text e
schema_faulty text e certain cause = go (fault_view e) refl cause
  where
    go : (view : Option (schemas.Fault × ℕ)) → fault_view e ≡ view → IfSome view (λ x. schemas.HasFault text x.0 x.1) → SchemaFaulty text e
    go None is has = absurd (certain (same_fault e code.Memory is))
    go (Some (kind, place)) is has = record { kind = kind; place = place; view = is; has = has }

module _ (reading : Reading) where
  says_schema : (text : List ℕ) (schema : Schema) → schemas.Spells text schema → reading.schemas.says text ≡ Ok schema
  says_schema text schema spells = go (reading.schemas.says text) (reading.schemas.right text) (reading.schemas.certain text)
    where
      go : (says : Result Schema SchemaFault) → Reads says text → says ≢ Err code.Memory → says ≡ Ok schema
      go (Ok found) reads certain = ap (λ (s : Schema). Ok s) (reader.one_schema text found schema reads spells)
      go (Err e) reads certain =
          let faulty = schema_faulty text e (λ same. certain (ap (λ (f : SchemaFault). Err f) same)) reads in
          absurd (reader.not_both text schema faulty.kind faulty.place spells faulty.has)

  says_schema_fault : (text : List ℕ) (e : SchemaFault) → e ≢ code.Memory → HasCause text e → reading.schemas.says text ≡ Err e
  says_schema_fault text e sure cause = go (reading.schemas.says text) (reading.schemas.right text) (reading.schemas.certain text)
    where
      here : SchemaFaulty text e
      here = schema_faulty text e sure cause

      go : (says : Result Schema SchemaFault) → Reads says text → says ≢ Err code.Memory → says ≡ Err e
      go (Ok found) reads certain = absurd (reader.not_both text found here.kind here.place reads here.has)
      go (Err g) reads certain =
          let other = schema_faulty text g (λ same. certain (ap (λ (f : SchemaFault). Err f) same)) reads in
          let one = reader.one_fault text other.kind here.kind other.place here.place other.has here.has in
          ap (λ (f : SchemaFault). Err f)
          (same_fault g e (other.view ∙ ap (λ (k : schemas.Fault). Some (k, other.place)) one.0 ∙ ap (λ (p : ℕ). Some (here.kind, p)) one.1 ∙ sym here.view))

  schema_given : (text : List ℕ) (schema : Schema) → schemas.Spells text schema → schema_read reading.schemas text ≡ Ok schema
  unfolding schema_read
  schema_given text schema spells = ap (refused_as SchemaRefused) (says_schema text schema spells)

  schema_faults : (text : List ℕ) (e : SchemaFault) → e ≢ code.Memory → HasCause text e → schema_read reading.schemas text ≡ Err (SchemaRefused e)
  unfolding schema_read
  schema_faults text e certain cause = ap (refused_as SchemaRefused) (says_schema_fault text e certain cause)

  term_given : (text : List ℕ) (query : PlacedTerm) → Spells depth_limit text query → term_read reading.queries text ≡ Ok query
  unfolding term_read
  term_given text query spells = ap (refused_as QueryRefused) (says_term (reading.queries.says text) text query (reading.queries.right text) spells)

  term_faults : (text : List ℕ) (e : SyntaxFault) → e ≢ syntax.Memory → Parsed (Err e) depth_limit text → term_read reading.queries text ≡ Err (QueryRefused e)
  unfolding term_read
  term_faults text e certain parsed = ap (refused_as QueryRefused) (go e certain parsed)
    where
      of : (f : Fault) (p : ℕ) → HasFault depth_limit text f p → reading.queries.says text ≡ Err (fault_of f p)
      of f p has = says_fault (reading.queries.says text) text f p (reading.queries.right text) has

      go : (e : SyntaxFault) → e ≢ syntax.Memory → Parsed (Err e) depth_limit text → reading.queries.says text ≡ Err e
      go syntax.Memory certain parsed = absurd (certain refl)
      go (syntax.NotUtf8 p) certain parsed = of Fault.not_utf8 p parsed
      go (syntax.Token p) certain parsed = of Fault.token p parsed
      go (syntax.Unexpected p) certain parsed = of Fault.unexpected p parsed
      go (syntax.IntRange p) certain parsed = of Fault.int_range p parsed
      go (syntax.Deep p) certain parsed = of Fault.deep p parsed
      go (syntax.Unbound p) certain parsed = of Fault.unbound p parsed
      go (syntax.TwiceLabel p) certain parsed = of Fault.twice_label p parsed

  type_given : (schema : Schema) (query : PlacedTerm) (type : TypeTree) → IsAccepted schema (bare query) type → type_read schema query ≡ Ok type
  unfolding type_read
  type_given schema query type accepted = ap (refused_as ill_typed) (accepted_judged schema query type accepted)

  type_faults : (schema : Schema) (query : PlacedTerm) (rule place : ℕ) → program_judged schema query ≡ Err (broken rule place) → type_read schema query ≡ Err (IllTyped rule place)
  unfolding type_read
  type_faults schema query rule place is = ap (refused_as ill_typed) is

  -- a query text over a schema
  query_given : (schema : Schema) (text : List ℕ) (query : PlacedTerm) (type : TypeTree) → Spells depth_limit text query → IsAccepted schema (bare query) type
      → query_read reading.queries schema text ≡ Ok (record { term = query; type = type })
  unfolding query_read
  query_given schema text query type spells accepted =
      ap (typed_over schema) (term_given text query spells) ∙ ap (typed_as query) (type_given schema query type accepted)

  query_faults : (schema : Schema) (text : List ℕ) (e : SyntaxFault) → e ≢ syntax.Memory → Parsed (Err e) depth_limit text → query_read reading.queries schema text ≡ Err (QueryRefused e)
  unfolding query_read
  query_faults schema text e certain parsed = ap (typed_over schema) (term_faults text e certain parsed)

  query_ill_typed : (schema : Schema) (text : List ℕ) (query : PlacedTerm) (rule place : ℕ) → Spells depth_limit text query → program_judged schema query ≡ Err (broken rule place)
      → query_read reading.queries schema text ≡ Err (IllTyped rule place)
  unfolding query_read
  query_ill_typed schema text query rule place spells is =
      ap (typed_over schema) (term_given text query spells) ∙ ap (typed_as query) (type_faults schema query rule place is)

read_stops : {A : Type 0} (given : Result A Refused) (why : Refused) (next : A → Judgement) → given ≡ Err why → (read_then given next).verdict ≡ refused why
read_stops given why next e = ap (λ (r : Result _ Refused). (read_then r next).verdict) e

-- a text that is held is read, and judged on or refused
module _ {A : Type 0} (files : Files) (name : List ℕ) (read : List ℕ → Result A Refused) (next : A → Judgement) (text : List ℕ) (held : HeldWithin files name text_limit text) where
  text_given : (a : A) → read text ≡ Ok a → text_then files name read next ≡ after name (next a)
  text_given a is =
      held_next files name text_limit (λ given. read_then (read given) next) text held ∙ ap (after name) (read_next (read text) a next is)

  text_refused : (why : Refused) → read text ≡ Err why → (text_then files name read next).verdict ≡ refused why
  text_refused why is =
      ap (λ (j : Judgement). j.verdict) (held_next files name text_limit (λ given. read_then (read given) next) text held)
      ∙ read_stops (read text) why next is

-- 2. what the inputs come to

-- the aim of a query that is run, by texts that name bags in a way; and the draft of those texts
abbrev pub run_as : Naming → List ℕ → Aim
run_as numbers folder = run folder
run_as keys folder = run_natural folder

abbrev pub draft_as : Naming → PlainReading → Schema → TypedTerm → Draft
draft_as numbers plain schema query = query_draft plain schema query.term query.type
draft_as keys plain schema query =
    natural_draft (natural_of schema query (shown_form plain schema query.term query.type))

-- what lacks a key does so where keys name bags
lacks_keys : (n : Naming) (Lacks : Option (List ℕ) → Type 0) (table : List ℕ)
    → LacksKey n Lacks table → (n ≡ keys) × Lacks (Some table)
lacks_keys numbers Lacks table lacks = absurd lacks
lacks_keys keys Lacks table lacks = (refl, lacks)

-- what comes of a command that puts the query to an aim
abbrev pub whole : Reading → Files → Names → Aim → Judgement
whole reading files names aim = command_judged reading files (of_query aim names.schema names.query)

module _ (reading : Reading) (files : Files) (names : Names) (aim : Aim) where
  abbrev aimed : Schema → TypedTerm → Judgement
  aimed schema query = aim_judged reading.plain files aim schema query

  after_schema : (given : GivenSchema files names) → whole reading files names aim ≡ after names.schema (query_then reading files given.schema names.query (aimed given.schema))
  after_schema given =
      text_given files names.schema (λ text. schema_read reading.schemas text) (λ found. query_then reading files found names.query (aimed found)) given.text given.held
      given.schema (schema_given reading given.text given.schema given.spells)

  -- the query that is accepted, with its type
  abbrev pub typed : Accepted files names → TypedTerm
  typed accepted = record { term = accepted.given.query; type = bag accepted.element }

  pub after_type : (accepted : Accepted files names)
      → whole reading files names aim ≡ after names.schema (after names.query (aimed accepted.given.over.schema (typed accepted)))
  after_type accepted =
      let given = accepted.given in
      let schema = given.over.schema in
      after_schema given.over
      ∙ ap (after names.schema)
      (text_given files names.query (λ text. query_read reading.queries schema text) (aimed schema) given.text given.held (typed accepted)
      (query_given reading schema given.text given.query (bag accepted.element) given.spells accepted.typed))

  -- after the query the tables of a folder are read, and something comes of them
  abbrev pub ReadsTables : Accepted files names → List ℕ → (List Loaded → Verdict) → Type 0
  ReadsTables accepted folder next =
      (aimed accepted.given.over.schema (typed accepted)).verdict
      ≡ (tables_judged files Csv folder accepted.given.over.schema.tables tables_limit []
      next).verdict

  -- The aim is that of the names. Where they give a folder, its tables are read, once the tables
  -- have the keys that name bags; and where keys do, the tables need them.
  pub record IsAimed : Type 0 where
    pub runs : (folder : List ℕ) → names.folder ≡ Some folder → (accepted : Accepted files names)
        → HasKeys names.naming (Keyless files names accepted)
        → (next : List Loaded → Verdict) × ReadsTables accepted folder next
    pub asks_keys : names.naming ≡ keys → (schema : Schema) (query : TypedTerm)
        → (next : Natural → Judgement)
        × (aimed schema query ≡ read_then (natural_read reading.plain schema query) next)

  -- the table that lacks a key, in the normal form that is shown
  pub shown_lacks : (accepted : Accepted files names) (table : Option (List ℕ))
      → Keyless files names accepted table
      → no_key accepted.given.over.schema.tables
      (shown_form reading.plain accepted.given.over.schema accepted.given.query
      (bag accepted.element)) ≡ table
  shown_lacks accepted table lacks =
      let over : Schema = accepted.given.over.schema in
      let once = reached_once
      (reading.plain.right over accepted.given.query (bag accepted.element) accepted.typed)
      lacks.unfolds in
      ap (λ (t : PlacedTerm). no_key over.tables
      (normal_form over.tables accepted.element (bare t))) once ∙ lacks.is

  -- the texts by keys of a query whose tables have the keys that it needs
  abbrev pub keyed_of : Accepted files names → Natural
  keyed_of accepted = natural_of accepted.given.over.schema (typed accepted)
      (shown_form reading.plain accepted.given.over.schema accepted.given.query
      (bag accepted.element))

  pub natural_given : (accepted : Accepted files names) → Keyless files names accepted None
      → natural_read reading.plain accepted.given.over.schema (typed accepted)
      ≡ Ok (keyed_of accepted)
  unfolding natural_read
  natural_given accepted has = ap (keyed_as (keyed_of accepted)) (shown_lacks accepted None has)

  natural_lacks : (accepted : Accepted files names) (table : List ℕ)
      → Keyless files names accepted (Some table)
      → natural_read reading.plain accepted.given.over.schema (typed accepted) ≡ Err (NoKey table)
  unfolding natural_read
  natural_lacks accepted table lacks =
      ap (keyed_as (keyed_of accepted)) (shown_lacks accepted (Some table) lacks)

  -- what is asked of a query that is run
  abbrev pub run_draft : Accepted files names → Draft
  run_draft accepted = draft_as names.naming reading.plain accepted.given.over.schema
      (typed accepted)

  abbrev run_verdict : Accepted files names → List Loaded → Verdict
  run_verdict accepted tables = planned (drafted (run_draft accepted) tables) (query_question (typed accepted))

  -- a run by texts that name bags in a way
  runs_as : (n : Naming) (accepted : Accepted files names) (folder : List ℕ)
      → HasKeys n (Keyless files names accepted)
      → (aim_judged reading.plain files (run_as n folder) accepted.given.over.schema
      (typed accepted)).verdict
      ≡ (tables_judged files Csv folder accepted.given.over.schema.tables tables_limit []
      (λ tables. planned (drafted
      (draft_as n reading.plain accepted.given.over.schema (typed accepted)) tables)
      (query_question (typed accepted)))).verdict
  unfolding aim_judged
  runs_as numbers accepted folder has = refl
  runs_as keys accepted folder has =
      let next : Natural → Judgement =
      λ natural. draft_judged files Csv folder accepted.given.over.schema
      (natural_draft natural) (λ tables. query_question (typed accepted)) in
      ap (λ (given : Result Natural Refused). (read_then given next).verdict)
      (natural_given accepted has)

  pub runs_by : (folder : List ℕ) → aim ≡ run_as names.naming folder
      → (accepted : Accepted files names) → HasKeys names.naming (Keyless files names accepted)
      → ReadsTables accepted folder (run_verdict accepted)
  runs_by folder is accepted has =
      ap (λ (a : Aim).
      (aim_judged reading.plain files a accepted.given.over.schema (typed accepted)).verdict) is
      ∙ runs_as names.naming accepted folder has

  -- a lineage
  abbrev pub lineage_verdict : TraceWriting → Accepted files names → List Loaded → Verdict
  lineage_verdict writing accepted tables =
      planned
      (drafted (lineage_draft writing reading.plain accepted.given.over.schema (typed accepted))
      (with_numbers tables)) (Question.traced writing tables accepted.given.query)

  pub traces_by : (writing : TraceWriting) (folder : List ℕ) → aim ≡ lineage writing folder
      → (accepted : Accepted files names)
      → ReadsTables accepted folder (lineage_verdict writing accepted)
  unfolding aim_judged
  traces_by writing folder is accepted =
      ap (λ (a : Aim).
      (aim_judged reading.plain files a accepted.given.over.schema (typed accepted)).verdict) is

  tables_next : (accepted : Accepted files names) (folder : List ℕ) (next : List Loaded → Verdict)
      → ReadsTables accepted folder next
      → (whole reading files names aim).verdict
      ≡ (tables_judged files Csv folder accepted.given.over.schema.tables tables_limit []
      next).verdict
  tables_next accepted folder next reads =
      ap (λ (j : Judgement). j.verdict) (after_type accepted) ∙ reads

  -- tables that are given come to what comes of them
  pub given_planned : (folder : List ℕ) (given : GivenRun files names folder)
      (next : List Loaded → Verdict) → ReadsTables given.accepted folder next
      → (whole reading files names aim).verdict
      ≡ next (held_of given.accepted.given.over.schema.tables given.tables.rows)
  given_planned folder given next reads =
      tables_next given.accepted folder next reads
      ∙ tables_given files folder next given.accepted.given.over.schema.tables tables_limit []
      given.tables.texts given.tables.rows given.tables.held given.tables.within given.tables.given

  -- the plan of a query that is run
  pub run_planned : (folder : List ℕ) (given : GivenRun files names folder)
      → aim ≡ run_as names.naming folder
      → (whole reading files names aim).verdict
      ≡ planned (drafted (run_draft given.accepted)
      (held_of given.accepted.given.over.schema.tables given.tables.rows))
      (query_question (typed given.accepted))
  run_planned folder given is =
      given_planned folder given (run_verdict given.accepted)
      (runs_by folder is given.accepted given.keyed)

  -- that of a lineage
  pub lineage_planned : (writing : TraceWriting) (folder : List ℕ)
      (given : GivenRun files names folder) → aim ≡ lineage writing folder
      → (whole reading files names aim).verdict
      ≡ lineage_verdict writing given.accepted
      (held_of given.accepted.given.over.schema.tables given.tables.rows)
  lineage_planned writing folder given is =
      given_planned folder given (lineage_verdict writing given.accepted)
      (traces_by writing folder is given.accepted)

  -- a table that is looked for
  record LooksForTable (shape : TableShape) (name : List ℕ) (limit : ℕ) : Type 0 where
    folder : List ℕ
    behind : List TableShape
    done : List Loaded
    next : List Loaded → Verdict
    comes : (whole reading files names aim).verdict ≡ (fetched_then files name limit (table_next files folder shape behind limit done next)).verdict

  table_looked : IsAimed → (shape : TableShape) (name : List ℕ) (limit : ℕ)
      → NextTable files names shape name limit → LooksForTable shape name limit
  table_looked aims shape name limit table =
      let runs = aims.runs table.folder table.is_run table.accepted table.keyed in
      let next : List Loaded → Verdict = runs.0 in
      let done = held_of table.before table.given.rows in
      record {
        folder = table.folder;
        behind = table.after;
        done = done;
        next = next;
        comes =
            tables_next table.accepted table.folder next runs.1
            ∙ ap (λ (shapes : List TableShape). (tables_judged files Csv table.folder shapes tables_limit [] next).verdict) table.tables
            ∙ tables_reach files table.folder next table.before shape table.after tables_limit [] table.given.texts table.given.rows table.given.held table.given.within table.given.given
            ∙ ap₂ (λ (n : List ℕ) l. (fetched_then files n l (table_next files table.folder shape table.after l done next)).verdict) (sym table.named) (sym table.left);
      }

  -- a text that is looked for is fetched
  looked_for : IsAimed → (name : List ℕ) (limit : ℕ) → LooksFor files names name limit
      → (next : List ℕ → Judgement)
      × ((whole reading files names aim).verdict ≡ (fetched_then files name limit next).verdict)
  looked_for aims name limit (inl (named, most)) =
      let next : List ℕ → Judgement = λ text. read_then (schema_read reading.schemas text) (λ found. query_then reading files found names.query (aimed found)) in
      (next, ap₂ (λ (n : List ℕ) l. (fetched_then files n l next).verdict) (sym named) (sym most))
  looked_for aims name limit (inr (inl (given, named, most))) =
      let next : List ℕ → Judgement = λ text. read_then (query_read reading.queries given.schema text) (aimed given.schema) in
      (next, ap (λ (j : Judgement). j.verdict) (after_schema given) ∙ ap₂ (λ (n : List ℕ) l. (fetched_then files n l next).verdict) (sym named) (sym most))
  looked_for aims name limit (inr (inr (shape, table))) =
      let looks = table_looked aims shape name limit table in
      (table_next files looks.folder shape looks.behind limit looks.done looks.next, looks.comes)

  pub is_missing : IsAimed → (name : List ℕ) (limit : ℕ) → LooksFor files names name limit
      → bytes_at files name ≡ None → (whole reading files names aim).verdict ≡ missing name
  is_missing aims name limit looks absent =
      let found = looked_for aims name limit looks in
      found.1 ∙ missing_text files name limit found.0 absent

  table_faulty : IsAimed
      → (shape : TableShape) (table name : List ℕ) (limit : ℕ) (text : List ℕ) (fault : TableFault)
      → table ≡ shape.name → NextTable files names shape name limit
      → HeldWithin files name limit text → HasTableFault shape (records_of text) fault → (whole reading files names aim).verdict ≡ refused (TableRefused table fault)
  table_faulty aims shape table name limit text fault named looks held has =
      let found = table_looked aims shape name limit looks in
      found.comes
      ∙ ap (λ (j : Judgement). j.verdict) (held_next files name limit (table_next files found.folder shape found.behind limit found.done found.next) text held)
      ∙ read_stops (rows_read Csv shape text) (TableRefused shape.name fault) _ (rows_faulty shape text fault has)
      ∙ ap (λ (n : List ℕ). refused (TableRefused n fault)) (sym named)

  pub is_refused : IsAimed → (why : Refused) → AreRefused files names why
      → (whole reading files names aim).verdict ≡ refused why
  is_refused aims (TooLong name limit) (looks, longer) =
      let found = looked_for aims name limit looks in
      found.1 ∙ long_text files name limit found.0 longer
  is_refused aims (SchemaRefused fault) (certain, (text, held, cause)) =
      text_refused files names.schema (λ given. schema_read reading.schemas given) (λ found. query_then reading files found names.query (aimed found)) text held
      (SchemaRefused fault) (schema_faults reading text fault certain cause)
  is_refused aims (QueryRefused fault) (certain, given, (text, held, parsed)) =
      ap (λ (j : Judgement). j.verdict) (after_schema given)
      ∙ text_refused files names.query (λ found. query_read reading.queries given.schema found) (aimed given.schema) text held
      (QueryRefused fault) (query_faults reading given.schema text fault certain parsed)
  is_refused aims (IllTyped rule place) (given, is) =
      ap (λ (j : Judgement). j.verdict) (after_schema given.over)
      ∙ text_refused files names.query (λ found. query_read reading.queries given.over.schema found) (aimed given.over.schema) given.text given.held
      (IllTyped rule place) (query_ill_typed reading given.over.schema given.text given.query rule place given.spells is)
  is_refused aims (NoKey table) (accepted, lacks) =
      let found = lacks_keys names.naming (Keyless files names accepted) table lacks in
      let asks = aims.asks_keys found.0 accepted.given.over.schema (typed accepted) in
      ap (λ (j : Judgement). j.verdict) (after_type accepted)
      ∙ ap (λ (j : Judgement). j.verdict) asks.1
      ∙ read_stops (natural_read reading.plain accepted.given.over.schema (typed accepted))
      (NoKey table) asks.0 (natural_lacks accepted table found.1)
  is_refused aims (TableRefused table fault) (shape, named, name, limit, looks, (text, held, has)) =
      table_faulty aims shape table name limit text fault named looks held has
  is_refused aims (Sql fault) never = absurd never
  is_refused aims (IllScoped rule place) never = absurd never
  is_refused aims (JsonTable name fault) never = absurd never
  is_refused aims (Answer number fault) never = absurd never
  is_refused aims (Links fault) never = absurd never

-- the aims of the commands
asks_keys_of : (plain : PlainReading) (files : Files) (n : Naming) (folder : List ℕ) → n ≡ keys
    → (schema : Schema) (query : TypedTerm)
    → (next : Natural → Judgement)
    × (aim_judged plain files (run_as n folder) schema query
    ≡ read_then (natural_read plain schema query) next)
unfolding aim_judged
asks_keys_of plain files numbers folder by_keys schema query = absurd (cc)
asks_keys_of plain files keys folder by_keys schema query = (
  λ natural. draft_judged files Csv folder schema (natural_draft natural)
      (λ tables. query_question query),
  refl,
)

shown_asks_keys : (plain : PlainReading) (files : Files) (schema : Schema) (query : TypedTerm)
    → (next : Natural → Judgement)
    × (aim_judged plain files show_natural schema query
    ≡ read_then (natural_read plain schema query) next)
unfolding aim_judged
shown_asks_keys plain files schema query = (λ natural. at_once (keyed natural), refl)

-- one for each folder that there may be, and for each naming
abbrev pub aim_for : Option (List ℕ) → Naming → Aim
aim_for None numbers = show_texts Showing.frames
aim_for None keys = show_natural
aim_for (Some folder) n = run_as n folder

asks_keys_for : (plain : PlainReading) (files : Files) (folder : Option (List ℕ)) (n : Naming) → n
    ≡ keys → (schema : Schema) (query : TypedTerm)
    → (next : Natural → Judgement)
    × (aim_judged plain files (aim_for folder n) schema query
    ≡ read_then (natural_read plain schema query) next)
asks_keys_for plain files None numbers by_keys schema query = absurd (cc)
asks_keys_for plain files None keys by_keys schema query = shown_asks_keys plain files schema query
asks_keys_for plain files (Some folder) n by_keys schema query =
    asks_keys_of plain files n folder by_keys schema query

pub aims_at : (reading : Reading) (files : Files) (names : Names)
    → IsAimed reading files names (aim_for names.folder names.naming)
aims_at reading files names = record {
  runs = λ folder is_run accepted has.
      let aim = aim_for names.folder names.naming in (
        run_verdict reading files names aim accepted,
        runs_by reading files names aim folder
            (ap (λ (f : Option (List ℕ)). aim_for f names.naming) is_run) accepted has,
      );
  asks_keys = asks_keys_for reading.plain files names.folder names.naming;
}

-- of texts that are shown in another way
pub shows_at : (reading : Reading) (files : Files) (schema query : List ℕ) (showing : Showing)
    → IsAimed reading files (record {
      schema = schema;
      query = query;
      folder = None;
      naming =
          numbers;
    }) (show_texts showing)
shows_at reading files schema query showing = record {
  runs = λ folder is_run accepted has. absurd (cc);
  asks_keys = λ by_keys. absurd (cc);
}

-- of a lineage
pub traces_at : (reading : Reading) (files : Files) (writing : TraceWriting)
    (schema query folder : List ℕ)
    → IsAimed reading files (record {
      schema = schema;
      query = query;
      folder = Some folder;
      naming =
          numbers;
    }) (lineage writing folder)
traces_at reading files writing schema query folder =
    let names : Names = record {
      schema = schema;
      query = query;
      folder = Some folder;
      naming =
          numbers;
    } in
    record {
      runs = λ own is_run accepted has.
          let same : folder ≡ own = cc in (
            lineage_verdict reading files names (lineage writing folder) writing accepted,
            traces_by reading files names (lineage writing folder) writing own
                (ap (lineage writing) same) accepted,
          );
      asks_keys = λ by_keys. absurd (cc);
    }

-- 3. they come to one of three

pub data Cases (files : Files) (names : Names) (Given : Type 0) : Type 0 where
  are_given : Given → Cases files names Given
  are_refused : (why : Refused) → AreRefused files names why → Cases files names Given
  are_missing : (name : List ℕ) (limit : ℕ) → LooksFor files names name limit → bytes_at files name ≡ None → Cases files names Given

module _ (reading : Reading) (files : Files) (names : Names) where
  type_cases : GivenQuery files names → Cases files names (Accepted files names)
  type_cases given = go (program_judged given.over.schema given.query) refl
    where
      go : (judged : Result TypeTree BrokenRule) → program_judged given.over.schema given.query ≡ judged → Cases files names (Accepted files names)
      go (Ok type) is =
          let typed = judged_accepted given.over.schema given.query type is in
          are_given (record {
            given = given;
            element = element_type type;
            typed = subst (λ (a : TypeTree). IsAccepted given.over.schema (bare given.query) a) (sym (bag_again type typed.plain_bag)) typed;
          })
      go (Err e) is = are_refused (IllTyped e.rule e.place) (given, is)

  query_cases : GivenSchema files names → Cases files names (Accepted files names)
  query_cases over = go (held_at files names.query text_limit)
    where
      spelled : (text : List ℕ) → HeldWithin files names.query text_limit text → (says : Result PlacedTerm SyntaxFault) → ReadsQuery says text → Cases files names (Accepted files names)
      spelled text held (Ok query) reads = type_cases (record { over = over; text = text; held = held; query = query; spells = reads })
      spelled text held (Err syntax.Memory) reads = absurd reads
      spelled text held (Err (syntax.NotUtf8 p)) reads = are_refused (QueryRefused (syntax.NotUtf8 p)) ((λ same. absurd (cc)), over, (text, held, reads))
      spelled text held (Err (syntax.Token p)) reads = are_refused (QueryRefused (syntax.Token p)) ((λ same. absurd (cc)), over, (text, held, reads))
      spelled text held (Err (syntax.Unexpected p)) reads = are_refused (QueryRefused (syntax.Unexpected p)) ((λ same. absurd (cc)), over, (text, held, reads))
      spelled text held (Err (syntax.IntRange p)) reads = are_refused (QueryRefused (syntax.IntRange p)) ((λ same. absurd (cc)), over, (text, held, reads))
      spelled text held (Err (syntax.Deep p)) reads = are_refused (QueryRefused (syntax.Deep p)) ((λ same. absurd (cc)), over, (text, held, reads))
      spelled text held (Err (syntax.Unbound p)) reads = are_refused (QueryRefused (syntax.Unbound p)) ((λ same. absurd (cc)), over, (text, held, reads))
      spelled text held (Err (syntax.TwiceLabel p)) reads = are_refused (QueryRefused (syntax.TwiceLabel p)) ((λ same. absurd (cc)), over, (text, held, reads))

      go : Held files names.query text_limit → Cases files names (Accepted files names)
      go (none is) = are_missing names.query text_limit (inr (inl (over, refl, refl))) is
      go (long is) = are_refused (TooLong names.query text_limit) (inr (inl (over, refl, refl)), is)
      go (short text held) = spelled text held (reading.queries.says text) (reading.queries.right text)

  pub accepted_cases : Cases files names (Accepted files names)
  accepted_cases = go (held_at files names.schema text_limit)
    where
      spelled : (text : List ℕ) → HeldWithin files names.schema text_limit text → (says : Result Schema SchemaFault) → Reads says text → says ≢ Err code.Memory → Cases files names (Accepted files names)
      spelled text held (Ok schema) reads certain = query_cases (record { text = text; held = held; schema = schema; spells = reads })
      spelled text held (Err e) reads certain = are_refused (SchemaRefused e) ((λ same. certain (ap (λ (f : SchemaFault). Err f) same)), (text, held, reads))

      go : Held files names.schema text_limit → Cases files names (Accepted files names)
      go (none is) = are_missing names.schema text_limit (inl (refl, refl)) is
      go (long is) = are_refused (TooLong names.schema text_limit) (inl (refl, refl), is)
      go (short text held) = spelled text held (reading.schemas.says text) (reading.schemas.right text) (reading.schemas.certain text)

  -- the tables have the keys that name bags, or one lacks it
  keys_or_not : (accepted : Accepted files names) (n : Naming)
      → HasKeys n (Keyless files names accepted) ⊎ ((table : List ℕ)
      × LacksKey n (Keyless files names accepted) table)
  keys_or_not accepted numbers = inl tt
  keys_or_not accepted keys =
      go (no_key accepted.given.over.schema.tables
      (normal_form accepted.given.over.schema.tables accepted.element
      (bare (reading.plain.says accepted.given.query)))) refl
    where
      found : (table : Option (List ℕ))
          → no_key accepted.given.over.schema.tables
          (normal_form accepted.given.over.schema.tables accepted.element
          (bare (reading.plain.says accepted.given.query))) ≡ table
          → Keyless files names accepted table
      found table is = record {
        plain = reading.plain.says accepted.given.query;
        unfolds = reading.plain.right accepted.given.over.schema accepted.given.query
            (bag accepted.element) accepted.typed;
        is = is;
      }

      go : (table : Option (List ℕ))
          → no_key accepted.given.over.schema.tables
          (normal_form accepted.given.over.schema.tables accepted.element
          (bare (reading.plain.says accepted.given.query))) ≡ table
          → Keyless files names accepted None ⊎ ((table : List ℕ)
          × Keyless files names accepted (Some table))
      go None is = inl (found None is)
      go (Some table) is = inr (table, found (Some table) is)

  pub keyed_cases : names.naming ≡ keys → Cases files names (GivenKeys files names)
  keyed_cases by_keys = go accepted_cases
    where
      keyed_or : (accepted : Accepted files names)
          → Keyless files names accepted None ⊎ ((table : List ℕ)
          × Keyless files names accepted (Some table)) → Cases files names (GivenKeys files names)
      keyed_or accepted (inl has) = are_given (record { accepted = accepted; keyed = has })
      keyed_or accepted (inr (table, lacks)) =
          are_refused (NoKey table) (
            accepted,
            subst (λ (n : Naming). LacksKey n (Keyless files names accepted) table) (sym by_keys)
                lacks,
          )

      go : Cases files names (Accepted files names) → Cases files names (GivenKeys files names)
      go (are_given accepted) = keyed_or accepted (keys_or_not accepted keys)
      go (are_refused why wrong) = are_refused why wrong
      go (are_missing name limit looks none_is) = are_missing name limit looks none_is

  pub run_cases : (folder : List ℕ) → names.folder ≡ Some folder → Cases files names (GivenRun files names folder)
  run_cases folder is_run = go accepted_cases
    where
      next_of : (accepted : Accepted files names)
          → HasKeys names.naming (Keyless files names accepted)
          → (stops : Stops files folder tables_limit accepted.given.over.schema.tables)
          → NextTable files names stops.shape (file_of folder stops.shape.name) (tables_limit - sum (map length stops.given.texts))
      next_of accepted has stops = record {
        accepted = accepted;
        keyed = has;
        folder = folder;
        is_run = is_run;
        before = stops.before;
        after = stops.behind;
        tables = stops.are;
        given = stops.given;
        named = refl;
        left = refl;
      }

      stopped : (accepted : Accepted files names)
          → HasKeys names.naming (Keyless files names accepted)
          → (stops : Stops files folder tables_limit accepted.given.over.schema.tables)
          → (bytes_at files (file_of folder stops.shape.name) ≡ None)
          ⊎ (IsLonger (tables_limit - sum (map length stops.given.texts)) (bytes_at files (file_of folder stops.shape.name))
          ⊎ ((text : List ℕ) × HeldWithin files (file_of folder stops.shape.name) (tables_limit - sum (map length stops.given.texts)) text × (fault : TableFault) × HasTableFault stops.shape (records_of text) fault))
          → Cases files names (GivenRun files names folder)
      stopped accepted has stops (inl none_is) =
          are_missing (file_of folder stops.shape.name)
          (tables_limit - sum (map length stops.given.texts))
          (inr (inr (stops.shape, next_of accepted has stops))) none_is
      stopped accepted has stops (inr (inl longer)) =
          are_refused (TooLong (file_of folder stops.shape.name)
          (tables_limit - sum (map length stops.given.texts)))
          (inr (inr (stops.shape, next_of accepted has stops)), longer)
      stopped accepted has stops (inr (inr (text, held, fault, wrong))) =
          are_refused (TableRefused stops.shape.name fault) (
            stops.shape,
            refl,
            file_of folder stops.shape.name,
            (tables_limit - sum (map length stops.given.texts)),
            next_of accepted has stops,
            (text, held, wrong),
          )

      tables : (accepted : Accepted files names)
          → HasKeys names.naming (Keyless files names accepted)
          → GivenTables files folder tables_limit accepted.given.over.schema.tables ⊎ Stops files
          folder tables_limit accepted.given.over.schema.tables
          → Cases files names (GivenRun files names folder)
      tables accepted has (inl given) =
          are_given (record { accepted = accepted; keyed = has; tables = given })
      tables accepted has (inr stops) = stopped accepted has stops stops.wrong

      keyed_or : (accepted : Accepted files names)
          → HasKeys names.naming (Keyless files names accepted) ⊎ ((table : List ℕ)
          × LacksKey names.naming (Keyless files names accepted) table)
          → Cases files names (GivenRun files names folder)
      keyed_or accepted (inl has) =
          tables accepted has (tables_or_stop files folder accepted.given.over.schema.tables
          tables_limit)
      keyed_or accepted (inr (table, lacks)) = are_refused (NoKey table) (accepted, lacks)

      go : Cases files names (Accepted files names) → Cases files names (GivenRun files names folder)
      go (are_given accepted) = keyed_or accepted (keys_or_not accepted names.naming)
      go (are_refused why wrong) = are_refused why wrong
      go (are_missing name limit looks none_is) = are_missing name limit looks none_is
