-- The headline: what `run`, `lineage` and `show` of SQL texts come to, in the words of the
-- grammars, the typing rules, the tables and the meaning.
use Rattle.std.specs.Prelude.{◌≡◌, ◌≢◌, ◌≤◌, ◌-◌, ◌⊎◌, ⊤, ℕ, true, List, [], ◌∷◌, ◌++◌, codes}
use Rattle.std.specs.Prelude.{length, map, sum, zip, Option, Some, None, IfSome, Err}
use Rattle.std.specs.List.{AllZip}
use Rattle.nq_model.specs.Canonical.{canonical_text}
use Rattle.nq_model.specs.Databases.{database}
use Rattle.nq_model.specs.Judging.{broken, program_judged}
use Rattle.nq_model.specs.QueryMeaning.{Means}
use Rattle.nq_model.specs.QueryTexts as queries
use Rattle.nq_model.specs.SchemaTexts as schemas
use Rattle.nq_model.specs.Terms.{PlacedTerm, bare}
use Rattle.nq_model.specs.Types.{TypeTree, bag}
use Rattle.nq_model.specs.Typing.{IsAccepted}
use Rattle.nq_model.specs.Unfolding.{Unfolds}
use Rattle.nq_model.specs.Values.{Nested}
use Rattle.nq_model.specs.declared.table.Cell.{Cell}
use Rattle.nq_model.specs.declared.table.Schema.{Schema}
use Rattle.nq_model.specs.declared.table.TableShape.{TableShape}
use Rattle.natural_compile.specs.Texts.{keyed_texts}
use Rattle.natural_index.specs.Naming.{no_key}
use Rattle.natural_keys.specs.NaturalKeys.{natural_keys}
use Rattle.nq_compile.specs.Shreds.{Shreds, StitchTo}
use Rattle.nq_edge.specs.Edge.{Files, bytes_at, TellsMore, IsLonger}
use Rattle.nq_edge.specs.Lines.{PutsLine}
use Rattle.nq_ir.specs.NormalForms.{normal_form}
use Rattle.nq_ir.specs.Paths.{paths}
use Rattle.nq_ir.specs.Trees.{FormTree}
use Rattle.nq_parser.specs.Parsing.{Parsed}
use Rattle.query_syntax.specs.declared.fault.SyntaxFault.TheVariants.{Memory as no_query}
use Rattle.schema_reader.specs.Answers.{HasCause}
use Rattle.schema_reader.specs.declared.fault.SchemaFault.TheVariants.{Memory as no_schema}
use Rattle.sql_profile.specs.Servers.{RoseBelow}
use Rattle.table_reader.specs.Faults.{GivesRows, HasFault}
use Rattle.table_reader.specs.Records.{records_of}
use Rattle.traced_meaning.specs.Traces.{trace}
use Rattle.nq_execute.specs.Plans.{trace_text_by}
use Rattle.nq_execute.specs.declared.plan.TraceWriting.{TraceWriting}
use Rattle.nq_execute.specs.declared.plan.TraceWriting.TheVariants as trace_way
use Rattle.command_line.specs.Commands.{Showing, database_word}
use Rattle.command_line.specs.Frames.{frames}
use Rattle.command_line.specs.Refusals.{refused_status, refused_note}
use Rattle.command_line.specs.declared.refusal.Refused.{Refused}
use Rattle.command_line.specs.declared.refusal.Refused.TheVariants.{TooLong}
use Rattle.command_line.specs.declared.refusal.Refused.TheVariants.{Schema as SchemaRefused}
use Rattle.command_line.specs.declared.refusal.Refused.TheVariants.{Query as QueryRefused, IllTyped}
use Rattle.command_line.specs.declared.refusal.Refused.TheVariants.{NoKey, Table as TableRefused}
use Rattle.nq_top.specs.Limits.{text_limit, tables_limit, depth_limit}
use Rattle.nq_top.specs.Lines.{file_of}
use Rattle.nq_top.specs.Shown.{texts_by}
use Rattle.nq_top.specs.Theorem.{HasFailed}
use Rattle.nq_top.specs.World.{SinkState, World}

-- how the SQL texts of a query name bags: by tag and number, or by keys
pub data Naming : Type 0 where
  numbers : Naming
  keys : Naming

-- the names that a command gives: of a schema, of a query and, where the query is run, of a folder
-- of table texts; and how its SQL texts name bags
pub record Names : Type 0 where
  pub schema : List ℕ
  pub query : List ℕ
  pub folder : Option (List ℕ)
  pub naming : Naming

-- a text is held under a name, and is no longer than a limit
pub record HeldWithin (files : Files) (name : List ℕ) (limit : ℕ) (text : List ℕ) : Type 0 where
  pub held : bytes_at files name ≡ Some text
  pub within : length text ≤ limit

-- the text under the name of the schema spells a schema
pub record GivenSchema (files : Files) (names : Names) : Type 0 where
  pub text : List ℕ
  pub held : HeldWithin files names.schema text_limit text
  pub schema : Schema
  pub spells : schemas.Spells text schema

-- and the one under that of the query spells a query
pub record GivenQuery (files : Files) (names : Names) : Type 0 where
  pub over : GivenSchema files names
  pub text : List ℕ
  pub held : HeldWithin files names.query text_limit text
  pub query : PlacedTerm
  pub spells : queries.Spells depth_limit text query

-- which is accepted over the schema, as a bag of elements of a type
pub record Accepted (files : Files) (names : Names) : Type 0 where
  pub given : GivenQuery files names
  pub element : TypeTree
  pub typed : IsAccepted given.over.schema (bare given.query) (bag element)

-- Where keys name bags in the SQL texts of the query, this table would lack its key: that of the
-- generator with the least number whose rows name bags and whose table has none, in the normal form
-- of the plain term to which the query unfolds; if there is one.
pub record Keyless (files : Files) (names : Names) (accepted : Accepted files names)
    (table : Option (List ℕ)) : Type 0 where
  pub plain : PlacedTerm
  pub unfolds : Unfolds accepted.given.query plain
  pub is : no_key accepted.given.over.schema.tables
      (normal_form accepted.given.over.schema.tables accepted.element (bare plain)) ≡ table

-- each table whose rows name bags by keys has a key; or this is the first that has none
abbrev pub HasKeys : Naming → (Option (List ℕ) → Type 0) → Type 0
HasKeys numbers Lacks = ⊤
HasKeys keys Lacks = Lacks None

abbrev pub LacksKey : Naming → (Option (List ℕ) → Type 0) → List ℕ → Type 0
LacksKey numbers Lacks table = ⊥
LacksKey keys Lacks table = Lacks (Some table)

-- A folder has a text for each table of a list, together within a limit, and each gives its table
-- rows.
pub record GivenTables (files : Files) (folder : List ℕ) (limit : ℕ)
    (shapes : List TableShape) : Type 0 where
  pub texts : List (List ℕ)
  pub held : AllZip (λ shape text. bytes_at files (file_of folder shape.name)
      ≡ Some text) shapes texts
  pub within : sum (map length texts) ≤ limit
  pub rows : List (List (List Cell))
  pub given : AllZip (λ table rows. GivesRows table.0 (records_of table.1) rows)
      (zip shapes texts) rows

-- the query is accepted, and each table whose rows name bags by keys has a key
pub record GivenKeys (files : Files) (names : Names) : Type 0 where
  pub accepted : Accepted files names
  pub keyed : Keyless files names accepted None

-- the query is accepted, the tables have the keys that it needs, and the folder has the tables of
-- its schema
pub record GivenRun (files : Files) (names : Names) (folder : List ℕ) : Type 0 where
  pub accepted : Accepted files names
  pub keyed : HasKeys names.naming (Keyless files names accepted)
  pub tables : GivenTables files folder tables_limit accepted.given.over.schema.tables

-- A table's text is looked for where the query is run and accepted, the tables have the keys that
-- it needs, and the texts of the tables before it are given, which leave it its limit.
pub record NextTable (files : Files) (names : Names) (shape : TableShape) (name : List ℕ)
    (limit : ℕ) : Type 0 where
  pub accepted : Accepted files names
  pub keyed : HasKeys names.naming (Keyless files names accepted)
  pub folder : List ℕ
  pub is_run : names.folder ≡ Some folder
  pub before : List TableShape
  pub after : List TableShape
  pub tables : accepted.given.over.schema.tables ≡ before ++ shape ∷ after
  pub given : GivenTables files folder tables_limit before
  pub named : name ≡ file_of folder shape.name
  pub left : limit ≡ tables_limit - sum (map length given.texts)

-- the texts that are looked for, by name and limit: the schema's, the query's where the schema is
-- given, and then the tables'
abbrev pub LooksFor : Files → Names → List ℕ → ℕ → Type 0
LooksFor files names name limit =
    ((name ≡ names.schema) × (limit ≡ text_limit))
    ⊎ ((GivenSchema files names × (name ≡ names.query) × (limit ≡ text_limit))
    ⊎ ((shape : TableShape) × NextTable files names shape name limit))

-- the text under a name is looked for, and is not held
abbrev pub IsMissing : Files → Names → List ℕ → Type 0
IsMissing files names name =
    (limit : ℕ) × LooksFor files names name limit × (bytes_at files name ≡ None)

-- the text under a name, within its limit, has a fault
abbrev pub IsFaulty : Files → List ℕ → ℕ → (List ℕ → Type 0) → Type 0
IsFaulty files name limit Fault = (text : List ℕ) × HeldWithin files name limit text × Fault text

-- What the inputs are refused for: the first text that is too long or has a fault by its
-- definition, or the first typing rule that the query breaks, or the table that lacks the key by
-- which it would name bags.
abbrev pub AreRefused : Files → Names → Refused → Type 0
AreRefused files names (TooLong name limit) =
    LooksFor files names name limit × IsLonger limit (bytes_at files name)
AreRefused files names (SchemaRefused fault) =
    (fault ≢ no_schema) × IsFaulty files names.schema text_limit (λ text. HasCause text fault)
AreRefused files names (QueryRefused fault) =
    (fault ≢ no_query) × GivenSchema files names
    × IsFaulty files names.query text_limit (λ text. Parsed (Err fault) depth_limit text)
AreRefused files names (IllTyped rule place) =
    (given : GivenQuery files names)
    × (program_judged given.over.schema given.query ≡ Err (broken rule place))
AreRefused files names (NoKey table) =
    (accepted : Accepted files names)
    × LacksKey names.naming (Keyless files names accepted) table
AreRefused files names (TableRefused table fault) =
    (shape : TableShape) × (table ≡ shape.name)
    × (name : List ℕ) × (limit : ℕ) × NextTable files names shape name limit
    × IsFaulty files name limit (λ text. HasFault shape (records_of text) fault)
AreRefused files names _ = ⊥

-- What a command comes to, by what it is given and what it then writes.
pub record Outcome (files : Files) (names : Names) (Given : Type 0) (Writes : Given → Type 0)
    (undisturbed : Type 0) (before after : World) (old new : SinkState) (status : ℕ) : Type 0 where
  -- The status is 0 only where the inputs are given, and then what they give was written.
  pub accepts : status ≡ 0 → Given
  pub means : (given : Given) → status ≡ 0 → Writes given
  -- Where they are given and nothing disturbs the command, the status is 0, or memory wanted and
  -- nothing was put.
  pub completes : Given → undisturbed
      → (status ≡ 0) ⊎ ((status ≡ 1) × (after.out.written ≡ before.out.written))
  -- A refusal's status and note line are those of what the inputs are refused for; and inputs that
  -- are to be refused come to that status, but for want of memory and a failed fetch.
  pub refuses : (some : Refused) → status ≡ refused_status some
      → (why : Refused) × AreRefused files names why × (status ≡ refused_status why)
      × PutsLine old.written new.written old.faults new.faults (refused_note why)
  pub refused : (why : Refused) → AreRefused files names why
      → (status ≡ refused_status why) ⊎ ((status ≡ 1) ⊎ (status ≡ 7))
  -- Where a text that is looked for is not held, its fetch fails, or one before it, or memory
  -- wants.
  pub misses : (name : List ℕ) → IsMissing files names name → (status ≡ 1) ⊎ (status ≡ 7)

-- no call on the inputs, on the output or on the server failed, and the server is honest
abbrev pub IsServed : World → World → Type 0
IsServed before after =
    (HasFailed before after → ⊥)
    × (RoseBelow before.server.bound before.server.failures after.server.failures → ⊥)
    × (before.server.honest ≡ true)

-- `run` writes the canonical text of what the query means over the tables, where the server is
-- honest, and so does `run natural`.
abbrev pub RunComes : World → World → SinkState → SinkState → ℕ
    → Naming → Files → List ℕ → List ℕ → List ℕ → Type 0
RunComes before after old new status naming files schema query folder =
    let names : Names = record {
      schema = schema;
      query = query;
      folder = Some folder;
      naming = naming;
    } in
    Outcome files names (GivenRun files names folder)
    (λ given. before.server.honest ≡ true → (value : Nested)
    × Means (database given.accepted.given.over.schema.tables given.tables.rows)
    given.accepted.given.query value
    × TellsMore before.out.written after.out.written (canonical_text value))
    (IsServed before after) before after old new status

-- `lineage` writes the text of the traced meaning of the plain term to which the query unfolds,
-- over the tables, where the server is honest, and `lineage json` writes it as JSON.
abbrev pub LineageComes : World → World → SinkState → SinkState → ℕ
    → TraceWriting → Files → List ℕ → List ℕ → List ℕ → Type 0
LineageComes before after old new status writing files schema query folder =
    let names : Names = record {
      schema = schema;
      query = query;
      folder = Some folder;
      naming = numbers;
    } in
    Outcome files names (GivenRun files names folder)
    (λ given. before.server.honest ≡ true → (plain : PlacedTerm)
    × Unfolds given.accepted.given.query plain
    × TellsMore before.out.written after.out.written
    (trace_text_by writing
    (trace (database given.accepted.given.over.schema.tables given.tables.rows) []
    (bare plain))))
    (IsServed before after) before after old new status

-- `show` of SQL texts writes in its way what is written of texts that shred the query.
abbrev pub ShowComes : World → World → SinkState → SinkState → ℕ
    → Showing → Files → List ℕ → List ℕ → Type 0
ShowComes before after old new status showing files schema query =
    let names : Names = record {
      schema = schema;
      query = query;
      folder = None;
      naming = numbers;
    } in
    Outcome files names (Accepted files names)
    (λ accepted. (texts : List (List ℕ))
    × Shreds accepted.given.over.schema accepted.element texts
    (λ tables value. Means tables accepted.given.query value)
    × TellsMore before.out.written after.out.written
    (texts_by showing (bag accepted.element) texts))
    (HasFailed before after → ⊥) before after old new status

-- `show natural` writes frames of the natural texts of the normal form of the plain term to which
-- the query unfolds, which stitch by their keys to what the query means.
abbrev pub NaturalComes : World → World → SinkState → SinkState → ℕ
    → Files → List ℕ → List ℕ → Type 0
NaturalComes before after old new status files schema query =
    let names : Names = record { schema = schema; query = query; folder = None; naming = keys } in
    Outcome files names (GivenKeys files names)
    (λ given. let over : Schema = given.accepted.given.over.schema in
    let element : TypeTree = given.accepted.element in
    let form : FormTree = normal_form over.tables element (bare given.keyed.plain) in
    StitchTo (natural_keys over.tables form) over element (keyed_texts over.tables form)
    (λ tables value. Means tables given.accepted.given.query value)
    × TellsMore before.out.written after.out.written
    (frames (paths (bag element)) (keyed_texts over.tables form)))
    (HasFailed before after → ⊥) before after old new status

-- the words that run a query, by texts that name bags in a way
abbrev pub run_words : Naming → List ℕ → List ℕ → List ℕ → List (List ℕ)
run_words numbers schema query folder = codes "run" ∷ schema ∷ query ∷ folder ∷ []
run_words keys schema query folder =
    codes "run" ∷ codes "natural" ∷ schema ∷ query ∷ folder ∷ []

-- the words are those, over files that are held
abbrev pub OfRun : List (List ℕ) → Option Files
    → (Naming → Files → List ℕ → List ℕ → List ℕ → Type 0) → Type 0
OfRun words held P =
    IfSome held (λ files. (naming : Naming) (schema query folder : List ℕ)
    → words ≡ run_words naming schema query folder → P naming files schema query folder)

-- the words that write the lineage of a query in a way
abbrev pub lineage_words : TraceWriting → List ℕ → List ℕ → List ℕ → List (List ℕ)
lineage_words trace_way.Text schema query folder =
    codes "lineage" ∷ schema ∷ query ∷ folder ∷ []
lineage_words trace_way.Json schema query folder =
    codes "lineage" ∷ codes "json" ∷ schema ∷ query ∷ folder ∷ []

-- the words are those, over files that are held
abbrev pub OfLineage : List (List ℕ) → Option Files
    → (TraceWriting → Files → List ℕ → List ℕ → List ℕ → Type 0) → Type 0
OfLineage words held P =
    IfSome held (λ files. (writing : TraceWriting) (schema query folder : List ℕ)
    → words ≡ lineage_words writing schema query folder → P writing files schema query folder)

-- the words that show SQL texts in a way, over a schema and a query of these names
abbrev pub show_words : Showing → List ℕ → List ℕ → List (List ℕ)
show_words Showing.frames schema query = codes "show" ∷ codes "sql" ∷ schema ∷ query ∷ []
show_words Showing.json schema query = codes "show" ∷ codes "json" ∷ schema ∷ query ∷ []
show_words (Showing.script database folder) schema query =
    codes "show" ∷ codes "script" ∷ database_word database ∷ schema ∷ query ∷ folder ∷ []

-- the words are those, over files that are held
abbrev pub OfShow : List (List ℕ) → Option Files
    → (Showing → Files → List ℕ → List ℕ → Type 0) → Type 0
OfShow words held P =
    IfSome held (λ files. (showing : Showing) (schema query : List ℕ)
    → words ≡ show_words showing schema query → P showing files schema query)

-- the words are `show natural` and two names, over files that are held
abbrev pub OfNatural : List (List ℕ) → Option Files
    → (Files → List ℕ → List ℕ → Type 0) → Type 0
OfNatural words held P =
    IfSome held (λ files. (schema query : List ℕ)
    → words ≡ codes "show" ∷ codes "natural" ∷ schema ∷ query ∷ [] → P files schema query)
