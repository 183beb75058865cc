-- What each step of reading says of the calls on the inputs, and of what is left to be judged.
use Rattle.std.specs.Prelude.{◌≡◌, ◌≤◌, ℕ, Bool, true, false, ⊤, List, [], ◌∷◌, ◌++◌, length, Option, Some, Result, Ok, Err}
use Rattle.nq_edge.specs.Edge.{Rose, TellsMore, IsLonger}
use Rattle.nq_model.specs.Proper.{IsProperTerm}
use Rattle.nq_model.specs.Tables.{IsProperSchema}
use Rattle.nq_model.specs.Terms.{placed, bare}
use Rattle.nq_model.specs.Types.{type_tree}
use Rattle.nq_model.specs.declared.table.Schema.{Schema}
use Rattle.nq_model.specs.declared.table.TableShape.{TableShape}
use Rattle.sql_profile.specs.declared.server.Loaded.{Loaded}
use Rattle.schema_reader.specs.declared.fault.SchemaFault.{SchemaFault}
use Rattle.schema_reader.specs.declared.fault.SchemaFault.TheVariants as schema
use Rattle.query_syntax.specs.declared.fault.SyntaxFault.{SyntaxFault}
use Rattle.query_syntax.specs.declared.fault.SyntaxFault.TheVariants as query
use Rattle.sql_reader.specs.declared.fault.SqlFault.{SqlFault}
use Rattle.sql_reader.specs.declared.fault.SqlFault.TheVariants as sql
use Rattle.nq_execute.specs.Plans.{Plan, plan_view, IsServable}
use Rattle.nq_execute.specs.declared.plan.Plan.{Plan as Asked}
use Rattle.nq_top.specs.Foreign.{Stitches}
use Rattle.nq_top.specs.Gathering.{Told, Judges, RefusalTells}
use Rattle.nq_top.specs.Explaining.{Explains}
use Rattle.nq_top.specs.Judging.{Judgement, Verdict, usage, missing, refused, written, explained}
use Rattle.nq_top.specs.Judging.{shown, keyed, linked, planned}
use Rattle.nq_top.specs.Natural.{ShowsNatural}
use Rattle.nq_top.specs.Plans.{AreReadFor, Question, IsSound}
use Rattle.nq_top.specs.Reading.{TypedTerm, SqlColumns, type_read}
use Rattle.nq_top.specs.Shown.{Shows}
use Rattle.nq_top.specs.declared.gather.Gathered.{Gathered}
use Rattle.nq_top.specs.declared.gather.Gathered.TheVariants as gathered
use Rattle.nq_top.specs.declared.texts.SqlQuery.{SqlQuery}
use Rattle.nq_top.specs.declared.texts.TypedQuery.{TypedQuery}
use Rattle.command_line.specs.declared.refusal.Refused.{Refused}
use Rattle.command_line.specs.declared.refusal.Refused.TheVariants.{TooLong, Schema as SchemaRefused, Query as QueryRefused, Sql as SqlRefused}
use Rattle.command_line.specs.declared.refusal.InputRefusal.{InputRefusal}
use Rattle.command_line.specs.declared.refusal.InputRefusal.TheVariants as input

-- the count of faults rose where an input failed, and else stayed
abbrev pub InputCounts : {T : Type 0} → ℕ → ℕ → Result T InputRefusal → Type 0
InputCounts before now (Ok _) = now ≡ before
InputCounts before now (Err input.Memory) = now ≡ before
InputCounts before now (Err (input.Refused r)) = now ≡ before
InputCounts before now (Err (input.Failed name)) = Rose before now

-- 1. a step

-- the rest is judged as the whole is, once these names were fetched
pub record Leads (whole rest : Judgement) (old now : Told) : Type 0 where
  pub front : List (List ℕ)
  pub names : whole.names ≡ front ++ rest.names
  pub verdict : whole.verdict ≡ rest.verdict
  pub fetched : TellsMore old now front

-- what was read is judged by what comes next, or the whole is refused
abbrev pub StepTells : {B : Type 0} → Judgement → (B → Judgement) → Told → Told
    → Result B InputRefusal → Type 0
StepTells whole next old now (Ok b) = Leads whole (next b) old now
StepTells whole next old now (Err r) = RefusalTells whole old now r

-- 2. one fetch

-- what one fetch says of its input
pub record FetchedWithin (held : Option (List ℕ)) (limit : ℕ) (bytes : List ℕ) : Type 0 where
  pub is : held ≡ Some bytes
  pub within : length bytes ≤ limit

abbrev pub FetchRefused : Option (List ℕ) → List ℕ → ℕ → InputRefusal → Type 0
FetchRefused held name limit input.Memory = ⊤
FetchRefused held name limit (input.Refused r) = (r ≡ TooLong name limit) × IsLonger limit held
FetchRefused held name limit (input.Failed failed) = failed ≡ name

abbrev pub FetchSays : Option (List ℕ) → List ℕ → ℕ → Result (List ℕ) InputRefusal → Type 0
FetchSays held name limit (Ok bytes) = FetchedWithin held limit bytes
FetchSays held name limit (Err r) = FetchRefused held name limit r

-- the name was fetched, but by a call that found no memory
abbrev pub FetchNames : {T : Type 0} → List ℕ → Told → Told → Result T InputRefusal → Type 0
FetchNames name old new (Ok _) = TellsMore old new (name ∷ [])
FetchNames name old new (Err input.Memory) = new ≡ old
FetchNames name old new (Err (input.Refused r)) = TellsMore old new (name ∷ [])
FetchNames name old new (Err (input.Failed failed)) = TellsMore old new (name ∷ [])

-- 3. one text

-- the refusal for a fault of a schema text
abbrev pub schema_refusal : SchemaFault → InputRefusal
schema_refusal schema.Memory = input.Memory
schema_refusal (schema.NotUtf8 place) = input.Refused (SchemaRefused (schema.NotUtf8 place))
schema_refusal (schema.Syntax place) = input.Refused (SchemaRefused (schema.Syntax place))
schema_refusal (schema.TwiceTable place) = input.Refused (SchemaRefused (schema.TwiceTable place))
schema_refusal (schema.TwiceColumn place) = input.Refused (SchemaRefused (schema.TwiceColumn place))
schema_refusal (schema.NoColumn place) = input.Refused (SchemaRefused (schema.NoColumn place))
schema_refusal (schema.KeyColumn place) = input.Refused (SchemaRefused (schema.KeyColumn place))
schema_refusal (schema.OverLimit place) = input.Refused (SchemaRefused (schema.OverLimit place))

-- the refusal for a fault of a query text
abbrev pub query_refusal : SyntaxFault → InputRefusal
query_refusal query.Memory = input.Memory
query_refusal (query.NotUtf8 place) = input.Refused (QueryRefused (query.NotUtf8 place))
query_refusal (query.Token place) = input.Refused (QueryRefused (query.Token place))
query_refusal (query.Unexpected place) = input.Refused (QueryRefused (query.Unexpected place))
query_refusal (query.IntRange place) = input.Refused (QueryRefused (query.IntRange place))
query_refusal (query.Deep place) = input.Refused (QueryRefused (query.Deep place))
query_refusal (query.Unbound place) = input.Refused (QueryRefused (query.Unbound place))
query_refusal (query.TwiceLabel place) = input.Refused (QueryRefused (query.TwiceLabel place))

-- the refusal for a fault of an SQL text
abbrev pub sql_refusal : SqlFault → InputRefusal
sql_refusal sql.Memory = input.Memory
sql_refusal (sql.NotUtf8 place) = input.Refused (SqlRefused (sql.NotUtf8 place))
sql_refusal (sql.Token place) = input.Refused (SqlRefused (sql.Token place))
sql_refusal (sql.Unexpected place) = input.Refused (SqlRefused (sql.Unexpected place))
sql_refusal (sql.IntRange place) = input.Refused (SqlRefused (sql.IntRange place))
sql_refusal (sql.Deep place) = input.Refused (SqlRefused (sql.Deep place))

-- what an answer says of what a text is read as: it is this, or it is refused for this
abbrev pub Refuses : {A : Type 0} → Result A Refused → InputRefusal → Type 0
Refuses given input.Memory = ⊤
Refuses given (input.Refused r) = given ≡ Err r
Refuses given (input.Failed failed) = ⊥

abbrev pub ReadSays : {A B : Type 0} → (B → A) → Result A Refused → Result B InputRefusal → Type 0
ReadSays view given (Ok b) = given ≡ Ok (view b)
ReadSays view given (Err r) = Refuses given r

-- the same of what is made of it
abbrev pub MakesSays : {A B : Type 0} → (A → B → Type 0) → Result A Refused → Result B InputRefusal
    → Type 0
MakesSays {A} Makes given (Ok b) = (a : A) × (given ≡ Ok a) × Makes a b
MakesSays Makes given (Err r) = Refuses given r

-- a query of the program, and what is known of one that was read over a schema
abbrev pub typed_view : TypedQuery → TypedTerm
typed_view query = record { term = placed query.term; type = type_tree query.ty }

pub record IsQuery (schema : Schema) (query : TypedTerm) : Type 0 where
  pub proper_schema : IsProperSchema schema
  pub proper : IsProperTerm (bare query.term)
  pub typed : type_read schema query.term ≡ Ok query.type

-- an SQL text of the program
abbrev pub sql_view : SqlQuery → SqlColumns
sql_view asked = (asked.text, asked.types)

-- 4. the table texts

-- tables of these shapes, behind those that were read before
pub record ReadsBehind (done : List Loaded) (shapes : List TableShape)
    (tables : List Loaded) : Type 0 where
  pub rest : List Loaded
  pub all : tables ≡ done ++ rest
  pub read : AreReadFor shapes rest

-- what their reading says, whatever comes of the tables
abbrev pub TablesTell : Judgement → (List Loaded → Verdict) → Told → Told
    → Result (List Loaded) InputRefusal → Type 0
TablesTell judgement next old new (Ok tables) = Judges judgement (next tables) old new
TablesTell judgement next old new (Err r) = RefusalTells judgement old new r

-- 5. all inputs of a command

-- whether a server is asked
abbrev pub gathered_asks : Gathered → Bool
gathered_asks (gathered.Plan asked) = true
gathered_asks (gathered.Text text) = false

-- the plan of gathered inputs may be served
abbrev pub CanServe : Gathered → Type 0
CanServe (gathered.Plan asked) = IsServable (plan_view asked)
CanServe (gathered.Text text) = ⊤

-- a plan that is the one of a question, and sound for it
pub record HoldsPlan (plan : Plan) (question : Question) (asked : Asked) : Type 0 where
  pub is : plan_view asked ≡ plan
  pub sound : IsSound plan question

-- the verdict is what gathered inputs come to
abbrev pub ComesTo : Verdict → Gathered → Type 0
ComesTo usage g = ⊥
ComesTo (missing name) g = ⊥
ComesTo (refused r) g = ⊥
ComesTo (written said) (gathered.Text text) = text ≡ said
ComesTo (written said) (gathered.Plan asked) = ⊥
ComesTo (explained what) (gathered.Text text) = Explains what text
ComesTo (explained what) (gathered.Plan asked) = ⊥
ComesTo (shown showing texts) (gathered.Text text) = Shows showing text texts
ComesTo (shown showing texts) (gathered.Plan asked) = ⊥
ComesTo (keyed natural) (gathered.Text text) = ShowsNatural text natural
ComesTo (keyed natural) (gathered.Plan asked) = ⊥
ComesTo (linked foreign) (gathered.Text text) = Stitches foreign text
ComesTo (linked foreign) (gathered.Plan asked) = ⊥
ComesTo (planned plan question) (gathered.Text text) = ⊥
ComesTo (planned plan question) (gathered.Plan asked) = HoldsPlan plan question asked

-- the verdict comes to this text
abbrev pub Says : Verdict → List ℕ → Type 0
Says verdict text = ComesTo verdict (gathered.Text text)

-- the inputs come to this, and all their names were fetched
pub record Accepts (judgement : Judgement) (gathered : Gathered) (old new : Told) : Type 0 where
  pub comes_to : ComesTo judgement.verdict gathered
  pub fetched : TellsMore old new judgement.names

abbrev pub GatherTells : Judgement → Told → Told → Result Gathered InputRefusal → Type 0
GatherTells judgement old new (Ok gathered) = Accepts judgement gathered old new
GatherTells judgement old new (Err r) = RefusalTells judgement old new r
