-- What is explained of a schema, of a query and of an SQL text.
use Rattle.std.proofs.Common.{◌≡◌, ℕ, List, [], ◌∷◌, Result, Ok, Err}
use Rattle.std.proofs.Common.{Some, None, Option, IfOk, IfSome, ap, sym, subst}
use Rattle.nq_edge.specs.Edge.{Files, bytes_at, TellsMore}
use Rattle.nq_model.specs.Judging.{broken, program_judged}
use Rattle.nq_model.specs.Terms.{PlacedTerm, placed, bare}
use Rattle.nq_model.specs.Types.{TypeTree, type_tree}
use Rattle.nq_model.specs.Typing.{IsAccepted}
use Rattle.nq_model.specs.declared.table.Schema.{Schema}
use Rattle.nq_model.specs.declared.term.Term.{Term}
use Rattle.nq_model.specs.declared.ty.Ty.{Ty}
use Rattle.nq_parser.specs.Parsing.{Parsed}
use Rattle.nq_types.specs.Found.{program_found}
use Rattle.query_syntax.specs.declared.fault.SyntaxFault.{SyntaxFault}
use Rattle.query_syntax.specs.declared.fault.SyntaxFault.TheVariants as syntax
use Rattle.schema_reader.specs.declared.fault.SchemaFault.{SchemaFault}
use Rattle.schema_reader.specs.declared.fault.SchemaFault.TheVariants as code
use Rattle.sql_scope.specs.Found.{nothing}
use Rattle.explanations.specs.Explanations.{ExplainsSchema, ExplainsSyntax, ExplainsType}
use Rattle.explanations.specs.Explanations.{table_names}
use Rattle.command_line.specs.Commands.{Subject}
use Rattle.command_line.specs.declared.refusal.InputRefusal.{InputRefusal}
use Rattle.command_line.specs.declared.refusal.Refused.{Refused}
use Rattle.command_line.specs.declared.refusal.Refused.TheVariants.{Schema as SchemaRefused}
use Rattle.command_line.specs.declared.refusal.Refused.TheVariants.{Query as QueryRefused}
use Rattle.nq_top.specs.Explaining.{ExplainsRefused, text_refused}
use Rattle.nq_top.specs.Gathering.{Told}
use Rattle.nq_top.specs.Judging.{Judgement, Verdict, after, at_once, explained, fetched_then}
use Rattle.nq_top.specs.Judging.{explain_judged, schema_explained, subject_explained}
use Rattle.nq_top.specs.Judging.{type_or_cause, typed_or_explained}
use Rattle.nq_top.specs.Limits.{depth_limit, text_limit}
use Rattle.nq_top.specs.Lines.{type_line}
use Rattle.nq_top.specs.Reading.{QueryReading, Reading, SchemaReading, schema_read, term_read}
use Rattle.nq_top.specs.Reading.{typed_as}
use Rattle.nq_top.specs.Steps.{FetchedWithin, GatherTells, Refuses, Says, query_refusal}
use Rattle.nq_top.specs.Steps.{schema_refusal}
use Rattle.nq_top.specs.declared.gather.Gathered.{Gathered}
use Rattle.nq_top.specs.declared.gather.Gathered.TheVariants as gathered
use Rattle.nq_top.proofs.QueryReadings.{fault_said, rule_said, term_said, type_said}
use Rattle.nq_top.proofs.RuleNumbers.{explains_rule}
use Rattle.nq_top.proofs.Steps.{fetch_next, gather_through, leads_after}

-- 1. refusals

-- why a text is refused, and that this explains it
abbrev pub Why : {A : Type 0} → Result A Refused → List ℕ → List ℕ → List (List ℕ)
    → List ℕ → Type 0
Why given name text tables made =
    (r : Refused) × (given ≡ Err r) × ExplainsRefused name text tables [] nothing r made

why_schema : {A : Type 0} (given : Result A Refused) (name text : List ℕ) (fault : SchemaFault)
    (made : List ℕ) → Refuses given (schema_refusal fault)
    → ExplainsSchema name text fault made → Why given name text [] made
why_schema given name text code.Memory made refuses says = absurd says
why_schema given name text (code.NotUtf8 p) made refuses says =
    (SchemaRefused (code.NotUtf8 p), refuses, says)
why_schema given name text (code.Syntax p) made refuses says =
    (SchemaRefused (code.Syntax p), refuses, says)
why_schema given name text (code.TwiceTable p) made refuses says =
    (SchemaRefused (code.TwiceTable p), refuses, says)
why_schema given name text (code.TwiceColumn p) made refuses says =
    (SchemaRefused (code.TwiceColumn p), refuses, says)
why_schema given name text (code.NoColumn p) made refuses says =
    (SchemaRefused (code.NoColumn p), refuses, says)
why_schema given name text (code.KeyColumn p) made refuses says =
    (SchemaRefused (code.KeyColumn p), refuses, says)
why_schema given name text (code.OverLimit p) made refuses says =
    (SchemaRefused (code.OverLimit p), refuses, says)

why_query : {A : Type 0} (given : Result A Refused) (name text : List ℕ)
    (tables : List (List ℕ)) (fault : SyntaxFault) (made : List ℕ)
    → Refuses given (query_refusal fault)
    → ExplainsSyntax depth_limit name text tables fault made → Why given name text tables made
why_query given name text tables syntax.Memory made refuses says = absurd says
why_query given name text tables (syntax.NotUtf8 p) made refuses says =
    (QueryRefused (syntax.NotUtf8 p), refuses, says)
why_query given name text tables (syntax.Token p) made refuses says =
    (QueryRefused (syntax.Token p), refuses, says)
why_query given name text tables (syntax.Unexpected p) made refuses says =
    (QueryRefused (syntax.Unexpected p), refuses, says)
why_query given name text tables (syntax.IntRange p) made refuses says =
    (QueryRefused (syntax.IntRange p), refuses, says)
why_query given name text tables (syntax.Deep p) made refuses says =
    (QueryRefused (syntax.Deep p), refuses, says)
why_query given name text tables (syntax.Unbound p) made refuses says =
    (QueryRefused (syntax.Unbound p), refuses, says)
why_query given name text tables (syntax.TwiceLabel p) made refuses says =
    (QueryRefused (syntax.TwiceLabel p), refuses, says)

-- 2. queries

-- the type of a term is written
pub type_written : {E : Type 0} (schema : Schema) (name text : List ℕ) (t : Term) (ty : Ty)
    (result : Result (List ℕ) E) → IsAccepted schema (bare (placed t)) (type_tree ty)
    → IfOk result (λ made. made ≡ type_line (type_tree ty))
    → IfOk result (Says (typed_or_explained schema name text (Ok (placed t))))
type_written schema name text t ty (Err e) accepted is = tt
type_written schema name text t ty (Ok made) accepted is =
    let P : Result TypeTree Refused → Type 0 = λ r.
    Says (type_or_cause schema name text (program_found schema (placed t))
    (typed_as (placed t) r)) made in
    subst P (sym (type_said schema t ty accepted)) is

-- or the rule that it breaks is explained
pub type_explained : {E : Type 0} (schema : Schema) (name text : List ℕ) (t : Term)
    (rule number place : ℕ) (found : List TypeTree) (result : Result (List ℕ) E)
    → program_judged schema (placed t) ≡ Err (broken rule place) → number ≡ rule
    → found ≡ program_found schema (placed t)
    → IfOk result (λ made. ExplainsType name text place (table_names schema) found number made)
    → IfOk result (Says (typed_or_explained schema name text (Ok (placed t))))
type_explained schema name text t rule number place found (Err e) is same finds says = tt
type_explained schema name text t rule number place found (Ok made) is same finds says =
    let types = program_found schema (placed t) in
    let P : Result TypeTree Refused → Type 0 = λ r.
    Says (type_or_cause schema name text types (typed_as (placed t) r)) made in
    let F : List TypeTree → Type 0 = λ f.
    ExplainsType name text place (table_names schema) f number made in
    let Q : ℕ → Type 0 = λ n. ExplainsType name text place (table_names schema) types n made in
    subst P (sym (rule_said schema t rule place is))
    (explains_rule schema (placed t) rule place name text (table_names schema) types made is
    (subst Q same (subst F finds says)))

-- what is said of the term that a text spells is said of the text
spelled_says : (reading : QueryReading) (schema : Schema) (name text : List ℕ) (t : Term)
    (made : List ℕ) → Parsed (Ok t) depth_limit text
    → Says (typed_or_explained schema name text (Ok (placed t))) made
    → Says (typed_or_explained schema name text (term_read reading text)) made
spelled_says reading schema name text t made parsed says =
    let P : Result PlacedTerm Refused → Type 0 = λ r.
    Says (typed_or_explained schema name text r) made in
    subst P (sym (term_said reading text t parsed)) says

-- or its fault is explained
fault_says : (reading : QueryReading) (schema : Schema) (name text : List ℕ)
    (fault : SyntaxFault) (made : List ℕ) → Parsed (Err fault) depth_limit text
    → ExplainsSyntax depth_limit name text (table_names schema) fault made
    → Says (typed_or_explained schema name text (term_read reading text)) made
fault_says reading schema name text fault made parsed says =
    let why = why_query (term_read reading text) name text (table_names schema) fault made
    (fault_said reading text fault parsed) says in
    let P : Result PlacedTerm Refused → Type 0 = λ r.
    Says (typed_or_explained schema name text r) made in
    subst P (sym why.1) why.2

-- the same of what comes of it, if memory suffices
pub spelled_if_ok : {E : Type 0} (schema : Schema) (name text : List ℕ) (t : Term)
    (result : Result (List ℕ) E) → Parsed (Ok t) depth_limit text
    → IfOk result (Says (typed_or_explained schema name text (Ok (placed t))))
    → IfOk result (λ made. (reading : QueryReading) →
    Says (typed_or_explained schema name text (term_read reading text)) made)
spelled_if_ok schema name text t (Ok made) parsed says = λ reading.
    spelled_says reading schema name text t made parsed says
spelled_if_ok schema name text t (Err e) parsed says = tt

pub fault_if_ok : {E : Type 0} (schema : Schema) (name text : List ℕ) (fault : SyntaxFault)
    (result : Result (List ℕ) E) → Parsed (Err fault) depth_limit text
    → IfOk result (λ made. ExplainsSyntax depth_limit name text (table_names schema) fault made)
    → IfOk result (λ made. (reading : QueryReading) →
    Says (typed_or_explained schema name text (term_read reading text)) made)
fault_if_ok schema name text fault (Ok made) parsed says = λ reading.
    fault_says reading schema name text fault made parsed says
fault_if_ok schema name text fault (Err e) parsed says = tt

-- 3. what was fetched

-- a text that was fetched is judged by what comes next
pub text_goes : (limit : ℕ) (held mid_held : Option Files) (name text bytes : List ℕ)
    (next : Reading → Files → List ℕ → Judgement) (old mid new : Told)
    (result : Result Gathered InputRefusal) → bytes ≡ text → mid_held ≡ held
    → IfSome held (λ files. FetchedWithin (bytes_at files name) limit text)
    → TellsMore old mid (name ∷ [])
    → IfSome mid_held (λ files. (reading : Reading)
    → GatherTells (next reading files bytes) mid new result)
    → IfSome held (λ files. (reading : Reading)
    → GatherTells (fetched_then files name limit (next reading files)) old new result)
text_goes limit None mid_held name text bytes next old mid new result same held within told
    tells = tt
text_goes limit (Some files) mid_held name text bytes next old mid new result same held within told
    tells = λ reading.
    let H : Option Files → Type 0 = λ h. IfSome h (λ fs. (r : Reading)
    → GatherTells (next r fs bytes) mid new result) in
    let T : List ℕ → Type 0 = λ t. GatherTells (next reading files t) mid new result in
    let P : Judgement → Type 0 = λ j. GatherTells j old new result in
    subst P (sym (fetch_next files name limit (next reading files) text within))
    (gather_through (after name (next reading files text)) (next reading files text) old mid new
    result (leads_after name (next reading files text) old mid told)
    (subst T same (subst H held tells reading)))

-- a text that is said of it
pub text_says : (limit : ℕ) (held : Option Files) (name text bytes : List ℕ)
    (verdict : Reading → List ℕ → Verdict) (old new : Told) (made : List ℕ)
    → bytes ≡ text
    → IfSome held (λ files. FetchedWithin (bytes_at files name) limit text)
    → TellsMore old new (name ∷ [])
    → ((reading : Reading) → Says (verdict reading bytes) made)
    → IfSome held (λ files. (reading : Reading)
    → GatherTells (fetched_then files name limit (λ t. at_once (verdict reading t))) old new
    (Ok (gathered.Text made)))
text_says limit None name text bytes verdict old new made same within told says = tt
text_says limit (Some files) name text bytes verdict old new made same within told says =
    λ reading.
    let next : List ℕ → Judgement = λ t. at_once (verdict reading t) in
    let P : Judgement → Type 0 = λ j. GatherTells j old new (Ok (gathered.Text made)) in
    let T : List ℕ → Type 0 = λ t. Says (verdict reading t) made in
    subst P (sym (fetch_next files name limit next text within)) (record {
      comes_to = subst T same (says reading);
      fetched = told;
    })

-- what is told of a subject is told of what the program has for it
pub at_subject : (subject given : Subject) (held : Option Files) (schema : Schema) (old new : Told)
    (result : Result Gathered InputRefusal) → subject ≡ given
    → IfSome held (λ files. (reading : Reading)
    → GatherTells (subject_explained reading files schema given) old new result)
    → IfSome held (λ files. (reading : Reading)
    → GatherTells (subject_explained reading files schema subject) old new result)
at_subject subject given held schema old new result is tells =
    let P : Subject → Type 0 = λ s. IfSome held (λ files. (reading : Reading)
    → GatherTells (subject_explained reading files schema s) old new result) in
    subst P (sym is) tells

-- 4. schemas

-- the query is judged over the schema that was read
pub schema_goes : (held : Option Files) (subject : Subject) (name text : List ℕ)
    (schema : Schema) (old new : Told) (result : Result Gathered InputRefusal)
    → ((reading : SchemaReading) → schema_read reading text ≡ Ok schema)
    → IfSome held (λ files. (reading : Reading)
    → GatherTells (subject_explained reading files schema subject) old new result)
    → IfSome held (λ files. (reading : Reading)
    → GatherTells (schema_explained reading files subject name text
    (schema_read reading.schemas text)) old new result)
schema_goes None subject name text schema old new result read tells = tt
schema_goes (Some files) subject name text schema old new result read tells = λ reading.
    let P : Result Schema Refused → Type 0 = λ r.
    GatherTells (schema_explained reading files subject name text r) old new result in
    subst P (sym (read reading.schemas)) (tells reading)

-- or its fault is explained
pub schema_faulty : (held : Option Files) (subject : Subject) (name file text bytes : List ℕ)
    (fault : SchemaFault) (made : List ℕ) (old new : Told) → bytes ≡ text → file ≡ name
    → IfSome held (λ files. FetchedWithin (bytes_at files name) text_limit text)
    → TellsMore old new (name ∷ [])
    → ((reading : SchemaReading) → Refuses (schema_read reading bytes) (schema_refusal fault))
    → ExplainsSchema file bytes fault made
    → IfSome held (λ files. (reading : Reading)
    → GatherTells (explain_judged reading files name subject) old new (Ok (gathered.Text made)))
schema_faulty None subject name file text bytes fault made old new same named within told refuses
    says = tt
schema_faulty (Some files) subject name file text bytes fault made old new same named within told
    refuses says = λ reading.
    let N : List ℕ → Type 0 = λ n. ExplainsSchema n bytes fault made in
    let why = why_schema (schema_read reading.schemas bytes) name bytes fault made
    (refuses reading.schemas) (subst N named says) in
    let next : List ℕ → Judgement = λ t.
    schema_explained reading files subject name t (schema_read reading.schemas t) in
    let is : next bytes ≡ at_once (explained (text_refused (record {
      name = name;
      text = bytes;
      tables = [];
      found = [];
      parts = nothing;
      why = why.0;
    }))) = ap (schema_explained reading files subject name bytes) why.1 in
    let P : Judgement → Type 0 = λ j. GatherTells j old new (Ok (gathered.Text made)) in
    let A : Judgement → Type 0 = λ j. P (after name j) in
    let T : List ℕ → Type 0 = λ t. A (next t) in
    subst P (sym (fetch_next files name text_limit next text within))
    (subst T same (subst A (sym is) (record {
      comes_to = why.2;
      fetched = told;
    })))
