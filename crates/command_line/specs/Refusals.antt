-- The status and the note line of a refusal.
use Rattle.std.specs.Prelude.{ℕ, List, ◌++◌, codes, decimal, Result, Ok, Err}
use Rattle.schema_reader.specs.declared.fault.SchemaFault.{SchemaFault}
use Rattle.schema_reader.specs.declared.fault.SchemaFault.TheVariants as schema
use Rattle.query_syntax.specs.declared.fault.SyntaxFault.{SyntaxFault}
use Rattle.query_syntax.specs.declared.fault.SyntaxFault.TheVariants as query
use Rattle.sql_reader.specs.declared.fault.SqlFault.{SqlFault}
use Rattle.sql_reader.specs.declared.fault.SqlFault.TheVariants as sql
use Rattle.table_reader.specs.declared.TableFault.{TableFault}
use Rattle.table_reader.specs.declared.TableFault.TheVariants as table
use Rattle.nq_json.specs.declared.tables.JsonTableFault.{JsonTableFault}
use Rattle.nq_json.specs.declared.tables.JsonTableFault.TheVariants as json
use Rattle.foreign_answers.specs.declared.faults.AnswerFault.{AnswerFault}
use Rattle.foreign_answers.specs.declared.faults.AnswerFault.TheVariants as answer
use Rattle.foreign_answers.specs.declared.faults.LinkFault.{LinkFault}
use Rattle.foreign_answers.specs.declared.faults.LinkFault.TheVariants as link
use Rattle.command_line.specs.declared.refusal.Refused.{Refused}
use Rattle.command_line.specs.declared.refusal.Refused.TheVariants as refused
use Rattle.command_line.specs.declared.refusal.InputRefusal.{InputRefusal}
use Rattle.command_line.specs.declared.refusal.InputRefusal.TheVariants as input
use Rattle.nq_execute.specs.declared.refusal.ServerRefusal.{ServerRefusal}
use Rattle.nq_execute.specs.declared.refusal.ServerRefusal.TheVariants as server
use Rattle.command_line.specs.declared.refusal.Refusal.{Refusal}
use Rattle.command_line.specs.declared.refusal.Refusal.TheVariants as refusal

abbrev pub refused_status : Refused → ℕ
refused_status (refused.TooLong name limit) = 10
refused_status (refused.Schema fault) = 3
refused_status (refused.Query fault) = 4
refused_status (refused.IllTyped rule place) = 5
refused_status (refused.NoKey table) = 14
refused_status (refused.Table name fault) = 6
refused_status (refused.Sql fault) = 12
refused_status (refused.IllScoped rule place) = 12
refused_status (refused.JsonTable name fault) = 16
refused_status (refused.Answer number fault) = 15
refused_status (refused.Links fault) = 15

abbrev pub input_status : InputRefusal → ℕ
input_status input.Memory = 1
input_status (input.Refused r) = refused_status r
input_status (input.Failed name) = 7

abbrev pub server_status : ServerRefusal → ℕ
server_status server.Memory = 1
server_status (server.TableFailed name) = 9
server_status (server.TextFailed text) = 9
server_status (server.BadAnswer text row column) = 11

abbrev pub refusal_status : Refusal → ℕ
refusal_status refusal.Usage = 2
refusal_status (refusal.Input r) = input_status r
refusal_status (refusal.Server r) = server_status r
refusal_status refusal.OutputFailed = 8

-- the status of an answer
abbrev pub status_of : {T : Type 0} → Result T Refusal → ℕ
status_of (Ok _) = 0
status_of (Err r) = refusal_status r

abbrev pub memory_note : List ℕ
memory_note = codes "nq: want of memory\n"

-- 1. texts that spell nothing

-- the line of a fault of a text, at a place; want of memory is none
abbrev pub fault_note : List ℕ → List ℕ → ℕ → List ℕ
fault_note what fault place =
    codes "nq: " ++ (what ++ (codes " refused: " ++ (fault
    ++ (codes " at " ++ (decimal place ++ codes "\n")))))

abbrev pub schema_note : SchemaFault → List ℕ
schema_note schema.Memory = memory_note
schema_note (schema.NotUtf8 place) = fault_note (codes "schema") (codes "NotUtf8") place
schema_note (schema.Syntax place) = fault_note (codes "schema") (codes "Syntax") place
schema_note (schema.TwiceTable place) = fault_note (codes "schema") (codes "TwiceTable") place
schema_note (schema.TwiceColumn place) = fault_note (codes "schema") (codes "TwiceColumn") place
schema_note (schema.NoColumn place) = fault_note (codes "schema") (codes "NoColumn") place
schema_note (schema.KeyColumn place) = fault_note (codes "schema") (codes "KeyColumn") place
schema_note (schema.OverLimit place) = fault_note (codes "schema") (codes "OverLimit") place

abbrev pub query_note : SyntaxFault → List ℕ
query_note query.Memory = memory_note
query_note (query.NotUtf8 place) = fault_note (codes "query") (codes "NotUtf8") place
query_note (query.Token place) = fault_note (codes "query") (codes "Token") place
query_note (query.Unexpected place) = fault_note (codes "query") (codes "Unexpected") place
query_note (query.IntRange place) = fault_note (codes "query") (codes "IntRange") place
query_note (query.Deep place) = fault_note (codes "query") (codes "Deep") place
query_note (query.Unbound place) = fault_note (codes "query") (codes "Unbound") place
query_note (query.TwiceLabel place) = fault_note (codes "query") (codes "TwiceLabel") place

abbrev pub sql_note : SqlFault → List ℕ
sql_note sql.Memory = memory_note
sql_note (sql.NotUtf8 place) = fault_note (codes "sql") (codes "NotUtf8") place
sql_note (sql.Token place) = fault_note (codes "sql") (codes "Token") place
sql_note (sql.Unexpected place) = fault_note (codes "sql") (codes "Unexpected") place
sql_note (sql.IntRange place) = fault_note (codes "sql") (codes "IntRange") place
sql_note (sql.Deep place) = fault_note (codes "sql") (codes "Deep") place

-- 2. broken rules

-- the line of a rule that is broken at a place
abbrev pub rule_note : List ℕ → ℕ → ℕ → List ℕ
rule_note words rule place =
    words ++ (decimal rule ++ (codes " at " ++ (decimal place ++ codes "\n")))

-- of a typing rule
abbrev pub type_note : ℕ → ℕ → List ℕ
type_note rule place = rule_note (codes "nq: ill typed: rule ") rule place

-- of a rule of scope
abbrev pub scope_note : ℕ → ℕ → List ℕ
scope_note rule place = rule_note (codes "nq: sql refused: rule ") rule place

-- 3. tables and answers

-- what a line tells of a fault: words and a row, or words and a row and then a further number
abbrev pub at_row : List ℕ → ℕ → List ℕ
at_row words row = words ++ (decimal row ++ codes "\n")

abbrev pub at_both : List ℕ → ℕ → List ℕ → ℕ → List ℕ
at_both words row more second =
    words ++ (decimal row ++ (more ++ (decimal second ++ codes "\n")))

abbrev pub at_column : List ℕ → ℕ → ℕ → List ℕ
at_column words row column = at_both words row (codes " column ") column

abbrev pub at_earlier : List ℕ → ℕ → ℕ → List ℕ
at_earlier words row earlier = at_both words row (codes " earlier ") earlier

-- the line of a table by its name, and of an answer by the digits of its number
abbrev pub table_line : List ℕ → List ℕ → List ℕ
table_line name fault = codes "nq: table " ++ (name ++ fault)

abbrev pub answer_line : List ℕ → List ℕ → List ℕ
answer_line digits fault = codes "nq: answer " ++ (digits ++ fault)

-- of a table that has no key
abbrev pub no_key_note : List ℕ → List ℕ
no_key_note table = codes "nq: no key: table " ++ (table ++ codes "\n")

-- of a fault of a table text; want of memory is none
abbrev pub table_note : List ℕ → TableFault → List ℕ
table_note name table.Memory = memory_note
table_note name table.Header = table_line name (codes " refused: Header\n")
table_note name (table.Width row) = table_line name (at_row (codes " refused: Width row ") row)
table_note name (table.NotUtf8 row column) =
    table_line name (at_column (codes " refused: NotUtf8 row ") row column)
table_note name (table.BadInt row column) =
    table_line name (at_column (codes " refused: BadInt row ") row column)
table_note name (table.BadBool row column) =
    table_line name (at_column (codes " refused: BadBool row ") row column)
table_note name (table.TwiceKey row earlier) =
    table_line name (at_earlier (codes " refused: TwiceKey row ") row earlier)

-- of a fault of a JSON table; want of memory is none
abbrev pub json_table_note : List ℕ → JsonTableFault → List ℕ
json_table_note name json.Memory = memory_note
json_table_note name json.NotJson = table_line name (codes " refused: NotJson\n")
json_table_note name json.NotArray = table_line name (codes " refused: NotArray\n")
json_table_note name (json.BadRow row) =
    table_line name (at_row (codes " refused: BadRow row ") row)
json_table_note name (json.BadCell row column) =
    table_line name (at_column (codes " refused: BadCell row ") row column)
json_table_note name (json.TwiceKey row earlier) =
    table_line name (at_earlier (codes " refused: TwiceKey row ") row earlier)

-- of a fault of the text of an answer; want of memory is none
abbrev pub answer_note : List ℕ → AnswerFault → List ℕ
answer_note digits answer.Memory = memory_note
answer_note digits answer.Header = answer_line digits (codes " refused: Header\n")
answer_note digits (answer.Width row) =
    answer_line digits (at_row (codes " refused: Width row ") row)
answer_note digits (answer.NotUtf8 row column) =
    answer_line digits (at_column (codes " refused: NotUtf8 row ") row column)
answer_note digits (answer.BadInt row column) =
    answer_line digits (at_column (codes " refused: BadInt row ") row column)
answer_note digits (answer.BadBool row column) =
    answer_line digits (at_column (codes " refused: BadBool row ") row column)

-- of answers that are not linked; want of memory is none
abbrev pub link_note : LinkFault → List ℕ
link_note link.Memory = memory_note
link_note (link.Dangling text row) =
    answer_line (decimal text) (at_row (codes " refused: Dangling row ") row)
link_note (link.Twice text row column earlier) =
    answer_line (decimal text)
    (codes " refused: Twice row " ++ (decimal row ++ at_earlier (codes " column ") column earlier))

-- 4. refusals

abbrev pub refused_note : Refused → List ℕ
refused_note (refused.TooLong name limit) =
    codes "nq: input too long: " ++ (name ++ (codes " over " ++ (decimal limit ++ codes "\n")))
refused_note (refused.Schema fault) = schema_note fault
refused_note (refused.Query fault) = query_note fault
refused_note (refused.IllTyped rule place) = type_note rule place
refused_note (refused.NoKey table) = no_key_note table
refused_note (refused.Table name fault) = table_note name fault
refused_note (refused.Sql fault) = sql_note fault
refused_note (refused.IllScoped rule place) = scope_note rule place
refused_note (refused.JsonTable name fault) = json_table_note name fault
refused_note (refused.Answer number fault) = answer_note (decimal number) fault
refused_note (refused.Links fault) = link_note fault

abbrev pub input_note : InputRefusal → List ℕ
input_note input.Memory = memory_note
input_note (input.Refused r) = refused_note r
input_note (input.Failed name) = codes "nq: input failed: " ++ (name ++ codes "\n")

abbrev pub server_note : ServerRefusal → List ℕ
server_note server.Memory = memory_note
server_note (server.TableFailed name) = codes "nq: server failed: table " ++ (name ++ codes "\n")
server_note (server.TextFailed text) =
    codes "nq: server failed: text " ++ (decimal text ++ codes "\n")
server_note (server.BadAnswer text row column) =
    codes "nq: bad answer: text " ++ (decimal text ++ at_column (codes " row ") row column)

-- the note line of a refusal
abbrev pub note_of : Refusal → List ℕ
note_of refusal.Usage = codes "nq: usage\n"
note_of (refusal.Input r) = input_note r
note_of (refusal.Server r) = server_note r
note_of refusal.OutputFailed = codes "nq: output failed\n"
