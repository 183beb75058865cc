-- Commands: which words give them, and which inputs they name.
use Rattle.std.specs.Prelude.{ℕ, Bool, true, false, List, [], ◌∷◌, codes, Option, Some, None, option_map, cond}
use Rattle.std.specs.Str.{bytes_eq}
use Rattle.database_scripts.specs.declared.database.Database.{Database}
use Rattle.database_scripts.specs.declared.database.Database.TheVariants.{Postgres, Sqlite}
use Rattle.diagnostics.specs.declared.rule_texts.Rule.{Rule}
use Rattle.generated_inputs.specs.Sizes.{size_of}
use Rattle.nq_execute.specs.Plans.{RowWriting, lines, arrays}
use Rattle.nq_execute.specs.declared.plan.TraceWriting.{TraceWriting}
use Rattle.nq_execute.specs.declared.plan.TraceWriting.TheVariants as trace_way
use Rattle.command_line.specs.Rules.{scope_of, typing_of}
use Rattle.command_line.specs.Topics.{topic_of}
use Rattle.command_line.specs.declared.topics.Topic.{Topic}

-- how the SQL texts that shred a query are shown: each in a frame that tells its path and its
-- length; or all as a line of JSON, with the type of the query and the columns of each answer; or
-- as a script that asks a database, and writes the answers below a folder
pub data Showing : Type 0 where
  frames : Showing
  json : Showing
  script : Database → List ℕ → Showing

-- What is done with a query that is accepted. Its value over the table texts of a folder is
-- written, or written by texts that name bags by keys, or written as JSON, or that over the JSON
-- tables of a folder; or each of its elements with the table rows that made it, in a way; or the
-- value of answers of a folder, made elsewhere, is written, or written as JSON; or that it is
-- accepted; or its type; or its normal form; or the paths of its type; or the SQL texts that name
-- bags by keys are shown; or those that shred it, in a way.
pub data Aim : Type 0 where
  run : List ℕ → Aim
  run_natural : List ℕ → Aim
  run_json : List ℕ → Aim
  run_json_tables : List ℕ → Aim
  lineage : TraceWriting → List ℕ → Aim
  stitch : List ℕ → Aim
  stitch_json : List ℕ → Aim
  check : Aim
  show_types : Aim
  show_normal : Aim
  show_paths : Aim
  show_natural : Aim
  show_texts : Showing → Aim

-- what is explained over a schema: a query, or an SQL text, by its name; or the text of a table, by
-- the name of the table and that of the folder
pub data Subject : Type 0 where
  a_query : List ℕ → Subject
  an_sql_text : List ℕ → Subject
  a_table : List ℕ → List ℕ → Subject

-- a text on the program is written; or one on the forms that begin with a word; or a query is put
-- to an aim: the names of a schema and of the query; or the rows of an SQL text are written in a
-- way: the names of a schema, of the text and of a folder; or the summary of a query over generated
-- tables of a size; or the script by which a database loads the tables of a schema; or the type of
-- a subject, or what is wrong with it or with its schema: the name of the schema, and the subject;
-- or what a rule asks
pub data Command : Type 0 where
  help : Command
  help_on : Topic → Command
  version : Command
  of_query : Aim → List ℕ → List ℕ → Command
  answer : RowWriting → List ℕ → List ℕ → List ℕ → Command
  generated : ℕ → Command
  show_load : Database → List ℕ → Command
  explain : List ℕ → Subject → Command
  explain_rule : Rule → Command

-- `--help` or `--version`
abbrev pub one_word : List ℕ → Option Command
one_word word =
    cond (bytes_eq word (codes "--help")) (Some help)
    (cond (bytes_eq word (codes "--version")) (Some version) None)

-- `--help WORD` or `gen N`
abbrev pub two_words : List ℕ → List ℕ → Option Command
two_words word what =
    cond (bytes_eq word (codes "--help")) (option_map help_on (topic_of what))
    (cond (bytes_eq word (codes "gen")) (option_map generated (size_of what)) None)

-- what `explain` makes of `rule N`; or of SCHEMA QUERY
abbrev pub of_explain : List ℕ → List ℕ → Option Command
of_explain schema query =
    cond (bytes_eq schema (codes "rule")) (option_map explain_rule (typing_of query))
    (Some (explain schema (a_query query)))

-- what it makes of `sql rule N`; or of `sql SCHEMA SQLFILE`
abbrev pub of_explain_sql : List ℕ → List ℕ → List ℕ → Option Command
of_explain_sql what schema text =
    cond (bytes_eq what (codes "sql"))
    (cond (bytes_eq schema (codes "rule")) (option_map explain_rule (scope_of text))
    (Some (explain schema (an_sql_text text)))) None

-- `check SCHEMA QUERY`; or a form of `explain`
abbrev pub three_words : List ℕ → List ℕ → List ℕ → Option Command
three_words word schema query =
    cond (bytes_eq word (codes "check")) (Some (of_query check schema query))
    (cond (bytes_eq word (codes "explain")) (of_explain schema query) None)

-- the word of a database
abbrev pub database_word : Database → List ℕ
database_word Postgres = codes "postgres"
database_word Sqlite = codes "sqlite"

-- and the database that it is of
abbrev pub database_of : List ℕ → Option Database
database_of word =
    cond (bytes_eq word (database_word Postgres)) (Some Postgres)
    (cond (bytes_eq word (database_word Sqlite)) (Some Sqlite) None)

-- what is shown of a query
abbrev pub shown : List ℕ → Option Aim
shown what =
    cond (bytes_eq what (codes "types")) (Some show_types)
    (cond (bytes_eq what (codes "normal")) (Some show_normal)
    (cond (bytes_eq what (codes "paths")) (Some show_paths)
    (cond (bytes_eq what (codes "natural")) (Some show_natural)
    (cond (bytes_eq what (codes "sql")) (Some (show_texts Showing.frames))
    (cond (bytes_eq what (codes "json")) (Some (show_texts Showing.json)) None)))))

-- what `show` makes of `load` and DATABASE SCHEMA; or of `types`, `normal`, `paths`, `natural`,
-- `sql` or `json` and SCHEMA QUERY
abbrev pub of_show : List ℕ → List ℕ → List ℕ → Option Command
of_show what second third =
    cond (bytes_eq what (codes "load"))
    (option_map (λ database. show_load database third) (database_of second))
    (option_map (λ aim. of_query aim second third) (shown what))

-- `run SCHEMA QUERY DIR`, `lineage SCHEMA QUERY DIR`, `answer SCHEMA SQLFILE DIR` or
-- `stitch SCHEMA QUERY DIR`; or a form of `show` or of `explain`
abbrev pub four_words : List ℕ → List ℕ → List ℕ → List ℕ → Option Command
four_words word second third fourth =
    cond (bytes_eq word (codes "run")) (Some (of_query (run fourth) second third))
    (cond (bytes_eq word (codes "lineage"))
    (Some (of_query (lineage trace_way.Text fourth) second third))
    (cond (bytes_eq word (codes "answer")) (Some (answer lines second third fourth))
    (cond (bytes_eq word (codes "stitch")) (Some (of_query (stitch fourth) second third))
    (cond (bytes_eq word (codes "show")) (of_show second third fourth)
    (cond (bytes_eq word (codes "explain")) (of_explain_sql second third fourth) None)))))

-- what `json` makes of `run`, of `lineage`, of `answer` and of `stitch` with their three names
abbrev pub as_json : List ℕ → List ℕ → List ℕ → List ℕ → Option Command
as_json word schema text folder =
    cond (bytes_eq word (codes "run")) (Some (of_query (run_json folder) schema text))
    (cond (bytes_eq word (codes "lineage"))
    (Some (of_query (lineage trace_way.Json folder) schema text))
    (cond (bytes_eq word (codes "answer")) (Some (answer arrays schema text folder))
    (cond (bytes_eq word (codes "stitch")) (Some (of_query (stitch_json folder) schema text))
    None)))

-- what `natural` makes of `run` with its three names
abbrev pub as_natural : List ℕ → List ℕ → List ℕ → List ℕ → Option Command
as_natural word schema query folder =
    cond (bytes_eq word (codes "run")) (Some (of_query (run_natural folder) schema query)) None

-- what `table` makes of `explain` with its three names
abbrev pub as_table : List ℕ → List ℕ → List ℕ → List ℕ → Option Command
as_table word schema table folder =
    cond (bytes_eq word (codes "explain")) (Some (explain schema (a_table table folder))) None

-- `run json SCHEMA QUERY DIR`, `lineage json SCHEMA QUERY DIR`, `answer json SCHEMA SQLFILE DIR` or
-- `stitch json SCHEMA QUERY DIR`; or `run natural SCHEMA QUERY DIR`; or
-- `explain table SCHEMA TABLE DIR`
abbrev pub five_words : List ℕ → List ℕ → List ℕ → List ℕ → List ℕ → Option Command
five_words word form schema text folder =
    cond (bytes_eq form (codes "json")) (as_json word schema text folder)
    (cond (bytes_eq form (codes "natural")) (as_natural word schema text folder)
    (cond (bytes_eq form (codes "table")) (as_table word schema text folder) None))

-- what `tables` makes of `run json` with its three names
abbrev pub over_tables : List ℕ → List ℕ → List ℕ → List ℕ → List ℕ → Option Command
over_tables word form schema query folder =
    cond (bytes_eq word (codes "run"))
    (cond (bytes_eq form (codes "json"))
    (Some (of_query (run_json_tables folder) schema query)) None) None

-- what `show` makes of `script` and DATABASE SCHEMA QUERY DIR
abbrev pub as_script : List ℕ → List ℕ → List ℕ → List ℕ → List ℕ → Option Command
as_script form database schema query folder =
    cond (bytes_eq form (codes "script"))
    (option_map (λ d. of_query (show_texts (Showing.script d folder)) schema query)
    (database_of database)) None

-- `run json tables SCHEMA QUERY DIR` or `show script DATABASE SCHEMA QUERY DIR`
abbrev pub six_words : List ℕ → List ℕ → List ℕ → List ℕ → List ℕ → List ℕ → Option Command
six_words word form source schema query folder =
    cond (bytes_eq word (codes "show")) (as_script form source schema query folder)
    (cond (bytes_eq source (codes "tables")) (over_tables word form schema query folder) None)

-- the command that words are, if they are a listed form
unfoldable pub command_of : List (List ℕ) → Option Command
command_of (word ∷ []) = one_word word
command_of (word ∷ size ∷ []) = two_words word size
command_of (word ∷ schema ∷ query ∷ []) = three_words word schema query
command_of (word ∷ second ∷ third ∷ fourth ∷ []) = four_words word second third fourth
command_of (word ∷ form ∷ schema ∷ text ∷ folder ∷ []) = five_words word form schema text folder
command_of (word ∷ form ∷ source ∷ schema ∷ query ∷ folder ∷ []) =
    six_words word form source schema query folder
command_of _ = None

-- whether a server is asked
abbrev pub aim_asks : Aim → Bool
aim_asks (run folder) = true
aim_asks (run_natural folder) = true
aim_asks (run_json folder) = true
aim_asks (run_json_tables folder) = true
aim_asks (lineage writing folder) = true
aim_asks (stitch folder) = false
aim_asks (stitch_json folder) = false
aim_asks check = false
aim_asks show_types = false
aim_asks show_normal = false
aim_asks show_paths = false
aim_asks show_natural = false
aim_asks (show_texts showing) = false

abbrev pub asks_server : Option Command → Bool
asks_server None = false
asks_server (Some help) = false
asks_server (Some (help_on topic)) = false
asks_server (Some version) = false
asks_server (Some (of_query aim schema query)) = aim_asks aim
asks_server (Some (answer writing schema text folder)) = true
asks_server (Some (generated size)) = true
asks_server (Some (show_load database schema)) = false
asks_server (Some (explain schema subject)) = false
asks_server (Some (explain_rule rule)) = false
