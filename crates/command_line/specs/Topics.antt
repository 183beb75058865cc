-- The words with which the forms of the command line begin, and what is said of each.
use Rattle.std.specs.Prelude.{ℕ, List, ◌++◌, codes, Option, Some, None, cond}
use Rattle.std.specs.Str.{bytes_eq}
use Rattle.command_line.specs.declared.topics.Topic.{Topic}
use Rattle.command_line.specs.declared.topics.Topic.TheVariants as topic

-- the word of a topic, as it is typed
abbrev pub topic_of : List ℕ → Option Topic
topic_of word =
    cond (bytes_eq word (codes "run")) (Some topic.Run)
    (cond (bytes_eq word (codes "lineage")) (Some topic.Lineage)
    (cond (bytes_eq word (codes "answer")) (Some topic.Answer)
    (cond (bytes_eq word (codes "stitch")) (Some topic.Stitch)
    (cond (bytes_eq word (codes "gen")) (Some topic.Generate)
    (cond (bytes_eq word (codes "check")) (Some topic.Check)
    (cond (bytes_eq word (codes "explain")) (Some topic.Explain)
    (cond (bytes_eq word (codes "show")) (Some topic.Show)
    (cond (bytes_eq word (codes "--help")) (Some topic.Help)
    (cond (bytes_eq word (codes "--version")) (Some topic.Version) None)))))))))

-- the forms that begin with the word, a line for each
unfoldable pub topic_forms : Topic → List ℕ
topic_forms topic.Run =
    codes "nq run SCHEMA QUERY DIR              writes the value of the query\n"
    ++ (codes "nq run natural SCHEMA QUERY DIR      writes it by SQL texts that name bags by keys\n"
    ++ (codes "nq run json SCHEMA QUERY DIR         writes the value of the query as JSON\n"
    ++ codes "nq run json tables SCHEMA QUERY DIR  writes it as JSON over JSON tables\n"))
topic_forms topic.Lineage =
    codes "nq lineage SCHEMA QUERY DIR          writes each element with its table rows\n"
    ++ codes "nq lineage json SCHEMA QUERY DIR     writes the elements and their rows as JSON\n"
topic_forms topic.Answer =
    codes "nq answer SCHEMA SQLFILE DIR         writes the rows of the SQL text\n"
    ++ codes "nq answer json SCHEMA SQLFILE DIR    writes the rows of the SQL text as JSON\n"
topic_forms topic.Stitch =
    codes "nq stitch SCHEMA QUERY DIR           writes the value of answers made elsewhere\n"
    ++ codes "nq stitch json SCHEMA QUERY DIR      writes the value of answers as JSON\n"
topic_forms topic.Generate =
    codes "nq gen N                             writes a summary over tables of size N\n"
topic_forms topic.Check =
    codes "nq check SCHEMA QUERY                writes ok where the query is accepted\n"
topic_forms topic.Explain =
    codes "nq explain SCHEMA QUERY              writes its type, or explains its first fault\n"
    ++ (codes "nq explain sql SCHEMA SQLFILE        writes its columns, or explains a fault\n"
    ++ (codes "nq explain table SCHEMA TABLE DIR    writes its type, or explains a fault\n"
    ++ (codes "nq explain rule N                    writes what typing rule N asks, with examples\n"
    ++ codes "nq explain sql rule N                writes what rule N of SQL texts asks\n")))
topic_forms topic.Show =
    codes "nq show types SCHEMA QUERY           writes the type of the query\n"
    ++ (codes "nq show normal SCHEMA QUERY          writes the normal form of the query\n"
    ++ (codes "nq show paths SCHEMA QUERY           writes a line for each bag of the type\n"
    ++ (codes "nq show sql SCHEMA QUERY             writes an SQL text for each bag of the type\n"
    ++ (codes "nq show natural SCHEMA QUERY         writes the SQL texts that name bags by keys\n"
    ++ (codes "nq show json SCHEMA QUERY            writes the SQL texts and the types as JSON\n"
    ++ (codes "nq show load DATABASE SCHEMA         writes a script that loads the tables\n"
    ++ (codes "nq show script DATABASE SCHEMA QUERY DIR\n"
    ++ codes "                                     writes a script that asks the SQL texts\n")))))))
topic_forms topic.Help =
    codes "nq --help                            writes a line for each form\n"
    ++ codes "nq --help WORD                       writes the forms of WORD, with examples\n"
topic_forms topic.Version =
    codes "nq --version                         writes the name and the version of nq\n"

-- an example of each of these forms, and where it can be tried
unfoldable pub topic_examples : Topic → List ℕ
topic_examples topic.Run =
    codes "Examples, in the folder examples/company:\n"
    ++ (codes "\n"
    ++ (codes "nq run org staff data\n"
    ++ (codes "nq run natural org staff data\n"
    ++ (codes "nq run json org outliers data\n"
    ++ codes "nq run json tables org outliers json\n"))))
topic_examples topic.Lineage =
    codes "Examples, in the folder examples/company:\n"
    ++ (codes "\n"
    ++ (codes "nq lineage org known data\n"
    ++ codes "nq lineage json org known data\n"))
topic_examples topic.Answer =
    codes "Examples, in the folder examples/shop:\n"
    ++ (codes "\n"
    ++ (codes "nq answer shop unpaid.sql data\n"
    ++ codes "nq answer json shop unpaid.sql data\n"))
topic_examples topic.Stitch =
    codes "Examples, in the folder examples/company, where docs/DATABASES.md has how a database\n"
    ++ (codes "makes the answers:\n"
    ++ (codes "\n"
    ++ (codes "nq stitch org staff answers\n"
    ++ codes "nq stitch json org staff answers\n")))
topic_examples topic.Generate =
    codes "An example, in any folder:\n"
    ++ (codes "\n"
    ++ codes "nq gen 100\n")
topic_examples topic.Check =
    codes "An example, in the folder examples/company:\n"
    ++ (codes "\n"
    ++ codes "nq check org staff\n")
topic_examples topic.Explain =
    codes "Examples, in the folder examples/shop:\n"
    ++ (codes "\n"
    ++ (codes "nq explain shop refused/equals\n"
    ++ (codes "nq explain sql shop refused/star.sql\n"
    ++ (codes "nq explain table shop customers refused/data\n"
    ++ (codes "nq explain rule 20\n"
    ++ codes "nq explain sql rule 4\n")))))
topic_examples topic.Show =
    codes "Examples, in the folder examples/company:\n"
    ++ (codes "\n"
    ++ (codes "nq show types org staff\n"
    ++ (codes "nq show normal org staff\n"
    ++ (codes "nq show paths org staff\n"
    ++ (codes "nq show sql org staff\n"
    ++ (codes "nq show natural org staff\n"
    ++ (codes "nq show json org staff\n"
    ++ (codes "nq show load sqlite org\n"
    ++ codes "nq show script sqlite org staff answers\n"))))))))
topic_examples topic.Help =
    codes "Examples, in any folder:\n"
    ++ (codes "\n"
    ++ (codes "nq --help\n"
    ++ codes "nq --help run\n"))
topic_examples topic.Version =
    codes "An example, in any folder:\n"
    ++ (codes "\n"
    ++ codes "nq --version\n")

-- the forms that begin with the word, and an example of each
unfoldable pub topic_text : Topic → List ℕ
topic_text topic = topic_forms topic ++ (codes "\n" ++ topic_examples topic)
