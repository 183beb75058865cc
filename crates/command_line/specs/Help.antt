-- The texts on the program.
use Rattle.std.specs.Prelude.{ℕ, List, ◌++◌, codes}
use Rattle.command_line.specs.Topics.{topic_forms}
use Rattle.command_line.specs.declared.topics.Topic.TheVariants as topic

-- the forms that write values and rows
unfoldable pub value_forms : List ℕ
value_forms =
    topic_forms topic.Run
    ++ (topic_forms topic.Lineage ++ (topic_forms topic.Answer ++ topic_forms topic.Stitch))

-- the forms that write something else
unfoldable pub other_forms : List ℕ
other_forms =
    topic_forms topic.Generate
    ++ (topic_forms topic.Check
    ++ (topic_forms topic.Explain
    ++ (topic_forms topic.Show ++ (topic_forms topic.Help ++ topic_forms topic.Version))))

-- what the words in capitals stand for, and where the statuses are explained
unfoldable pub help_notes : List ℕ
help_notes =
    codes "\n"
    ++ (codes "SCHEMA, QUERY and SQLFILE are files. The table t is the file DIR/t.csv, and as a\n"
    ++ (codes "JSON table DIR/t.json. The answer to the SQL text K is the file DIR/K.csv.\n"
    ++ (codes "DATABASE is postgres or sqlite.\n"
    ++ codes "README.md explains the statuses, under Commands.\n")))

-- a line for each listed form of words
unfoldable pub help_text : List ℕ
help_text =
    codes "nq answers typed queries over flat tables.\n\n"
    ++ (value_forms ++ (other_forms ++ help_notes))

-- the name and the version of the program
unfoldable pub version_text : List ℕ
version_text = codes "nq 0.1.0\n"
