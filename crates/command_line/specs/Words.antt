-- The words of a command as the program has them.
use Rattle.std.specs.Prelude.{⊤}
use Rattle.command_line.specs.Commands.{Showing, Aim, run, run_natural, run_json, run_json_tables}
use Rattle.command_line.specs.Commands.{lineage, stitch, stitch_json, check, show_types}
use Rattle.command_line.specs.Commands.{show_normal, show_paths, show_natural, show_texts}
use Rattle.command_line.specs.Commands.{Command, help, help_on}
use Rattle.command_line.specs.Commands.{version, of_query, answer, generated, show_load, explain}
use Rattle.command_line.specs.Commands.{explain_rule, Subject, a_query, an_sql_text, a_table}
use Rattle.generated_inputs.specs.Sizes.{IsSize}
use Rattle.command_line.specs.declared.words.Aim.{Aim as Aims}
use Rattle.command_line.specs.declared.words.Aim.TheVariants as aim
use Rattle.command_line.specs.declared.words.Command.{Command as Words}
use Rattle.command_line.specs.declared.words.Command.TheVariants as words
use Rattle.command_line.specs.declared.words.Subject.{Subject as Subjects}
use Rattle.command_line.specs.declared.words.Subject.TheVariants as subject
use Rattle.command_line.specs.declared.words.Showing.{Showing as Showings}
use Rattle.command_line.specs.declared.words.Showing.TheVariants as shown
use Rattle.nq_execute.specs.Plans.{row_writing_view}

abbrev pub showing_view : Showings → Showing
showing_view shown.Frames = Showing.frames
showing_view shown.Json = Showing.json
showing_view (shown.Script database folder) = Showing.script database folder.now

abbrev pub aim_view : Aims → Aim
aim_view (aim.Run folder) = run folder.now
aim_view (aim.RunNatural folder) = run_natural folder.now
aim_view (aim.RunJson folder) = run_json folder.now
aim_view (aim.RunJsonTables folder) = run_json_tables folder.now
aim_view (aim.Lineage writing folder) = lineage writing folder.now
aim_view (aim.Stitch folder) = stitch folder.now
aim_view (aim.StitchJson folder) = stitch_json folder.now
aim_view aim.Check = check
aim_view aim.ShowTypes = show_types
aim_view aim.ShowNormal = show_normal
aim_view aim.ShowPaths = show_paths
aim_view aim.ShowNatural = show_natural
aim_view (aim.ShowTexts showing) = show_texts (showing_view showing)

abbrev pub subject_view : Subjects → Subject
subject_view (subject.Query name) = a_query name.now
subject_view (subject.Sql name) = an_sql_text name.now
subject_view (subject.Table name folder) = a_table name.now folder.now

abbrev pub command_view : Words → Command
command_view words.Help = help
command_view (words.HelpOn topic) = help_on topic
command_view words.Version = version
command_view (words.OfQuery aim schema query) = of_query (aim_view aim) schema.now query.now
command_view (words.Answer writing schema text folder) =
    answer (row_writing_view writing) schema.now text.now folder.now
command_view (words.Generated size) = generated size
command_view (words.ShowLoad database schema) = show_load database schema.now
command_view (words.Explain schema subject) = explain schema.now (subject_view subject)
command_view (words.ExplainRule rule) = explain_rule rule

-- a size is one for which tables are generated
abbrev pub HasSize : Words → Type 0
HasSize words.Help = ⊤
HasSize (words.HelpOn topic) = ⊤
HasSize words.Version = ⊤
HasSize (words.OfQuery aim schema query) = ⊤
HasSize (words.Answer writing schema text folder) = ⊤
HasSize (words.Generated size) = IsSize size
HasSize (words.ShowLoad database schema) = ⊤
HasSize (words.Explain schema subject) = ⊤
HasSize (words.ExplainRule rule) = ⊤
