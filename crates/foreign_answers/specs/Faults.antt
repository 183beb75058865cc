-- What the faults of answers say.
use Rattle.std.specs.Prelude.{Option, None, Some}
use Rattle.table_reader.specs.declared.TableFault.{TableFault}
use Rattle.table_reader.specs.declared.TableFault.TheVariants as table
use Rattle.stitcher.specs.Linked as linked
use Rattle.foreign_answers.specs.declared.faults.AnswerFault.{AnswerFault}
use Rattle.foreign_answers.specs.declared.faults.AnswerFault.TheVariants as answer
use Rattle.foreign_answers.specs.declared.faults.LinkFault.{LinkFault}
use Rattle.foreign_answers.specs.declared.faults.LinkFault.TheVariants as link

-- the fault of an answer's text, as that of a table text
abbrev pub as_table_fault : AnswerFault → TableFault
as_table_fault answer.Memory = table.Memory
as_table_fault answer.Header = table.Header
as_table_fault (answer.Width row) = table.Width row
as_table_fault (answer.NotUtf8 row column) = table.NotUtf8 row column
as_table_fault (answer.BadInt row column) = table.BadInt row column
as_table_fault (answer.BadBool row column) = table.BadBool row column

-- the fault of links that a fault tells; want of memory tells none
abbrev pub told : LinkFault → Option linked.LinkFault
told link.Memory = None
told (link.Dangling answer row) = Some (linked.dangling answer row)
told (link.Twice answer row column earlier) = Some (linked.twice answer row column earlier)
