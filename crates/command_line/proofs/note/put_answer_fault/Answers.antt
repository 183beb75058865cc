use Rattle.command_line.proofs.note.put_answer_fault.Goals as goal

pub returns-in-Width : goal.returns-in-Width
returns-in-Width g c = rw c.in-Width.is c.put_at_row.ensures

pub returns-in-NotUtf8 : goal.returns-in-NotUtf8
returns-in-NotUtf8 g c = rw c.in-NotUtf8.is c.put_at_both.ensures

pub returns-in-BadInt : goal.returns-in-BadInt
returns-in-BadInt g c = rw c.in-BadInt.is c.put_at_both-in-BadInt.ensures

pub returns-in-BadBool : goal.returns-in-BadBool
returns-in-BadBool g c = rw c.in-BadBool.is c.put_at_both-in-BadBool.ensures
