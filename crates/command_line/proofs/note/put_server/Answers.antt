use Rattle.command_line.proofs.note.put_server.Goals as goal

pub returns-in-TableFailed : goal.returns-in-TableFailed
returns-in-TableFailed g c = rw c.in-TableFailed.is (rw c.as_str.ensures.value at (rw c.as_bytes.ensures.value at c.put_three.ensures))

pub returns-in-TextFailed : goal.returns-in-TextFailed
returns-in-TextFailed g c = rw c.in-TextFailed.is c.put_text_failed.ensures

pub returns-in-BadAnswer : goal.returns-in-BadAnswer
returns-in-BadAnswer g c = rw c.in-BadAnswer.is c.put_bad_answer.ensures
