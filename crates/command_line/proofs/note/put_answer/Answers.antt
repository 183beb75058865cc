use Rattle.command_line.proofs.note.put_answer.Goals as goal

pub returns : goal.returns
returns g c = rw (c.as_bytes-number.ensures.value, c.format.ensures.text) at c.put_answer_fault.ensures
