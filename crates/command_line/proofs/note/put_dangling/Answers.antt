use Rattle.command_line.proofs.note.put_dangling.Goals as goal

pub returns : goal.returns
returns g c = rw (c.as_bytes-answer.ensures.value, c.format.ensures.text) at c.put_at_row.ensures
