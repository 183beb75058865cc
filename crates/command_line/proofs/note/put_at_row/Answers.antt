use Rattle.command_line.proofs.note.put_at_row.Goals as goal

pub returns : goal.returns
returns g c = rw (c.as_bytes-row.ensures.value, c.format.ensures.text) at c.put_five.ensures
