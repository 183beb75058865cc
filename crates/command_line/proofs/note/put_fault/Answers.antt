use Rattle.command_line.proofs.note.put_fault.Goals as goal

pub returns : goal.returns
returns g c = rw (c.as_bytes-place.ensures.value, c.format.ensures.text) at c.put_seven.ensures
