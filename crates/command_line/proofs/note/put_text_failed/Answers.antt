use Rattle.command_line.proofs.note.put_text_failed.Goals as goal

pub returns : goal.returns
returns g c = rw (c.as_bytes-text.ensures.value, c.format.ensures.text) at c.put_three.ensures
