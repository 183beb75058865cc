use Rattle.command_line.proofs.note.put_at_both.Goals as goal

pub returns : goal.returns
returns g c =
    rw (c.as_bytes-row.ensures.value, c.format.ensures.text, c.as_bytes-second.ensures.value, c.format-2.ensures.text) at c.put_seven.ensures
