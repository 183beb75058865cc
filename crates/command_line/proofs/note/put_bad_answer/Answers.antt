use Rattle.command_line.proofs.note.put_bad_answer.Goals as goal

pub returns : goal.returns
returns g c =
    rw (c.as_bytes-text.ensures.value, c.format.ensures.text, c.as_bytes-row.ensures.value, c.format-2.ensures.text, c.as_bytes-column.ensures.value, c.format-3.ensures.text) at c.put_seven.ensures
