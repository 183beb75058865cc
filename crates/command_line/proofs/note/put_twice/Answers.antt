use Rattle.command_line.proofs.note.put_twice.Goals as goal

pub returns : goal.returns
returns g c =
    rw (
      c.as_bytes-answer.ensures.value,
      c.format.ensures.text,
      c.as_bytes-row.ensures.value,
      c.format-2.ensures.text,
      c.as_bytes-column.ensures.value,
      c.format-3.ensures.text,
      c.as_bytes-earlier.ensures.value,
      c.format-4.ensures.text,
    ) at c.put_nine.ensures
