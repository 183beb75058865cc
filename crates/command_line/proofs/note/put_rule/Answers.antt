use Rattle.command_line.proofs.note.put_rule.Goals as goal

pub returns : goal.returns
returns g c =
    rw (c.as_bytes-rule.ensures.value, c.format.ensures.text, c.as_bytes-place.ensures.value, c.format-2.ensures.text) at c.put_five.ensures
