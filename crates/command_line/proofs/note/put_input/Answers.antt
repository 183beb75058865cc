use Rattle.command_line.proofs.note.put_input.Goals as goal

pub returns-in-Failed : goal.returns-in-Failed
returns-in-Failed g c = rw c.in-Failed.is (rw c.as_str.ensures.value at (rw c.as_bytes.ensures.value at c.put_three.ensures))
