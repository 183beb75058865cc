use Rattle.command_line.proofs.note.put_links.Goals as goal

pub returns-in-Dangling : goal.returns-in-Dangling
returns-in-Dangling g c = rw c.in-Dangling.is c.put_dangling.ensures

pub returns-in-Twice : goal.returns-in-Twice
returns-in-Twice g c = rw c.in-Twice.is c.put_twice.ensures
