use Rattle.command_line.proofs.note.put_json_table.Goals as goal

pub returns-in-BadRow : goal.returns-in-BadRow
returns-in-BadRow g c = rw c.in-BadRow.is c.put_at_row.ensures

pub returns-in-BadCell : goal.returns-in-BadCell
returns-in-BadCell g c = rw c.in-BadCell.is c.put_at_both.ensures

pub returns-in-TwiceKey : goal.returns-in-TwiceKey
returns-in-TwiceKey g c = rw c.in-TwiceKey.is c.put_at_both-in-TwiceKey.ensures
