use Rattle.std.proofs.Common.{sym}
use Rattle.sql_reader.proofs.Fronts.{other_length}
use Rattle.sql_reader.proofs.marks.is_keyword.Goals as goal

pub returns-then-word-keyword : goal.returns-then-word-keyword
returns-then-word-keyword c = sym (other_length c.args.keyword.now c.args.word.now c.if-word-keyword.true)
