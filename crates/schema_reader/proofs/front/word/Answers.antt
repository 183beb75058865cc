use Rattle.schema_reader.proofs.Pieces.{word_utf8}
use Rattle.schema_reader.proofs.front.word.Goals as goal

pub unreachable-requires : goal.unreachable-requires
unreachable-requires c = c.in-Err.ensures.cases.0 (word_utf8 c.args.bytes.now c.word_len.result c.word_len.ensures)
