use Rattle.std.proofs.Common.{sym, ◌∙◌}
use Rattle.schema_reader.specs.Fronts.{mark_view}
use Rattle.schema_reader.proofs.Pieces.{has_white, has_comment, has_word, has_mark}
use Rattle.schema_reader.proofs.front.front_at.Goals as goal

pub returns-then-is_white : goal.returns-then-is_white
returns-then-is_white c = has_white c.args.place c.in-Some.first.now c.in-Some.field-0-1.now c.args.bytes.now c.in-Some.ensures.cases.0 (sym c.is_white.ensures ∙ c.if-is_white.true)

pub returns-then-first-eq35 : goal.returns-then-first-eq35
returns-then-first-eq35 c = has_comment c.args.place c.in-Some.first.now c.comment_len.result c.in-Some.field-0-1.now c.args.bytes.now c.in-Some.ensures.cases.0 c.if-first-eq35.true c.comment_len.ensures

pub returns-then-begins_word : goal.returns-then-begins_word
returns-then-begins_word c = has_word c.args.place c.in-Some.first.now c.in-Some.field-0-1.now c.args.bytes.now c.word-word.result.now c.in-Some.ensures.cases.0 (sym c.begins_word.ensures ∙ c.if-begins_word.true) c.word-word.ensures

pub returns-in-Some-mark_of : goal.returns-in-Some-mark_of
returns-in-Some-mark_of c =
    has_mark c.args.place c.in-Some.first.now c.in-Some.field-0-1.now c.args.bytes.now (mark_view c.in-Some-mark_of.mark) c.in-Some.ensures.cases.0 (sym c.in-Some-mark_of.ensures)
