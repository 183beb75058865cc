use Rattle.std.specs.List.{All}
use Rattle.answer_text.specs.Spans.{AreEmpty}
use Rattle.answer_text.proofs.spans.empty_lists.Given as goal

abbrev pub invariant-loop-count : goal.invariant-loop-count
invariant-loop-count l = All AreEmpty l.listed.items
