use Rattle.std.proofs.Common.{◌≡◌, true, take}
use Rattle.std.specs.List.{All}
use Rattle.answer_text.specs.Indexes.{is_index}
use Rattle.answer_text.specs.Spans.{index_of}
use Rattle.answer_text.proofs.runs.run_length.Given as goal

abbrev pub invariant-loop-at : goal.invariant-loop-at
invariant-loop-at l = All (λ place. is_index (index_of l.rows place) l.index ≡ true)
    (take l.at l.places)
