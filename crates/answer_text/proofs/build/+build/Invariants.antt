use Rattle.std.proofs.Common.{drop}
use Rattle.answer_text.specs.Building.{rows_left}
use Rattle.answer_text.proofs.Building.{AreFilled, types_of}
use Rattle.answer_text.proofs.build.+build.Given as goal

abbrev pub invariant-parts_of-loop-field : goal.invariant-parts_of-loop-field
invariant-parts_of-loop-field l =
    AreFilled (types_of l.fields) (rows_left l.initial.left) l.initial.column l.parts
    (types_of (drop l.field-index l.fields)) (rows_left l.left) l.column
