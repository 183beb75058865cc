use Rattle.std.proofs.Common.{◌≡◌, drop}
use Rattle.explanations.specs.Groups.{groups_view}
use Rattle.explanations.specs.SqlPlaces.{sentence_of}
use Rattle.explanations.proofs.sql_places.sentence_of.Given as goal

abbrev pub invariant-loop-row : goal.invariant-loop-row
invariant-loop-row l =
    sentence_of (groups_view (drop l.row-index l.rows)) l.word
    ≡ sentence_of (groups_view l.rows) l.word
