use Rattle.std.proofs.Common.{◌≡◌, take}
use Rattle.explanations.specs.Lists.{words_view}
use Rattle.explanations.specs.SqlFound.{type_words}
use Rattle.explanations.proofs.sql_found.type_words.Given as goal

abbrev pub invariant-loop-ty : goal.invariant-loop-ty
invariant-loop-ty l = words_view l.words ≡ type_words (take l.ty-index l.types)
