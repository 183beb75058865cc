use Rattle.std.proofs.Common.{◌≡◌, take, map}
use Rattle.explanations.specs.Lists.{words_view}
use Rattle.explanations.proofs.lines.table_names.Given as goal

abbrev pub invariant-loop-shape : goal.invariant-loop-shape
invariant-loop-shape l =
    words_view l.names ≡ map (λ shape. shape.name) (take l.shape-index l.schema.tables)
