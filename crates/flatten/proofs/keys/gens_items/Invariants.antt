use Rattle.std.proofs.Common.{◌≡◌, ◌++◌, map, drop}
use Rattle.flatten.specs.Views.{item_view, gens_items}
use Rattle.flatten.proofs.keys.gens_items.Given as goal

abbrev pub invariant-loop-generator : goal.invariant-loop-generator
invariant-loop-generator l = map item_view l.items ++ gens_items l.schema.tables (drop l.generator-index l.gens) ≡ gens_items l.schema.tables l.gens
