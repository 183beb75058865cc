use Rattle.std.proofs.Common.{◌≡◌, ◌++◌, map, drop}
use Rattle.sql_profile.specs.Trees.{expr_tree}
use Rattle.flatten.specs.Emitted.{in_gens}
use Rattle.flatten.specs.Views.{gens_exprs}
use Rattle.flatten.proofs.keys.push_keys.Given as goal

abbrev pub invariant-loop-generator : goal.invariant-loop-generator
invariant-loop-generator l =
    map expr_tree l.keys ++ gens_exprs l.schema.tables (in_gens l.outer) (drop l.generator-index l.gens) ≡ map expr_tree l.initial.keys ++ gens_exprs l.schema.tables (in_gens l.outer) l.gens
