use Rattle.std.proofs.Common.{◌∙◌, ◌++◌, [], ap}
use Rattle.nq_model.specs.Types.{type_tree}
use Rattle.nq_ir.specs.Paths.{paths}
use Rattle.shred_types.specs.Under.{steps_of, under}
use Rattle.shred_types.proofs.Under.{under_nothing}
use Rattle.shred_types.proofs.walk.paths.Goals as goal

pub returns : goal.returns
returns c = c.in_ok-push_paths.ensures ∙ ap (λ l. steps_of l ++ under [] (paths (type_tree c.args.of.now))) c.new-all.ensures ∙ under_nothing (paths (type_tree c.args.of.now))
